-- Line 2 of the verdict: the first entry of a record that is a repair. Definitions only.
use Rattle.std.specs.Prelude.{ℕ, ◌+◌, ◌*◌, Bool, ◌&&◌, ◌||◌, List, eqb, get_or, Option}
use Rattle.found.specs.Searches.{first_of}

-- the ith entry's two letters are VF (86, 70) or GN (71, 78)
unfoldable pub shows : List ℕ → ℕ → Bool
shows bytes i = (eqb (get_or bytes (4 * i) 0) 86 && eqb (get_or bytes (4 * i + 1) 0) 70) || (eqb (get_or bytes (4 * i) 0) 71 && eqb (get_or bytes (4 * i + 1) 0) 78)

-- the first of n entries that does
unfoldable pub repair_shown : List ℕ → ℕ → Option ℕ
unfolding shows
repair_shown bytes n = first_of (shows bytes) n
