-- What stands in the bytes of a record. Definitions only.
use Rattle.std.specs.Prelude.{ℕ, ◌+◌, ◌*◌, ◌/◌, ◌%◌, ◌≡◌, Bool, ◌&&◌, List, eqb, get_or}
use Rattle.entries.specs.declared.Entry.{Entry}
use Rattle.marks.specs.Marks.{mark_of}
use Rattle.answers.specs.Answers.{Solved}
use Rattle.promises.specs.Count.{count}

-- the ith entry has a mark of two letters: VF is 86, 70 and GN is 71, 78
unfoldable pub marked : ℕ → ℕ → List ℕ → ℕ → Bool
marked a b bytes i = eqb (get_or bytes (4 * i) 0) a && eqb (get_or bytes (4 * i + 1) 0) b

-- the number of the ith entry, the lower byte first
abbrev pub number_at : List ℕ → ℕ → ℕ
number_at bytes i = get_or bytes (4 * i + 2) 0 + 256 * get_or bytes (4 * i + 3) 0

-- an answer's counts are those of the marks in its record
pub record Counted (o : Solved) : Type 0 where
  pub freed : o.answer.freed ≡ count o.answer.trials (marked 86 70 o.lent.entries)
  pub grounded : o.answer.grounded ≡ count o.answer.trials (marked 71 78 o.lent.entries)

-- the ith entry's four bytes are the mark and the number of this entry
pub record Shown (bytes : List ℕ) (i : ℕ) (e : Entry) : Type 0 where
  pub first : get_or bytes (4 * i) 0 ≡ (mark_of e).first
  pub second : get_or bytes (4 * i + 1) 0 ≡ (mark_of e).second
  pub low : get_or bytes (4 * i + 2) 0 ≡ (mark_of e).number % 256
  pub high : get_or bytes (4 * i + 3) 0 ≡ (mark_of e).number / 256 % 256
