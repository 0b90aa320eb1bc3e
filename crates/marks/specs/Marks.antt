-- The trial record: an entry a trial, four bytes each. Definitions only.
use Rattle.std.specs.Prelude.{ℕ, suc, ◌+◌, ◌*◌, ◌/◌, ◌%◌, List, [], ◌∷◌, set}
use Rattle.causes.specs.Causes.{flip_number}
use Rattle.entries.specs.declared.Entry.{Entry}
use Rattle.entries.specs.declared.Entry.TheVariants.{Freed, Grounded, Singular, Wild, Stepped, Converged}
use Rattle.marks.specs.declared.Mark.{Mark}

-- the mark and the number of an entry: VF, GN, SG, NF, ST, OK
unfoldable pub mark_of : Entry → Mark
unfolding flip_number
mark_of (Freed i) = record { first = 86; second = 70; number = i.0 }
mark_of (Grounded i) = record { first = 71; second = 78; number = i.0 }
mark_of (Singular i) = record { first = 83; second = 71; number = i.0 }
mark_of (Wild p) = record { first = 78; second = 70; number = p }
mark_of (Stepped next flip) = record { first = 83; second = 84; number = flip_number flip }
mark_of (Converged flip) = record { first = 79; second = 75; number = flip_number flip }

-- a record with a mark and its number, the lower byte first, as its ith entry
unfoldable pub put_of : List ℕ → ℕ → Mark → List ℕ
put_of r i m = set (set (set (set r (4 * i) m.first) (4 * i + 1) m.second) (4 * i + 2) (m.number % 256)) (4 * i + 3) (m.number / 256 % 256)

-- with these entries from the ith on
unfoldable pub written : ℕ → List Entry → List ℕ → List ℕ
unfolding put_of mark_of
written i [] r = r
written i (e ∷ es) r = written (suc i) es (put_of r i (mark_of e))
