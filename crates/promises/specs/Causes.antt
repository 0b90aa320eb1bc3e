-- Why each number is told, and at which place. Definitions only.
use Rattle.std.specs.Prelude.{ℕ, suc, ◌-◌, ◌≤◌, ◌<◌, ◌≡◌, List, length, get_or, Err, Ok, Some}
use Rattle.refusals.specs.Refusals.{number_of, place_of}
use Rattle.refusals.specs.declared.refusals.Refusal.{Refusal}
use Rattle.sheet.specs.Read.{read_of}
use Rattle.layout.specs.declared.places.Layout.{Layout}
use Rattle.entries.specs.Entries.{no_entry}
use Rattle.entries.specs.declared.Entry.{Entry}
use Rattle.entries.specs.declared.Entry.TheVariants.{Freed, Grounded, Singular, Wild, Stepped, Converged}
use Rattle.entries.specs.declared.Ended.{Ended}
use Rattle.entries.specs.declared.Ended.TheVariants.{Balanced, Failed, Strayed, Limit}
use Rattle.runs.specs.Run.{Run}
use Rattle.answers.specs.Answers.{Lent}
use Rattle.solver.specs.Solve.{trials_of}
use Rattle.promises.specs.Trials.{Point, run_in, point_in}
use Rattle.promises.specs.Solves.{short_in, Runs}

-- the number and the place of each end of a run of at most so many trials
unfoldable pub end_number : Ended → ℕ
end_number Balanced = 0
end_number (Failed v) = 6
end_number (Strayed p) = 7
end_number Limit = 8

unfoldable pub end_place : ℕ → Ended → ℕ
end_place trials Balanced = 0
end_place trials (Failed v) = v.0
end_place trials (Strayed p) = p
end_place trials Limit = trials

-- a number and a place have a cause: the sheet (1 to 4), a buffer that is too short (5), or how the run ended (0, 6, 7, 8)
pub data Cause (s : List ℕ) (b : Lent) : ℕ → ℕ → Type 0 where
  sheet : (r : Refusal) → read_of s ≡ Err r → Cause s b (number_of r) (place_of r)
  short : (l : Layout) (place : ℕ) → read_of s ≡ Ok l → short_in s l b ≡ Some place → Cause s b 5 place
  ended : (l : Layout) → Runs s b l → Cause s b (end_number (run_in s l).ended) (end_place (trials_of s) (run_in s l).ended)

-- how a run ends whose last entry this is
unfoldable pub end_by : Entry → Ended
end_by (Freed i) = Limit
end_by (Grounded i) = Limit
end_by (Singular v) = Failed v
end_by (Wild p) = Strayed p
end_by (Stepped d flip) = Limit
end_by (Converged flip) = Balanced

-- what the entries of a run tell of its end
pub record EndsBy (m : ℕ) (r : Run) : Type 0 where
  pub some : 1 ≤ m → 1 ≤ length r.entries
  pub last : 1 ≤ m → r.ended ≡ end_by (get_or r.entries (length r.entries - 1) no_entry)
  pub on : (i : ℕ) → suc i < length r.entries → end_by (get_or r.entries i no_entry) ≡ Limit
  pub limit : r.ended ≡ Limit → length r.entries ≡ m

-- the last entry of the run of a sheet, and where the run stands before it
unfoldable pub last_in : List ℕ → Layout → Entry
last_in s l = get_or (run_in s l).entries (length (run_in s l).entries - 1) no_entry

unfoldable pub before_last : List ℕ → Layout → Point
before_last s l = point_in s l (length (run_in s l).entries - 1)
