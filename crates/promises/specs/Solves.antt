-- When a solve comes to its trials. Definitions only.
use Rattle.std.specs.Prelude.{◌≡◌, List, ℕ, length, None, Ok, Option}
use Rattle.sheet.specs.Read.{read_of}
use Rattle.layout.specs.declared.places.Layout.{Layout}
use Rattle.answers.specs.Answers.{Lent, too_short}
use Rattle.solver.specs.Solve.{trials_of}

-- the lowest place of a lent buffer that is too short for the sheet
unfoldable pub short_in : List ℕ → Layout → Lent → Option ℕ
unfolding too_short
short_in s l b = too_short l (trials_of s) (length b.heads) (length b.demands) (length b.flows) (length b.statuses) (length b.entries) (length b.scratch)

-- the sheet is read and no buffer is too short
pub record Runs (s : List ℕ) (b : Lent) (l : Layout) : Type 0 where
  pub read : read_of s ≡ Ok l
  pub enough : short_in s l b ≡ None
