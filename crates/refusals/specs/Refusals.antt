-- The number and the place of each refusal. Definitions only.
use Rattle.std.specs.Prelude.{ℕ}
use Rattle.refusals.specs.declared.refusals.Refusal.{Refusal}
use Rattle.refusals.specs.declared.refusals.Refusal.TheVariants.{Unreadable, NodeCount, LinkCount, Field, Ends}

-- document 01's number and place of a refusal
unfoldable pub number_of : Refusal → ℕ
number_of (Unreadable at) = 1
number_of NodeCount = 2
number_of LinkCount = 2
number_of (Field at) = 3
number_of (Ends at) = 4

unfoldable pub place_of : Refusal → ℕ
place_of (Unreadable at) = at
place_of NodeCount = 0
place_of LinkCount = 1
place_of (Field at) = at
place_of (Ends at) = at
