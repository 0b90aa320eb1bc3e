-- What callers need of the definitions: the length stays. Assumes nothing.
use Prim.Native.Nat.{ℕ, zero, suc}
use mathlib.Core.Path.{◌≡◌, refl, ◌∙◌}
use mathlib.Core.List.{List}
use lib.ListN.{length, length-set}
use lib.Ieee.{Float}
use Rattle.substitution.specs.Substitution.{forward, back, solved}
use Rattle.substitution.proofs.SubstituteTurns.{length_forward}

length_back : (l : List Float) (n r : ℕ) (x : List Float) → length (back l n r x) ≡ length x
unfolding back
length_back l n zero x = refl
length_back l n (suc r) x = length_back l n r _ ∙ length-set x r _

-- a substitution keeps the right side's length
pub solved_length : (l : List Float) (n : ℕ) (x : List Float) → length (solved l n x) ≡ length x
unfolding solved
solved_length l n x = length_back l n n (forward l n x) ∙ length_forward l n x
