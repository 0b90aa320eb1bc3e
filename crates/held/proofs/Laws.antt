-- What is held comes back as it was. Assumes nothing.
use mathlib.Core.Path.{◌≡◌, refl, ap}
use mathlib.Core.Bool.{Bool, true, false}
use mathlib.Core.List.{List, [], ◌∷◌}
use Rattle.held.specs.Held.{marks_in, marks_out}

-- what is told is told again
pub marks_back : (z : List Bool) → marks_in (marks_out z) ≡ z
unfolding marks_in marks_out
marks_back [] = refl
marks_back (true ∷ z) = ap (λ (x : List Bool). true ∷ x) (marks_back z)
marks_back (false ∷ z) = ap (λ (x : List Bool). false ∷ x) (marks_back z)
