-- What an evening's call tells as the caller gets it: its number and place. Definitions only.
use Rattle.std.specs.Prelude.{ℕ, List, [], ◌∷◌}
use Rattle.rowwise.specs.Rooms.{Lends}
use Rattle.rowwise.specs.Evening.{Evening}
use Rattle.rowwise.specs.declared.admitting.Called.{Called}

unfoldable pub called_of : Called → List ℕ
called_of c = c.number ∷ c.place ∷ []

-- and what was lent after it
pub record Heard : Type 0 where
  pub called : List ℕ
  pub lends : Lends

unfoldable pub heard_of : Evening → Heard
unfolding called_of
heard_of o = record { called = called_of o.called; lends = o.lends }
