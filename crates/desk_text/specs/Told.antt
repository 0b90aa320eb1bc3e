-- What became of a text as the caller gets it: six counts, and the two lent buffers. Definitions only.
use Rattle.std.specs.Prelude.{ℕ, List, [], ◌∷◌}
use Rattle.from_text.specs.FromText.{FromText}
use Rattle.from_text.specs.declared.Taken.{Taken}

-- number, place, nodes, links, bytes of the sheet, bytes of the names
unfoldable pub counts_of : Taken → List ℕ
counts_of t = t.number ∷ t.place ∷ t.nodes ∷ t.links ∷ t.bytes ∷ t.names ∷ []

pub record Told : Type 0 where
  pub counts : List ℕ
  pub sheet : List ℕ
  pub names : List ℕ

unfoldable pub told_of : FromText → Told
unfolding counts_of
told_of o = record { counts = counts_of o.taken; sheet = o.sheet; names = o.names }
