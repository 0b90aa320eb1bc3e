-- What was lent before does not matter: a matrix of 4,096 and a right side of 64 entries are filled alike, whatever they held. Assumes nothing.
use mathlib.Core.Path.{◌≡◌, refl, sym, ◌∙◌}
use mathlib.Core.Bool.{Bool}
use mathlib.Core.List.{List}
use Prim.Native.Nat.{ℕ}
use lib.ListN.{length}
use lib.Ieee.{Float}
use Rattle.columns.specs.Columns.{cleared}
use Rattle.assembly.specs.Assembly.{System, system, View, with_links, right_of, grounded_of, assemble_of}
use Rattle.bends.specs.Bends.{bent_matrix}
use Rattle.layout.specs.declared.places.Layout.{Layout}
use Rattle.assembly.proofs.Built.{assembled}
use Rattle.columns.proofs.Laws.{cleared_same}

pub fresh : (s : List ℕ) (l : Layout) (v : View) (demands drawn : List Float) (marks : List Bool) (m m₁ r r₁ g y : List Float)
    → length m ≡ 4096 → length m₁ ≡ 4096 → length r ≡ 64 → length r₁ ≡ 64
    → assemble_of s l v demands drawn marks (system m r g y) ≡ assemble_of s l v demands drawn marks (system m₁ r₁ g y)
fresh s l v demands drawn marks m m₁ r r₁ g y a b d e =
    let w : System = with_links s l v l.links (system (cleared 4096 m) (cleared 64 r) g y) in
    let m₂ : List Float = bent_matrix s l demands drawn w.matrix in
    let m₃ : List Float = grounded_of s l marks l.nodes m₂ in
    let r₂ : List Float = right_of s l demands drawn w.rhs in
    sym (assembled s l v demands drawn marks m r g y (cleared 4096 m) (cleared 64 r) w.matrix w.rhs w.g w.y m₂ m₃ r₂ refl refl refl refl refl refl)
    ∙ assembled s l v demands drawn marks m₁ r₁ g y (cleared 4096 m) (cleared 64 r) w.matrix w.rhs w.g w.y m₂ m₃ r₂ (cleared_same 4096 m m₁ a b) (cleared_same 64 r r₁ d e) refl refl refl refl
