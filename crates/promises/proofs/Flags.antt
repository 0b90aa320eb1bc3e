-- On a sheet that is read, a node is in use (byte 0) exactly where its record is not disabled (byte 1). Assumes nothing.
use Prim.Native.Nat.{ℕ, suc, ◌+◌, ◌≤◌, ◌<◌}
use mathlib.Core.Path.{◌≡◌, refl, sym, ◌∙◌}
use mathlib.Core.Bool.{Bool, true, false, not, ◌&&◌}
use mathlib.Core.List.{List}
use mathlib.Core.Logic.{⊎_elim}
use native.Mathlib.Nat.{eq-or-lt_of_le}
use native.Mathlib.Omega.{arith}
use borrow.Author.Tests.{leb-true, eq-eqb, ne_eqb}
use lib.Dec.{leb, eqb}
use Rattle.layout.specs.Places.{node_place}
use Rattle.records.specs.Records.{byte_at, node_at}
use Rattle.fields.specs.Fields.{base_bounds, all_within, node_good}
use Rattle.sheet.specs.Read.{read_of}
use Rattle.layout.specs.declared.places.Layout.{Layout}
use Rattle.sheet.proofs.Laws.{and_left, and_right}
use Rattle.accepted.proofs.Accepts.{accepts}
use Rattle.nodes.specs.Nodes.{enabled, node_of}
use Rattle.std.specs.Prelude.{Ok}

flag : (s : List ℕ) (at : ℕ) → node_good base_bounds s at ≡ true → byte_at s (at + 3) ≤ 1
unfolding node_good
flag s at h =
    let a = leb (byte_at s (at + 2)) 2 in
    let b = leb (byte_at s (at + 3)) 1 in
    let c = all_within base_bounds 5 s (at + 4) in
    leb-true (byte_at s (at + 3)) 1 (and_right a b (and_left (a && b) c (and_left (a && b && c) (leb (byte_at s (at + 44)) 1) h)))

opposite : (x : ℕ) → x ≤ 1 → eqb x 0 ≡ not (eqb x 1)
opposite x h =
    ⊎_elim
    (λ (e : x ≡ 1). rw (eq-eqb x 1 e, ne_eqb x 0 (λ z. omega (arith, e, z))))
    (λ (v : x < 1). rw (ne_eqb x 1 (λ z. omega (arith, v, z)), eq-eqb x 0 (omega (arith, v))))
    (eq-or-lt_of_le h)

pub in_use : (s : List ℕ) (l : Layout) → read_of s ≡ Ok l → (i : ℕ) → i < l.nodes → enabled s l i ≡ not (node_of s l i).disabled
unfolding read_of enabled node_of node_at
in_use s l h i v = opposite (byte_at s (node_place l i + 3)) (flag s (node_place l i) ((accepts base_bounds s l h).each_node i v))
