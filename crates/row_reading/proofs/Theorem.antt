-- A good sheet with a row of demands in it reads as refusal 3 at the first bad demand, or as it did. Assumes nothing.
use Prim.Native.Nat.{ℕ, ◌+◌, ◌*◌, ◌≤◌, ◌<◌}
use mathlib.Core.Path.{◌≡◌, refl, sym, ap, ◌∙◌, subst}
use mathlib.Core.Bool.{Bool, true, false, not}
use mathlib.Core.List.{List}
use native.Mathlib.Omega.{arith}
use lib.ListN.{get_or}
use lib.Ieee.{Float}
use Rattle.layout.specs.Places.{node_place}
use Rattle.layout.specs.declared.places.Layout.{Layout}
use Rattle.found.specs.Searches.{first_of}
use Rattle.fields.specs.Fields.{base_bounds, within, node_good}
use Rattle.refusals.specs.declared.refusals.Refusal.TheVariants.{Field}
use Rattle.sheet.specs.Scan.{nodes_at, nodes_of, layout_of}
use Rattle.sheet.specs.Read.{first_bad, bad_node, unless, with_unknowns, read_of}
use Rattle.accepted.specs.Accepted.{Accepted}
use Rattle.accepted.proofs.Accepts.{accepts, laid_are}
use Rattle.row_sheet.specs.RowSheet.{row_sheet, outside, bad_demand}
use Rattle.row_sheet.proofs.Laws.{row_long}
use Rattle.row_reading.specs.RowReading.{row_reading, AllFit, RowReads}
use Rattle.row_reading.proofs.Bytes.{row_kept, row_back}
use Rattle.row_reading.proofs.Same.{same_high}
use Rattle.row_reading.proofs.Layouts.{reading-same}
use Rattle.row_reading.proofs.Nodes.{but_demand, bad_first}
use Rattle.std.specs.Prelude.{Ok, Option}

twice : (b : Bool) → b ≡ not (not b)
twice true = refl
twice false = refl

-- where the nodes of a good sheet stand, and how many there are
starts_at : (s : List ℕ) → (with_unknowns s (layout_of s)).node0 ≡ nodes_at s
unfolding with_unknowns layout_of nodes_at
starts_at s = refl

so_many : (s : List ℕ) → (with_unknowns s (layout_of s)).nodes ≡ nodes_of s
unfolding with_unknowns layout_of
so_many s = refl

-- a search through the nodes asks nothing of their unknowns
node_search : (s t : List ℕ) (l : Layout) → bad_node base_bounds (with_unknowns s l) t ≡ bad_node base_bounds l t
unfolding bad_node with_unknowns
node_search s t l = refl

module _ (s : List ℕ) (l : Layout) (table : List Float) (r : ℕ) (good : read_of s ≡ Ok l) (fit : AllFit table) where
  a : Accepted base_bounds s l
  unfolding read_of
  a = accepts base_bounds s l good

  at : l.node0 ≡ nodes_at s
  at = ap (λ (k : Layout). k.node0) a.laid ∙ starts_at s

  many : l.nodes ≡ nodes_of s
  many = ap (λ (k : Layout). k.nodes) a.laid ∙ so_many s

  abbrev t : List ℕ
  t = row_sheet s l table r

  kept : (p : ℕ) → ((i : ℕ) → i < l.nodes → l.node0 + 45 * i + 12 ≤ p → p < l.node0 + 45 * i + 20 → ⊥) → get_or t p 0 ≡ get_or s p 0
  kept p h = row_kept s l table r p h

  kept_at : (p : ℕ) → ((i : ℕ) → i < nodes_of s → nodes_at s + 45 * i + 12 ≤ p → p < nodes_at s + 45 * i + 20 → ⊥) → get_or t p 0 ≡ get_or s p 0
  kept_at p h = kept p (λ i m c d. h i (omega (arith, many)) (omega (arith, at)) (omega (arith, at)))

  -- a node is good where its demand is within bounds
  node_tested : (i : ℕ) → i < l.nodes → node_good base_bounds t (node_place l i) ≡ not (outside l table r i)
  unfolding outside
  node_tested i h =
      but_demand base_bounds s t (node_place l i) (a.each_node i h) (λ p c d. low p c d) (λ p c d. same_high s t l.node0 l.nodes kept i p c d)
      ∙ ap (within base_bounds) (row_back s l table r fit (laid_are base_bounds s l a).nodes i h)
      ∙ twice _
    where
      low : (p : ℕ) → node_place l i ≤ p → p < node_place l i + 12 → get_or t p 0 ≡ get_or s p 0
      low p c d = kept p (λ j m x y. omega arith)

  nodes_bad : bad_node base_bounds l t ≡ bad_demand l table r
  unfolding bad_node bad_demand first_of
  nodes_bad =
      let e : l.node0 + 45 * 0 ≡ l.node0 = omega arith in
      subst (λ (p : ℕ). first_bad (node_good base_bounds t) 45 l.nodes p ≡ bad_demand l table r) e (bad_first (node_good base_bounds t) (outside l table r) l l.nodes 0 (λ h m. node_tested h (omega arith)))

  reads : read_of t ≡ row_reading l table r
  unfolding read_of row_reading
  reads =
      let e : bad_node base_bounds (layout_of s) t ≡ bad_demand l table r =
      sym (node_search s t (layout_of s)) ∙ ap (λ (k : Layout). bad_node base_bounds k t) (sym a.laid) ∙ nodes_bad in
      reading-same s t (row_long s l table r) kept_at base_bounds l good ∙ ap (λ (f : Option ℕ). unless f Field (Ok l)) e

pub row_reads : RowReads
row_reads = reads
