-- What an accepted sheet is, field by field, and the one cause of each number. Definitions only.
use Rattle.std.specs.Prelude.{◌≡◌, Bool, true, false, cond, ◌&&◌, List, ℕ, ◌≤◌, ◌<◌, eqb, leb, length, Err, None, Ok, Option, Some}
use Rattle.layout.specs.Places.{node_place, link_place}
use Rattle.layout.specs.declared.places.Layout.{Layout}
use Rattle.sheet.specs.Scan.{has_options, layout_of, end_of}
use Rattle.fields.specs.Fields.{options_good, pressures_good, node_good, link_good}
use Rattle.ends.specs.Ends.{ends_good}
use Rattle.sheet.specs.Read.{bad_field, bad_ends, with_unknowns, Reading}
use Rattle.fields.specs.declared.fields.Bounds.{Bounds}
use Rattle.refusals.specs.Refusals.{number_of}

-- a sheet laid out so: one OP, a PD or none, then ND and LK as they were counted, and nothing after, so many as the bounds allow, every record's fields good, every link's ends good
pub record Accepted (b : Bounds) (s : List ℕ) (l : Layout) : Type 0 where
  pub first : has_options s ≡ true
  pub laid : l ≡ with_unknowns s (layout_of s)
  pub whole : link_place l l.links ≡ length s
  pub some : 1 ≤ l.nodes
  pub few_nodes : l.nodes ≤ b.nodes
  pub few_links : l.links ≤ b.links
  pub options : options_good b s ≡ true
  pub pressures : l.pressures ≡ true → pressures_good b s ≡ true
  pub each_node : (i : ℕ) → i < l.nodes → node_good b s (node_place l i) ≡ true
  pub each_link : (j : ℕ) → j < l.links → link_good b l.nodes s (link_place l j) ≡ true
  pub each_ends : (j : ℕ) → j < l.links → ends_good l s (link_place l j) ≡ true

-- ---- the cause of each number

abbrev pub none : Option ℕ → Bool
none (Some at) = false
none None = true

-- 1 to 4 in their order, each where those before it have no cause; 0 where none has
unfoldable pub cause_of : Bounds → List ℕ → ℕ
cause_of b s =
    let l = layout_of s in
    cond {A = ℕ} (has_options s && eqb (end_of s) (length s))
    (cond {A = ℕ} (leb 1 l.nodes && leb l.nodes b.nodes && leb l.links b.links)
    (cond {A = ℕ} (none (bad_field b l s)) (cond {A = ℕ} (none (bad_ends l s)) 0 4) 3)
    2)
    1

-- the number of a reading: 0 where the sheet is accepted
abbrev pub number_in : Reading → ℕ
number_in (Ok l) = 0
number_in (Err r) = number_of r
