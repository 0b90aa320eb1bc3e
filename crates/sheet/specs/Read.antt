-- Refusals 1 to 4, in document 01's order: each is tested over the whole sheet before the next. Definitions only.
use Rattle.std.specs.Prelude.{ℕ, zero, suc, ◌+◌, Bool, true, cond, ◌&&◌, List, eqb, leb, length, Err, None, Ok, Option, Some, Result}
use Rattle.layout.specs.declared.places.Layout.{Layout}
use Rattle.found.specs.Searches.{or_else}
use Rattle.nodes.specs.Nodes.{serving}
use Rattle.sheet.specs.Scan.{has_options, layout_of, end_of}
use Rattle.fields.specs.Fields.{base_bounds, options_good, pressures_good, node_good, link_good}
use Rattle.ends.specs.Ends.{ends_good}
use Rattle.fields.specs.declared.fields.Bounds.{Bounds}
use Rattle.refusals.specs.declared.refusals.Refusal.{Refusal}
use Rattle.refusals.specs.declared.refusals.Refusal.TheVariants.{Unreadable, NodeCount, LinkCount, Field, Ends}

-- the layout of a sheet, or why it is refused
abbrev pub Reading : Type 0
Reading = Result Layout Refusal

-- the first of k records, each `size` bytes from the next, from `at` on, that is not good
unfoldable pub first_bad : (ℕ → Bool) → ℕ → ℕ → ℕ → Option ℕ
first_bad good size zero at = None
first_bad good size (suc k) at = cond (good at) (first_bad good size k (at + size)) (Some at)

-- the first link whose ends are not good
unfoldable pub bad_ends : Layout → List ℕ → Option ℕ
unfolding first_bad
bad_ends l s = first_bad (ends_good l s) l.stride l.links l.link0

-- the first link, the first node that has a field outside its bounds
unfoldable pub bad_link : Bounds → Layout → List ℕ → Option ℕ
unfolding first_bad
bad_link b l s = first_bad (link_good b l.nodes s) l.stride l.links l.link0

unfoldable pub bad_node : Bounds → Layout → List ℕ → Option ℕ
unfolding first_bad
bad_node b l s = first_bad (node_good b s) 45 l.nodes l.node0

-- no PD, or one within its bounds
unfoldable pub pressures_fine : Bounds → Layout → List ℕ → Bool
pressures_fine b l s = cond l.pressures (pressures_good b s) true

-- the first record that has one: OP, PD, nodes, links
unfoldable pub bad_field : Bounds → Layout → List ℕ → Option ℕ
unfolding bad_link bad_node pressures_fine
bad_field b l s = cond (options_good b s) (cond (pressures_fine b l s) (or_else (bad_node b l s) (bad_link b l s)) (Some 29)) (Some 0)

-- what a search for faults leads to
abbrev pub unless : Option ℕ → (ℕ → Refusal) → Reading → Reading
unless (Some at) refusal reading = Err (refusal at)
unless None refusal reading = reading

-- a layout with its unknowns counted: the junctions in service
unfoldable pub with_unknowns : List ℕ → Layout → Layout
unfolding serving
with_unknowns s l =
    record { nodes = l.nodes; links = l.links; unknowns = serving s l l.nodes; node0 = l.node0; link0 = l.link0; stride = l.stride; pressures = l.pressures }

-- 3 and 4
unfoldable pub checked : Bounds → Layout → List ℕ → Reading
unfolding bad_field bad_ends with_unknowns
checked b l s = unless (bad_field b l s) Field (unless (bad_ends l s) Ends (Ok (with_unknowns s l)))

-- 2
unfoldable pub after_scan : Bounds → Layout → List ℕ → Reading
unfolding checked
after_scan b l s =
    cond (leb 1 l.nodes && leb l.nodes b.nodes) (cond (leb l.links b.links) (checked b l s) (Err LinkCount)) (Err NodeCount)

-- 1
unfoldable pub read_with : Bounds → List ℕ → Reading
unfolding after_scan
read_with b s =
    cond (has_options s) (cond (eqb (end_of s) (length s)) (after_scan b (layout_of s) s) (Err (Unreadable (end_of s)))) (Err (Unreadable 0))

unfoldable pub read_of : List ℕ → Reading
unfolding read_with
read_of s = read_with base_bounds s
