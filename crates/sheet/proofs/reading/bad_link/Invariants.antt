-- `sheet::reading::bad_link` meets its contract: what is left to search answers for the whole. Assumes nothing.
use mathlib.Core.Path.{◌≡◌, ◌∙◌, ap}
use Prim.Native.Nat.{ℕ, ◌+◌, ◌-◌, ◌≤◌}
use native.Mathlib.Omega.{arith}
use Rattle.layout.specs.Places.{link_place}
use Rattle.layout.proofs.Laws.{link_within, link_next, link_first}
use Rattle.fields.specs.Fields.{link_good}
use Rattle.sheet.specs.Read.{first_bad, bad_link}
use Rattle.sheet.proofs.Laws.{search_end, search-bad, search-on}
use mathlib.Core.Bool.{not}
use Rattle.sheet.proofs.reading.bad_link.Given as goal

abbrev pub invariant-loop-j : goal.invariant-loop-j
invariant-loop-j l = (first_bad (link_good l.b l.l.nodes l.sheet) l.l.stride (l.l.links - l.j) (link_place l.l l.j) ≡ bad_link l.b l.l l.sheet) × (l.j ≤ l.l.links)

abbrev pub decreases-loop-j : goal.decreases-loop-j
decreases-loop-j l = l.l.links - l.j
