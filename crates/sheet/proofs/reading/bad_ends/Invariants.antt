-- `sheet::reading::bad_ends` meets its contract: what is left to search answers for the whole. Assumes nothing.
use mathlib.Core.Path.{◌≡◌, ◌∙◌, ap, sym, subst}
use Prim.Native.Nat.{ℕ, ◌+◌, ◌-◌, ◌≤◌, ◌<◌}
use native.Mathlib.Omega.{arith}
use Rattle.layout.specs.Places.{link_place}
use Rattle.layout.proofs.Laws.{link_within, link_next, link_first}
use Rattle.records.specs.Records.{pair_at}
use Rattle.links.specs.Links.{link_start, link_end}
use Rattle.ends.specs.Ends.{ends_good}
use Rattle.sheet.specs.Read.{first_bad, bad_ends}
use Rattle.sheet.proofs.Laws.{search_end, search-bad, search-on}
use mathlib.Core.Bool.{not}
use Rattle.sheet.proofs.reading.bad_ends.Given as goal

abbrev pub invariant-loop-j : goal.invariant-loop-j
invariant-loop-j l = (first_bad (ends_good l.l l.sheet) l.l.stride (l.l.links - l.j) (link_place l.l l.j) ≡ bad_ends l.l l.sheet) × (l.j ≤ l.l.links)

abbrev pub decreases-loop-j : goal.decreases-loop-j
decreases-loop-j l = l.l.links - l.j
