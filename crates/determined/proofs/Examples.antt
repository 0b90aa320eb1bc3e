-- Worked examples: the definitions compute. Assumes nothing.
use Prim.Native.Nat.{ℕ}
use mathlib.Core.Path.{◌≡◌, refl}
use mathlib.Core.List.{List, [], ◌∷◌}
use lib.ListN.{set, replicate}
use Rattle.codes.specs.Codes.{link_kind_of, status_of}
use Rattle.constants.specs.Constants.{one}
use Rattle.layout.specs.Places.{plain, link_place}
use Rattle.layout.specs.declared.places.Layout.{Layout}
use Rattle.found.specs.Searches.{first_from, first_of}
use Rattle.patterns.specs.Bytes.{little_endian}
use Rattle.records.specs.Records.{pair_at, link_at}
use Rattle.nodes.specs.Nodes.{enabled, fixed_node, in_service}
use Rattle.links.specs.Links.{link_of, link_start, link_end}
use Rattle.conducting.specs.Conducting.{pressed, pipe_conducts, controlled, valve_conducts, conducts_of, held_by, holds_of}
use Rattle.status.specs.Rules.{is_active}
use Rattle.reach.specs.Reach.{marks, passed, followed, swept, sweeps, lacks}
use Rattle.fills.specs.Fills.{filled}
use Rattle.determined.specs.Determined.{link_serves, joins_at, held_at, with_mark, with_held, starts_of, ends_of, joins_of, held_of, needs_of, reached_of, undetermined_of}
use Rattle.std.specs.Prelude.{None, Some}

-- a reservoir and two junctions; a link from node 0 to node 1, and one of this kind from node 2 to node 1. The heading is not looked at
abbrev net : Layout
net = plain 3 2 2

abbrev sheet : ℕ → List ℕ
sheet kind = set (set (set (set (set (replicate 262 0) 31 1) 171 1) 215 kind) 218 2) 220 1

-- With a pipe: both are open, and the second junction has its way back along it; the second is closed; the first is, and both junctions hang on nothing.
-- With a PSV: it is Active and holds node 2; it was freed, and the pipe is closed.
told :
    (undetermined_of (sheet 0) net (one ∷ one ∷ []) (1 ∷ 1 ∷ []) ≡ None)
    × (undetermined_of (sheet 0) net (one ∷ one ∷ []) (1 ∷ 0 ∷ []) ≡ Some 2)
    × (undetermined_of (sheet 0) net (one ∷ one ∷ []) (0 ∷ 1 ∷ []) ≡ Some 1)
    × (undetermined_of (sheet 2) net (one ∷ one ∷ []) (1 ∷ 2 ∷ []) ≡ None)
    × (undetermined_of (sheet 2) net (one ∷ one ∷ []) (0 ∷ 6 ∷ []) ≡ Some 1)
unfolding undetermined_of needs_of reached_of starts_of ends_of joins_of held_of filled with_held with_mark held_at joins_at link_serves enabled fixed_node in_service link_of link_start link_end link_place link_at pair_at little_endian link_kind_of status_of conducts_of pipe_conducts pressed valve_conducts controlled holds_of held_by is_active sweeps swept followed passed marks lacks first_of first_from
told = (refl, refl, refl, refl, refl)
