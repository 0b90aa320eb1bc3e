-- What the ends of a link may be. Definitions only.
use Rattle.std.specs.Prelude.{ℕ, ◌+◌, Bool, not, ◌&&◌, ◌||◌, List, eqb}
use Rattle.layout.specs.declared.places.Layout.{Layout}
use Rattle.records.specs.Records.{byte_at, pair_at}
use Rattle.nodes.specs.Nodes.{in_service}

-- no link from a node to itself; no PRV (kind 1) ending at, and no PSV (kind 2) starting at, a reservoir, a tank or a disabled junction
unfoldable pub ends_good : Layout → List ℕ → ℕ → Bool
unfolding in_service
ends_good l s at =
    not (eqb (pair_at s (at + 5)) (pair_at s (at + 7)))
    && (not (eqb (byte_at s (at + 2)) 1) || in_service s l (pair_at s (at + 7)))
    && (not (eqb (byte_at s (at + 2)) 2) || in_service s l (pair_at s (at + 5)))
