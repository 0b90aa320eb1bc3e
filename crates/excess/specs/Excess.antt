-- Document 01, item 6: the excess flows, which start at -0.0 when a PRV or PSV is present. Definitions only.
use Rattle.std.specs.Prelude.{ℕ, zero, suc, Bool, false, cond, ◌||◌, List, get_or, set, Float}
use Rattle.std.specs.Float.{nan, binary64}
use Rattle.std.specs.Float.Ieee.{of_bits, neg, sub}
use Rattle.links.specs.Links.{link_start, link_end, regulator}
use Rattle.layout.specs.declared.places.Layout.{Layout}
use Rattle.columns.specs.Columns.{cleared, add_to, take_from}

-- one of the first k links is a PRV or a PSV, at any status, in service or not
unfoldable pub present : List ℕ → Layout → ℕ → Bool
present s l zero = false
present s l (suc k) = present s l k || regulator s l k

-- -0.0: the Rust negates the flow of an emitter, and there are none
abbrev pub minus_zero : Float
minus_zero = neg (of_bits binary64 0)

-- the first i entries -0.0 less their demands
unfoldable pub less_demands : List Float → ℕ → List Float → List Float
less_demands d zero e = e
less_demands d (suc i) e = set (less_demands d i e) i (sub binary64 minus_zero (get_or d i nan))

-- a flow q taken from entry a and then added to entry b
unfoldable pub shifted : List Float → ℕ → ℕ → Float → List Float
unfolding add_to take_from
shifted e a b q = add_to (take_from e a q) b q

-- the flows of the first k links, in order, those of links out of service too
unfoldable pub with_flows : List ℕ → Layout → List Float → ℕ → List Float → List Float
unfolding shifted
with_flows s l q zero e = e
with_flows s l q (suc k) e = shifted (with_flows s l q k e) (link_start s l k) (link_end s l k) (get_or q k nan)

-- what flows into each node, less what flows out and the demand, over a column e, whose entries past the nodes stay
unfoldable pub imbalance_of : List ℕ → Layout → List Float → List Float → List Float → List Float
unfolding less_demands with_flows
imbalance_of s l d q e = with_flows s l q l.links (less_demands d l.nodes e)

-- the excess flows over a column e, whose entries past the nodes stay
unfoldable pub excess_of : List ℕ → Layout → List Float → List Float → List Float → List Float
unfolding present imbalance_of cleared
excess_of s l d q e = cond (present s l l.links) (imbalance_of s l d q e) (cleared l.nodes e)
