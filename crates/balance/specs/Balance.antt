-- hydraulicsolver.rs `flow_balance` with the demand of request [3], and the demands' gain of +0.0 after it. Definitions only.
use Rattle.std.specs.Prelude.{ℕ, zero, suc, Bool, cond, List, get_or, Float}
use Rattle.std.specs.Float.{nan}
use Rattle.layout.specs.declared.places.Layout.{Layout}
use Rattle.links.specs.Links.{link_start, link_end}
use Rattle.constants.specs.Arithmetic.{plus, minus}
use Rattle.constants.specs.Constants as constant
use Rattle.nodes.specs.Nodes.{fixed_node, in_service}
use Rattle.columns.specs.Columns.{add_to}
use Rattle.balance.specs.declared.Totals.{Totals}

-- request [3]: the sum of the demands of the junctions in service among the first i nodes, from +0.0
unfoldable pub demand_of : List ℕ → Layout → List Float → ℕ → Float
demand_of s l d zero = constant.zero
demand_of s l d (suc i) = cond (in_service s l i) (plus (demand_of s l d i) (get_or d i nan)) (demand_of s l d i)

-- a flow out of a reservoir or tank is supply, one into it is less
unfoldable pub supplied_by : Bool → Bool → Float → Float → Float
supplied_by fixedStart fixedEnd q t =
    let less = cond fixedEnd (minus t q) t in
    cond fixedStart (plus less q) less

-- the supply over the first j links, from +0.0
unfoldable pub supply_of : List ℕ → Layout → List Float → ℕ → Float
unfolding supplied_by
supply_of s l q zero = constant.zero
supply_of s l q (suc j) = supplied_by (fixed_node s l (link_start s l j)) (fixed_node s l (link_end s l j)) (get_or q j nan) (supply_of s l q j)

-- total demand, total supply, error
unfoldable pub balance_of : List ℕ → Layout → List Float → List Float → Totals
unfolding demand_of supply_of
balance_of s l d q =
    record {
      demand = demand_of s l d l.nodes;
      supply = supply_of s l q l.links;
      error = minus (demand_of s l d l.nodes) (supply_of s l q l.links);
    }

-- each of the first i demands gains +0.0: the Rust adds what emitters draw, and there are none
unfoldable pub settled_of : ℕ → List Float → List Float
unfolding add_to
settled_of zero d = d
settled_of (suc i) d = add_to (settled_of i d) i constant.zero
