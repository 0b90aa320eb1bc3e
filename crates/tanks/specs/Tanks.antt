-- hydraulicsolver.rs `update_tank_links`: a full tank shuts the links that fill it, an empty one those that drain it; a tank's demand is its net inflow. Definitions only.
use Rattle.std.specs.Prelude.{ℕ, zero, suc, Bool, cond, not, ◌&&◌, ◌||◌, List, eqb, get_or, set, Float}
use Rattle.std.specs.Float.{nan}
use Rattle.std.specs.Float.Ieee.{lt, le}
use Rattle.layout.specs.declared.places.Layout.{Layout}
use Rattle.nodes.specs.Nodes.{node_of, tank_at}
use Rattle.links.specs.Links.{link_start, link_end}
use Rattle.constants.specs.Arithmetic.{plus}
use Rattle.constants.specs.Constants as constant
use Rattle.columns.specs.Columns.{add_to, take_from}

-- at this head node i is full and does not spill, or it is empty
unfoldable pub full_at : List ℕ → Layout → ℕ → Float → Bool
full_at s l i head = le (plus (node_of s l i).elevation (node_of s l i).highest) head && not (node_of s l i).overflow

unfoldable pub empty_at : List ℕ → Layout → ℕ → Float → Bool
empty_at s l i head = le head (plus (node_of s l i).elevation (node_of s l i).lowest)

-- the demands and the status codes as they stand
pub record Tanks : Type 0 where
  pub demands : List Float
  pub codes : List ℕ

abbrev pub tanks : List Float → List ℕ → Tanks
tanks d t = record { demands = d; codes = t }

-- link j is shut (TempClosed) if a flow above zero is barred and its flow q is above, or one below zero is barred and q is below
unfoldable pub shut : Bool → Bool → Float → ℕ → List ℕ → List ℕ
shut above below q j codes = cond ((above && lt constant.zero q) || (below && lt q constant.zero)) (set codes j 3) codes

-- the links that end at tank i, among the first j: each adds its flow
unfoldable pub links_to : List ℕ → Layout → ℕ → List Float → Bool → Bool → ℕ → Tanks → Tanks
unfolding shut add_to
links_to s l i q full empty zero t = t
links_to s l i q full empty (suc j) t =
    let u = links_to s l i q full empty j t in
    cond (eqb (link_end s l j) i)
    (tanks (add_to u.demands i (get_or q j nan)) (shut full empty (get_or q j nan) j u.codes)) u

-- and those that start there: each takes it
unfoldable pub links_from : List ℕ → Layout → ℕ → List Float → Bool → Bool → ℕ → Tanks → Tanks
unfolding shut take_from
links_from s l i q full empty zero t = t
links_from s l i q full empty (suc j) t =
    let u = links_from s l i q full empty j t in
    cond (eqb (link_start s l j) i)
    (tanks (take_from u.demands i (get_or q j nan)) (shut empty full (get_or q j nan) j u.codes)) u

-- tank i at its head
unfoldable pub tank_update : List ℕ → Layout → Float → List Float → ℕ → Tanks → Tanks
unfolding full_at empty_at links_to links_from
tank_update s l head q i t =
    let full = full_at s l i head in
    let empty = empty_at s l i head in
    links_from s l i q full empty l.links (links_to s l i q full empty l.links (tanks (set t.demands i constant.zero) t.codes))

-- the tanks among the first i nodes
unfoldable pub tank_updates : List ℕ → Layout → List Float → List Float → ℕ → Tanks → Tanks
unfolding tank_at tank_update
tank_updates s l h q zero t = t
tank_updates s l h q (suc i) t =
    let u = tank_updates s l h q i t in
    cond (tank_at s l i) (tank_update s l (get_or h i nan) q i u) u

-- all of them
unfoldable pub tank_links_of : List ℕ → Layout → List Float → List Float → List Float → List ℕ → Tanks
unfolding tank_updates
tank_links_of s l h q demands codes = tank_updates s l h q l.nodes (tanks demands codes)
