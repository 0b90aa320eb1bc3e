-- Request [11], hydraulicsolver.rs `update_demand_flows`: what each node draws after the heads, and what moved. Definitions only.
use Rattle.std.specs.Prelude.{ℕ, zero, suc, Bool, false, cond, List, get_or, set, Float}
use Rattle.std.specs.Float.{nan}
use Rattle.layout.specs.declared.places.Layout.{Layout}
use Rattle.records.specs.Records.{pressures_of}
use Rattle.records.specs.declared.records.Pressures.{Pressures}
use Rattle.constants.specs.Arithmetic.{minus, times}
use Rattle.nodes.specs.Nodes.{enabled, in_service, elevation_of}
use Rattle.drawing.specs.Drawing.{gives_way, range_of, bend_of}
use Rattle.drawing.specs.declared.Bend.{Bend}
use Rattle.update.specs.Update.{noted}
use Rattle.update.specs.declared.Stats.{Stats}

-- the drawn flows as they stand, and the statistics so far
pub record Draws : Type 0 where
  pub drawn : List Float
  pub stats : Stats

abbrev pub draws : List Float → Stats → Draws
draws x m = record { drawn = x; stats = m }

-- the change of a drawn flow: the factor times (the bend's head less that above minimum pressure), times its conductance
unfoldable pub change_of : Bend → Float → Float → Float → Float → Float
change_of b head elevation minimum factor = times (times factor (minus b.offset (minus (minus head elevation) minimum))) b.conductance

-- node i, whose demand gives way
unfoldable pub bent : List ℕ → Layout → Pressures → List Float → Float → List Float → ℕ → Draws → Draws
unfolding change_of noted
bent s l p h factor asked i w =
    let b = bend_of (get_or w.drawn i nan) (get_or asked i nan) (range_of p) in
    let dq = change_of b (get_or h i nan) (elevation_of s l i) p.minimum factor in
    let q = minus (get_or w.drawn i nan) dq in
    draws (set w.drawn i q) (noted dq q false w.stats)

-- a demand that gives way bends, others are copied; a disabled node's drawn flow stays
unfoldable pub node_drawn : List ℕ → Layout → Pressures → List Float → Float → List Float → ℕ → Draws → Draws
unfolding bent
node_drawn s l p h factor asked i w =
    cond (enabled s l i)
    (cond (gives_way (in_service s l i) (get_or asked i nan)) (bent s l p h factor asked i w)
    (draws (set w.drawn i (get_or asked i nan)) w.stats))
    w

-- the first i nodes, in order
unfoldable pub nodes_drawn : List ℕ → Layout → Pressures → List Float → Float → List Float → ℕ → Draws → Draws
unfolding node_drawn
nodes_drawn s l p h factor asked zero w = w
nodes_drawn s l p h factor asked (suc i) w = node_drawn s l p h factor asked i (nodes_drawn s l p h factor asked i w)

-- all of them, where a PD stands
unfoldable pub drawn_of : List ℕ → Layout → List Float → Float → List Float → Draws → Draws
unfolding nodes_drawn
drawn_of s l h factor asked w = cond l.pressures (nodes_drawn s l (pressures_of s) h factor asked l.nodes w) w
