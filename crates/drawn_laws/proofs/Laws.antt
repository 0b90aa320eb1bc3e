-- A demand's share, one node, the search, and with or without a PD, as laws of the definitions. Assumes nothing.
use mathlib.Core.Path.{◌≡◌, refl}
use mathlib.Core.Bool.{Bool, true, false, not, ◌&&◌}
use mathlib.Core.List.{List}
use Prim.Native.Nat.{ℕ}
use lib.ListN.{get_or}
use lib.Ieee.{Float, nan}
use Rattle.float.specs.Order.{clamp_of}
use Rattle.roots.specs.Root.{root_of}
use Rattle.layout.specs.declared.places.Layout.{Layout}
use Rattle.found.specs.Searches.{first_of}
use Rattle.records.specs.Records.{pressures_of}
use Rattle.records.specs.declared.records.Node.{Node}
use Rattle.records.specs.declared.records.Pressures.{Pressures}
use Rattle.constants.specs.Arithmetic.{minus, times, over}
use Rattle.constants.specs.Constants as constant
use Rattle.nodes.specs.Nodes.{node_of, in_service}
use Rattle.drawing.specs.Drawing.{gives_way, range_of}
use Rattle.tolerance.specs.Within.{within_of}
use Rattle.drawn_laws.specs.DrawnLaws.{fair_share, surplus_at, ill_at, first_ill, ill_drawn}
use Rattle.std.specs.Prelude.{None, Option}

pub share_of : (demand head elevation minimum range part r : Float) → part ≡ clamp_of (over (minus (minus head elevation) minimum) range) constant.zero constant.one → r ≡ root_of part
    → times demand r ≡ fair_share demand head elevation minimum range
unfolding fair_share
share_of demand head elevation minimum range part r ep er = rw (er, ep)

module _ (s : List ℕ) (l : Layout) (p : Pressures) (heads drawn : List Float) where
  pub surplus_of : (i : ℕ) (n : Node) (range share : Float) → n ≡ node_of s l i → range ≡ range_of p → share ≡ fair_share n.demand (get_or heads i nan) n.elevation p.minimum range
      → minus (get_or drawn i nan) share ≡ surplus_at s l p heads drawn i
  unfolding surplus_at
  surplus_of i n range share en er e = rw (e, er, en)

  pub ill_of : (flow : Float) (i : ℕ) (n : Node) (serves gives fine : Bool) (more : Float) → n ≡ node_of s l i → serves ≡ in_service s l i → gives ≡ gives_way serves n.demand → more ≡ surplus_at s l p heads drawn i → fine ≡ within_of more flow
      → (gives && not fine) ≡ ill_at s l p heads drawn flow i
  unfolding ill_at
  ill_of flow i n serves gives fine more en es eg em ef = rw (ef, em, eg, es, en)

  pub ill_first : (flow : Float) → first_of (ill_at s l p heads drawn flow) l.nodes ≡ first_ill s l p heads drawn flow
  unfolding first_ill
  ill_first flow = refl

module _ (s : List ℕ) (l : Layout) (heads drawn : List Float) (flow : Float) where
  pub ill_pressures : (p : Pressures) (r : Option ℕ) → l.pressures ≡ true → p ≡ pressures_of s → r ≡ first_ill s l p heads drawn flow → r ≡ ill_drawn s l heads drawn flow
  unfolding ill_drawn
  ill_pressures p r t ep e = rw (e, ep, t)

  pub ill_none : l.pressures ≡ false → None ≡ ill_drawn s l heads drawn flow
  unfolding ill_drawn
  ill_none t = rw t
