-- One turn of each loop, and the cases of a link's supply, as laws of the definitions. Assumes nothing.
use mathlib.Core.Path.{◌≡◌, refl}
use mathlib.Core.Bool.{Bool, true, false, cond}
use mathlib.Core.List.{List}
use Prim.Native.Nat.{ℕ, ◌+◌, ◌≤◌, ◌<◌}
use native.Mathlib.Numerals.{add-one}
use native.Mathlib.Omega.{arith}
use lib.ListN.{get_or}
use lib.Ieee.{Float, nan}
use Rattle.layout.specs.declared.places.Layout.{Layout}
use Rattle.links.specs.Links.{link_start, link_end}
use Rattle.constants.specs.Arithmetic.{plus, minus}
use Rattle.constants.specs.Constants as constant
use Rattle.nodes.specs.Nodes.{fixed_node, in_service}
use Rattle.columns.specs.Columns.{add_to}
use Rattle.balance.specs.Balance.{demand_of, supplied_by, supply_of, balance_of, settled_of}
use Rattle.balance.specs.declared.Totals.{Totals}

-- ---- demand

pub no_demand : (s : List ℕ) (l : Layout) (d : List Float) → constant.zero ≡ demand_of s l d 0
unfolding demand_of
no_demand s l d = refl

module _ (s : List ℕ) (l : Layout) (d : List Float) (i : ℕ) (t next : Float) (so_far : t ≡ demand_of s l d i) where
  pub demand_in : next ≡ plus t (get_or d i nan) → in_service s l i ≡ true → next ≡ demand_of s l d (i + 1)
  unfolding demand_of
  demand_in e h = rw (add-one i, e, h, so_far)

  pub demand_out : next ≡ t → in_service s l i ≡ false → next ≡ demand_of s l d (i + 1)
  unfolding demand_of
  demand_out e h = rw (add-one i, e, h, so_far)

-- ---- supply

-- after the branch at the end, then at the start: `less` is the supply after the first
pub less_fixed : (b : Bool) (q t less : Float) → b ≡ true → less ≡ minus t q → less ≡ cond b (minus t q) t
less_fixed b q t less h e = rw (h, e)

pub less_free : (b : Bool) (q t less : Float) → b ≡ false → less ≡ t → less ≡ cond b (minus t q) t
less_free b q t less h e = rw (h, e)

pub start_fixed : (a b : Bool) (q t less : Float) → a ≡ true → less ≡ cond b (minus t q) t → plus less q ≡ supplied_by a b q t
unfolding supplied_by
start_fixed a b q t less h e = rw (h, e)

pub start_free : (a b : Bool) (q t less : Float) → a ≡ false → less ≡ cond b (minus t q) t → less ≡ supplied_by a b q t
unfolding supplied_by
start_free a b q t less h e = rw (h, e)

pub no_supply : (s : List ℕ) (l : Layout) (q : List Float) → constant.zero ≡ supply_of s l q 0
unfolding supply_of
no_supply s l q = refl

pub next_supply : (s : List ℕ) (l : Layout) (q : List Float) (j : ℕ) (t u : Float) (a b : ℕ) (fa fb : Bool) → a ≡ link_start s l j → b ≡ link_end s l j → fa ≡ fixed_node s l a → fb ≡ fixed_node s l b
    → t ≡ supply_of s l q j → u ≡ supplied_by fa fb (get_or q j nan) t → u ≡ supply_of s l q (j + 1)
unfolding supply_of
next_supply s l q j t u a b fa fb ha hb ga gb h k = rw (add-one j, k, h, ga, gb, ha, hb)

-- ---- the balance, and the demands after it

pub balance_of_lem : (s : List ℕ) (l : Layout) (d q : List Float) (x y : Float) → x ≡ demand_of s l d l.nodes → y ≡ supply_of s l q l.links → ◌≡◌ {A = Totals} (record { demand = x; supply = y; error = minus x y }) (balance_of s l d q)
unfolding balance_of
balance_of_lem s l d q x y h g = rw (h, g)

pub no_settled : (d : List Float) → d ≡ settled_of 0 d
unfolding settled_of
no_settled d = refl

pub next_settled : (i : ℕ) (d₀ d e : List Float) → d ≡ settled_of i d₀ → e ≡ add_to d i constant.zero → e ≡ settled_of (i + 1) d₀
unfolding settled_of
next_settled i d₀ d e h k = rw (add-one i, k, h)
