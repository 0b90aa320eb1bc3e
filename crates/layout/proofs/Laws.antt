-- The OP, the PD, a node and a link lie within their sheet. Assumes nothing.
use Prim.Native.Nat.{ℕ, suc, ◌+◌, ◌≤◌, ◌<◌}
use mathlib.Core.Bool.{Bool, true, false}
use mathlib.Core.List.{List}
use mathlib.Core.Path.{◌≡◌, ap}
use native.Mathlib.Nat.{mul-suc, mul-zero, mul-le-mul_left}
use native.Mathlib.Numerals.{add-one}
use native.Mathlib.Omega.{arith}
use lib.ListN.{length}
use Rattle.layout.specs.Places.{Laid, heading, node_place, link_place}
use Rattle.layout.specs.declared.places.Layout.{Layout}

-- the OP stands before the first node, and at most a PD besides
pub at_least : (pressures : Bool) → 29 ≤ heading pressures
at_least true = omega arith
at_least false = omega arith

pub at_most : (pressures : Bool) → heading pressures ≤ 47
at_most true = omega arith
at_most false = omega arith

pub options_within : (l : Layout) (s : List ℕ) → Laid l s → 29 ≤ length s
options_within l s laid = omega (arith, at_least l.pressures, laid.options, laid.nodes)

pub pressures_within : (l : Layout) (s : List ℕ) → Laid l s → l.pressures ≡ true → 47 ≤ length s
pressures_within l s laid h = omega (arith, ap heading h, laid.options, laid.nodes)

pub node_within : (l : Layout) (s : List ℕ) (i : ℕ) → Laid l s → i < l.nodes → node_place l i + 45 ≤ length s
node_within l s i laid h = omega (arith, laid.nodes)

pub link_within : (l : Layout) (s : List ℕ) (j : ℕ) → Laid l s → j < l.links → link_place l j + 49 ≤ length s
unfolding link_place
link_within l s j laid h =
    let up : suc j ≤ l.links = omega arith in
    omega (arith, mul-le-mul_left l.stride up, mul-suc l.stride j, laid.links, laid.stride)

-- the first link stands where the links begin, and each next one a stride further
pub link_first : (l : Layout) → link_place l 0 ≡ l.link0
unfolding link_place
link_first l = omega (arith, mul-zero l.stride)

pub link_next : (l : Layout) (j : ℕ) → link_place l (j + 1) ≡ link_place l j + l.stride
unfolding link_place
link_next l j = rw (add-one j) (omega (arith, mul-suc l.stride j))
