-- What 7 says of the head or flow at its place, and of those before it. Definitions only.
use Rattle.std.specs.Prelude.{ℕ, ◌-◌, ◌≤◌, ◌<◌, ◌≡◌, Bool, true, false, List, get_or, Float}
use Rattle.std.specs.Float.{nan}
use Rattle.float.specs.Order.{wild_of}
use Rattle.layout.specs.declared.places.Layout.{Layout}
use Rattle.found.specs.Searches.{First}
use Rattle.state.specs.State.{State}

-- the ith number of a column is wild: NaN, infinite or at least 2^64 in magnitude
unfoldable pub is_wild : List Float → ℕ → Bool
is_wild column i = wild_of (get_or column i nan)

-- a place below 64 is a node's head, one from 64 to 255 the flow of the link 64 lower, one from 256 on, with a PD, what the node 256 lower draws: it is wild, and none before it
-- in the order heads, flows, drawn flows is
pub record WildAt (l : Layout) (t : State) (place : ℕ) : Type 0 where
  pub head : place < 64 → First (is_wild t.heads) l.nodes place
  pub flow : 64 ≤ place → place < 256 → First (is_wild t.flows) l.links (place - 64)
  pub drawn : 256 ≤ place → (l.pressures ≡ true) × First (is_wild t.drawn) l.nodes (place - 256)
  pub heads_before : 64 ≤ place → (i : ℕ) → i < l.nodes → is_wild t.heads i ≡ false
  pub flows_before : 256 ≤ place → (j : ℕ) → j < l.links → is_wild t.flows j ≡ false

-- nothing is wild
pub record NoneWild (l : Layout) (t : State) : Type 0 where
  pub heads : (i : ℕ) → i < l.nodes → is_wild t.heads i ≡ false
  pub flows : (j : ℕ) → j < l.links → is_wild t.flows j ≡ false
  pub drawn : l.pressures ≡ true → (i : ℕ) → i < l.nodes → is_wild t.drawn i ≡ false
