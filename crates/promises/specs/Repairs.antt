-- What the promises about repairs speak of: where a trial's factorization stops, the regulator that is freed, and entries that fail. Definitions only.
use Rattle.std.specs.Prelude.{ℕ, ◌<◌, ◌≡◌, Bool, true, false, List, get_or, set, Err, None, Ok, Option, Some}
use Rattle.layout.specs.declared.places.Layout.{Layout}
use Rattle.linear.specs.Factorization.{factor_of, Factored}
use Rattle.numbering.specs.Numbering.{node_numbered}
use Rattle.state.specs.State.{State, state}
use Rattle.repair.specs.Repair.{regulates_at}
use Rattle.entries.specs.declared.Entry.{Entry}
use Rattle.entries.specs.declared.Entry.TheVariants.{Freed, Grounded, Singular, Wild, Stepped, Converged}
use Rattle.trial.specs.Trial.{system_of}

-- the node of the unknown at which a factorization stopped
unfoldable pub stop_node : List ℕ → Layout → Factored → Option ℕ
stop_node s l (Err u) = Some (node_numbered s l l.nodes u.0)
stop_node s l (Ok tt) = None

-- the node at which the factorization of a state's system stops
unfoldable pub stop_of : List ℕ → Layout → State → Option ℕ
unfolding stop_node
stop_of s l t = stop_node s l (factor_of l.unknowns (system_of s l t).matrix).answer

-- link j is an Active PRV or PSV touching the node, and no lower-numbered link is
pub record Lowest (s : List ℕ) (l : Layout) (codes : List ℕ) (node j : ℕ) : Type 0 where
  pub one : j < l.links
  pub is : regulates_at s l codes node j ≡ true
  pub first : (i : ℕ) → i < j → regulates_at s l codes node i ≡ false

-- no link is one
pub record NoneAt (s : List ℕ) (l : Layout) (codes : List ℕ) (node : ℕ) : Type 0 where
  pub none : (i : ℕ) → i < l.links → regulates_at s l codes node i ≡ false

-- a trial of the state frees link j: its factorization stops at a node, and link j is the lowest-numbered Active PRV or PSV touching it
pub record Frees (s : List ℕ) (l : Layout) (t : State) (j : ℕ) : Type 0 where
  pub node : ℕ
  pub stops : stop_of s l t ≡ Some node
  pub lowest : Lowest s l t.statuses node j

-- it grounds a node: its factorization stops there, no Active PRV or PSV touches it, and it is not grounded yet
pub record Grounds (s : List ℕ) (l : Layout) (t : State) (node : ℕ) : Type 0 where
  pub stops : stop_of s l t ≡ Some node
  pub none : NoneAt s l t.statuses node
  pub yet : get_or t.grounded node false ≡ false

-- it is singular at a node: its factorization stops there, no Active PRV or PSV touches it, and it is grounded already
pub record Refuses (s : List ℕ) (l : Layout) (t : State) (node : ℕ) : Type 0 where
  pub stops : stop_of s l t ≡ Some node
  pub none : NoneAt s l t.statuses node
  pub already : get_or t.grounded node false ≡ true

-- a state with link j freed (XPressure, 6), and one with a node grounded
abbrev pub freed_in : State → ℕ → State
freed_in t j = state t.heads t.demands t.drawn t.flows (set t.statuses j 6) t.grounded

abbrev pub grounded_in : State → ℕ → State
grounded_in t node = state t.heads t.demands t.drawn t.flows t.statuses (set t.grounded node true)

-- VF and GN: something was repaired
unfoldable pub mends : Entry → Bool
mends (Freed i) = true
mends (Grounded i) = true
mends (Singular i) = false
mends (Wild p) = false
mends (Stepped d flip) = false
mends (Converged flip) = false

-- VF, GN and SG: the factorization failed
unfoldable pub fails : Entry → Bool
fails (Freed i) = true
fails (Grounded i) = true
fails (Singular i) = true
fails (Wild p) = false
fails (Stepped d flip) = false
fails (Converged flip) = false

-- heads, demands and flows are as they were
pub record Spared (t u : State) : Type 0 where
  pub heads : u.heads ≡ t.heads
  pub demands : u.demands ≡ t.demands
  pub flows : u.flows ≡ t.flows
