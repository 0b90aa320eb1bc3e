-- The marks that sweeps over the links leave, and which nodes lack one. Definitions only.
use Rattle.std.specs.Prelude.{ℕ, zero, suc, ◌<◌, Bool, true, false, not, cond, ◌&&◌, ◌||◌, List, get_or, set}

-- both ends of each of the first k links are below n
pub record EndsBelow (n k : ℕ) (starts ends : List ℕ) : Type 0 where
  pub start : (j : ℕ) → j < k → get_or starts j 0 < n
  pub end : (j : ℕ) → j < k → get_or ends j 0 < n

-- a link marks node b: it conducts, node a is marked and b is not yet
unfoldable pub marks : Bool → ℕ → ℕ → List Bool → Bool
marks on a b m = on && (get_or m a false && not (get_or m b false))

unfoldable pub passed : Bool → ℕ → ℕ → List Bool → List Bool
unfolding marks
passed on a b m = cond (marks on a b m) (set m b true) m

-- a link from node a to node b, and back
unfoldable pub followed : Bool → ℕ → ℕ → List Bool → List Bool
unfolding passed
followed on a b m = passed on b a (passed on a b m)

unfoldable pub follows : Bool → ℕ → ℕ → List Bool → Bool
unfolding marks passed
follows on a b m = marks on a b m || marks on b a (passed on a b m)

-- one sweep: the first k links in order, and whether one marked a node
unfoldable pub swept : List ℕ → List ℕ → List Bool → ℕ → List Bool → List Bool
unfolding followed
swept starts ends joins zero m = m
swept starts ends joins (suc k) m = followed (get_or joins k false) (get_or starts k 0) (get_or ends k 0) (swept starts ends joins k m)

unfoldable pub stirred : List ℕ → List ℕ → List Bool → ℕ → List Bool → Bool
unfolding follows swept
stirred starts ends joins zero m = false
stirred starts ends joins (suc k) m = stirred starts ends joins k m || follows (get_or joins k false) (get_or starts k 0) (get_or ends k 0) (swept starts ends joins k m)

-- n sweeps over k links
unfoldable pub sweeps : List ℕ → List ℕ → List Bool → ℕ → ℕ → List Bool → List Bool
unfolding swept
sweeps starts ends joins k zero m = m
sweeps starts ends joins k (suc n) m = sweeps starts ends joins k n (swept starts ends joins k m)

-- node i needs to be reached and is not
unfoldable pub lacks : List Bool → List Bool → ℕ → Bool
lacks needs reached i = get_or needs i false && not (get_or reached i false)
