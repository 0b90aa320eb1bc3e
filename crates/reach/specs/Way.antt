-- What the marks mean: a way along conducting links. Definitions only.
use Rattle.std.specs.Prelude.{ℕ, ◌<◌, ◌≡◌, Bool, true, false, List, length, get_or, drop, None, Option, Some}

-- link j, one of the first k, conducts, starts at node a and ends at node b
pub record Conducts (starts ends : List ℕ) (joins : List Bool) (k j a b : ℕ) : Type 0 where
  pub below : j < k
  pub on : get_or joins j false ≡ true
  pub start : get_or starts j 0 ≡ a
  pub end : get_or ends j 0 ≡ b

-- a way from a held node to node i: none is needed where i is held; and a way goes on along a conducting link, to its end or back to its start
pub data Way (starts ends : List ℕ) (joins : List Bool) (k : ℕ) (held : List Bool) : ℕ → Type 0 where
  here : {i : ℕ} → get_or held i false ≡ true → Way starts ends joins k held i
  along : {a b : ℕ} (j : ℕ) → Way starts ends joins k held a → Conducts starts ends joins k j a b → Way starts ends joins k held b
  back : {a b : ℕ} (j : ℕ) → Way starts ends joins k held b → Conducts starts ends joins k j a b → Way starts ends joins k held a

-- the marks of n nodes tell which nodes have a way, and the entries past the nodes stay
pub record Joined (starts ends : List ℕ) (joins : List Bool) (k n : ℕ) (held reached : List Bool) : Type 0 where
  pub way : (i : ℕ) → get_or reached i false ≡ true → Way starts ends joins k held i
  pub marked : (i : ℕ) → Way starts ends joins k held i → get_or reached i false ≡ true
  pub past : drop n reached ≡ drop n held
  pub long : length reached ≡ length held

-- the lowest node below n that needs a way and has none, or that each has one
pub data Cut (starts ends : List ℕ) (joins : List Bool) (k n : ℕ) (held needs : List Bool) : Option ℕ → Type 0 where
  cut_off : (i : ℕ) → i < n → get_or needs i false ≡ true → (Way starts ends joins k held i → ⊥)
      → ((h : ℕ) → h < i → get_or needs h false ≡ true → Way starts ends joins k held h) → Cut starts ends joins k n held needs (Some i)
  whole : ((h : ℕ) → h < n → get_or needs h false ≡ true → Way starts ends joins k held h) → Cut starts ends joins k n held needs None
