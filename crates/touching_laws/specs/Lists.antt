-- What a person believes of the links at each node. Definitions only.
use Rattle.std.specs.Prelude.{ℕ, suc, ◌+◌, ◌*◌, ◌≤◌, ◌<◌, ◌≡◌, ◌⊎◌, List, ◌++◌, get_or, length, drop}
use Rattle.touching.specs.Touching.{touching_at, listed_of, place_of, places_of, Joined, Listed}

-- some column has link j at a place from a on, before b
pub record Found (x : List ℕ) (a b j : ℕ) : Type 0 where
  pub place : ℕ
  pub from : a ≤ place
  pub to : place < b
  pub is : get_or x place 0 ≡ j

-- the columns list at node i the links that start or end there, those alone, each once and ascending
pub record Exactly (start end : ℕ → ℕ) (m i : ℕ) (places listed : List ℕ) : Type 0 where
  pub only : (p : ℕ) → get_or places i 0 ≤ p → p < get_or places (i + 1) 0 → (get_or listed p 0 < m) × ((start (get_or listed p 0) ≡ i) ⊎ (end (get_or listed p 0) ≡ i))
  pub every : (j : ℕ) → j < m → (start j ≡ i) ⊎ (end j ≡ i) → Found listed (get_or places i 0) (get_or places (i + 1) 0) j
  pub ascending : (p q : ℕ) → get_or places i 0 ≤ p → p < q → q < get_or places (i + 1) 0 → get_or listed p 0 < get_or listed q 0

abbrev pub AtEachNode : Type 0
AtEachNode = (start end : ℕ → ℕ) (n m : ℕ) (places listed : List ℕ) → Listed start end n m places listed → (i : ℕ) → i < n → Exactly start end m i places listed

-- where each link joins two nodes, two entries for each link, and no more
abbrev pub TwoEach : Type 0
TwoEach = (start end : ℕ → ℕ) (n m : ℕ) → Joined start end n m → place_of start end m n ≡ 2 * m

-- two links' ends are the same but for link j, whose ends are among the nodes from lo to hi before and after
pub record Edited (start end start' end' : ℕ → ℕ) (j lo hi : ℕ) : Type 0 where
  pub starts : (k : ℕ) → (k ≡ j → ⊥) → start k ≡ start' k
  pub ends : (k : ℕ) → (k ≡ j → ⊥) → end k ≡ end' k
  pub start_from : lo ≤ start j
  pub start_to : start j ≤ hi
  pub end_from : lo ≤ end j
  pub end_to : end j ≤ hi
  pub start_from' : lo ≤ start' j
  pub start_to' : start' j ≤ hi
  pub end_from' : lo ≤ end' j
  pub end_to' : end' j ≤ hi

-- outside those nodes nothing moves: the places up to the first of them and behind the last, and what is listed there
pub record Stays (start end start' end' : ℕ → ℕ) (n m lo hi : ℕ) : Type 0 where
  pub places_before : (i : ℕ) → i ≤ lo → place_of start' end' m i ≡ place_of start end m i
  pub places_behind : (i : ℕ) → hi < i → i ≤ n → place_of start' end' m i ≡ place_of start end m i
  pub listed_before : (i : ℕ) → i < lo → touching_at start' end' m i ≡ touching_at start end m i
  pub listed_behind : (i : ℕ) → hi < i → touching_at start' end' m i ≡ touching_at start end m i

abbrev pub OutsideStays : Type 0
OutsideStays = (start end start' end' : ℕ → ℕ) (n m j lo hi : ℕ) → Joined start end n m → Joined start' end' n m → Edited start end start' end' j lo hi → Stays start end start' end' n m lo hi
