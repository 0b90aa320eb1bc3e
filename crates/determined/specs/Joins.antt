-- What line 3 of the verdict means, by the sheet: a way along links that conduct, from a node whose head is given. Definitions only.
use Rattle.std.specs.Prelude.{ℕ, ◌<◌, ◌≡◌, true, List, get_or, Float, Some}
use Rattle.std.specs.Float.{nan}
use Rattle.codes.specs.Codes.{status_of}
use Rattle.layout.specs.declared.places.Layout.{Layout}
use Rattle.nodes.specs.Nodes.{enabled, fixed_node, in_service}
use Rattle.links.specs.Links.{link_of, link_start, link_end}
use Rattle.conducting.specs.Conducting.{conducts_of, holds_of}

-- link j is one of the sheet's, and both its ends are in use
pub record Serves (s : List ℕ) (l : Layout) (j : ℕ) : Type 0 where
  pub below : j < l.links
  pub start : enabled s l (link_start s l j) ≡ true
  pub end : enabled s l (link_end s l j) ≡ true

-- it is so, goes from node a to node b, and conducts at its status and flow in the answer
pub record Passes (s : List ℕ) (l : Layout) (q : List Float) (c : List ℕ) (j a b : ℕ) : Type 0 where
  pub serves : Serves s l j
  pub conducts : conducts_of (link_of s l j) (status_of (get_or c j 0)) (get_or q j nan) ≡ true
  pub from : link_start s l j ≡ a
  pub to : link_end s l j ≡ b

-- the head of node i is given: it is a reservoir or a tank, or a link in service holds it
pub data Held (s : List ℕ) (l : Layout) (c : List ℕ) : ℕ → Type 0 where
  fixed : {i : ℕ} → i < l.nodes → fixed_node s l i ≡ true → Held s l c i
  regulated : {i : ℕ} (j : ℕ) → Serves s l j → holds_of (link_of s l j) (status_of (get_or c j 0)) ≡ Some i → Held s l c i

-- a way to node i: none is needed where its head is given; and a way goes on along a link, to its end or back to its start
pub data Joins (s : List ℕ) (l : Layout) (q : List Float) (c : List ℕ) : ℕ → Type 0 where
  here : {i : ℕ} → Held s l c i → Joins s l q c i
  along : {a b : ℕ} (j : ℕ) → Joins s l q c a → Passes s l q c j a b → Joins s l q c b
  back : {a b : ℕ} (j : ℕ) → Joins s l q c b → Passes s l q c j a b → Joins s l q c a

-- node i is the lowest junction in service to which there is no way
pub record Undetermined (s : List ℕ) (l : Layout) (q : List Float) (c : List ℕ) (i : ℕ) : Type 0 where
  pub below : i < l.nodes
  pub serves : in_service s l i ≡ true
  pub none : Joins s l q c i → ⊥
  pub lower : (h : ℕ) → h < i → in_service s l h ≡ true → Joins s l q c h

-- there is a way to every junction in service
pub record Determined (s : List ℕ) (l : Layout) (q : List Float) (c : List ℕ) : Type 0 where
  pub way : (h : ℕ) → h < l.nodes → in_service s l h ≡ true → Joins s l q c h
