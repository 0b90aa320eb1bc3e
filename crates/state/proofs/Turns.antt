-- One turn of each loop, as laws of the definitions. Assumes nothing.
use mathlib.Core.Path.{◌≡◌, refl, ◌∙◌}
use mathlib.Core.List.{List}
use Prim.Native.Nat.{ℕ, ◌+◌, ◌≤◌, ◌<◌}
use native.Mathlib.Numerals.{add-one}
use native.Mathlib.Omega.{arith}
use lib.ListN.{length, get_or, set, length-set}
use lib.Ieee.{Float, nan}
use Rattle.layout.specs.declared.places.Layout.{Layout}
use Rattle.records.specs.declared.records.Node.{Node}
use Rattle.records.specs.declared.records.Link.{Link}
use Rattle.nodes.specs.Nodes.{node_of}
use Rattle.links.specs.Links.{link_of, link_status}
use Rattle.numbering.specs.Numbering.{row_at, Row}
use Rattle.linear.specs.declared.factorization.UnknownIndex.{UnknownIndex}
use Rattle.state.specs.State.{heads_from, demands_from, flows_from, codes_from, with_head, solved_heads}
use Rattle.std.specs.Prelude.{None, Some}

-- ---- nodes: the columns h and d after i nodes, from h₀ and d₀

pub record Nodes (s : List ℕ) (l : Layout) (h₀ d₀ h d : List Float) (i : ℕ) : Type 0 where
  pub upto : i ≤ l.nodes
  pub heads : h ≡ heads_from s l i h₀
  pub demands : d ≡ demands_from s l i d₀
  pub heads_kept : length h ≡ length h₀
  pub demands_kept : length d ≡ length d₀

pub no_nodes : (s : List ℕ) (l : Layout) (h d : List Float) → Nodes s l h d h d 0
unfolding heads_from demands_from
no_nodes s l h d = record { upto = omega arith; heads = refl; demands = refl; heads_kept = refl; demands_kept = refl }

pub next_node : (s : List ℕ) (l : Layout) (h₀ d₀ h d : List Float) (i : ℕ) → Nodes s l h₀ d₀ h d i → i < l.nodes → (n : Node) → n ≡ node_of s l i → Nodes s l h₀ d₀ (set h i n.head) (set d i n.demand) (i + 1)
unfolding heads_from demands_from
next_node s l h₀ d₀ h d i w more n p =
    record {
      upto = omega arith;
      heads = rw (add-one i, w.heads, p);
      demands = rw (add-one i, w.demands, p);
      heads_kept = length-set h i n.head ∙ w.heads_kept;
      demands_kept = length-set d i n.demand ∙ w.demands_kept;
    }

-- ---- links: the columns q and c after j links

pub record Links (s : List ℕ) (l : Layout) (q₀ : List Float) (c₀ : List ℕ) (q : List Float) (c : List ℕ) (j : ℕ) : Type 0 where
  pub upto : j ≤ l.links
  pub flows : q ≡ flows_from s l j q₀
  pub codes : c ≡ codes_from s l j c₀
  pub flows_kept : length q ≡ length q₀
  pub codes_kept : length c ≡ length c₀

pub no_links : (s : List ℕ) (l : Layout) (q : List Float) (c : List ℕ) → Links s l q c q c 0
unfolding flows_from codes_from
no_links s l q c = record { upto = omega arith; flows = refl; codes = refl; flows_kept = refl; codes_kept = refl }

pub next_link : (s : List ℕ) (l : Layout) (q₀ : List Float) (c₀ : List ℕ) (q : List Float) (c : List ℕ) (j : ℕ) → Links s l q₀ c₀ q c j → j < l.links → (k : Link) (code : ℕ) → k ≡ link_of s l j → code ≡ link_status s l j
    → Links s l q₀ c₀ (set q j k.flow) (set c j code) (j + 1)
unfolding flows_from codes_from
next_link s l q₀ c₀ q c j w more k code p r =
    record {
      upto = omega arith;
      flows = rw (add-one j, w.flows, p);
      codes = rw (add-one j, w.codes, r);
      flows_kept = length-set q j k.flow ∙ w.flows_kept;
      codes_kept = length-set c j code ∙ w.codes_kept;
    }

-- ---- the heads that a step puts in

pub head_fixed : (row : Row) (x : List Float) (i : ℕ) (h : List Float) → row ≡ None → h ≡ with_head row x i h
unfolding with_head
head_fixed row x i h e = rw e

pub head_unknown : (row : Row) (u : UnknownIndex) (x : List Float) (i : ℕ) (h : List Float) → row ≡ Some u → set h i (get_or x u.0 nan) ≡ with_head row x i h
unfolding with_head
head_unknown row u x i h e = rw e

pub no_heads : (s : List ℕ) (l : Layout) (x h : List Float) → h ≡ solved_heads s l x 0 h
unfolding solved_heads
no_heads s l x h = refl

pub next_head : (s : List ℕ) (l : Layout) (x : List Float) (i : ℕ) (h₀ h g : List Float) (row : Row) → row ≡ row_at s l i → h ≡ solved_heads s l x i h₀ → g ≡ with_head row x i h → g ≡ solved_heads s l x (i + 1) h₀
unfolding solved_heads
next_head s l x i h₀ h g row r e f = rw (add-one i, f, e, r)
