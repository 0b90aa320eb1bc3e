-- The links at tanks: what each function makes, and one turn of each loop, as laws of the definitions. Assumes nothing.
use mathlib.Core.Path.{◌≡◌, refl, sym, ◌∙◌}
use mathlib.Core.Bool.{Bool, true, false, not, ◌&&◌, ◌||◌}
use mathlib.Core.List.{List}
use Prim.Native.Nat.{ℕ, ◌+◌, ◌≤◌, ◌<◌}
use native.Mathlib.Numerals.{add-one}
use native.Mathlib.Omega.{arith}
use lib.ListN.{length, get_or, set}
use lib.Ieee.{Float, nan, lt, le}
use Rattle.layout.specs.declared.places.Layout.{Layout}
use Rattle.nodes.specs.Nodes.{node_of, tank_at}
use Rattle.records.specs.declared.records.Node.{Node}
use Rattle.constants.specs.Arithmetic.{plus}
use Rattle.constants.specs.Constants as constant
use Rattle.tanks.specs.Tanks.{Tanks, tanks, full_at, empty_at, shut, links_to, links_from, tank_update, tank_updates, tank_links_of}

-- ---- one node

module _ (s : List ℕ) (l : Layout) (i : ℕ) (m : Node) (head : Float) (read : m ≡ node_of s l i) where
  pub full_of : (le (plus m.elevation m.highest) head && not m.overflow) ≡ full_at s l i head
  unfolding full_at
  full_of = rw read

  pub empty_of : le head (plus m.elevation m.lowest) ≡ empty_at s l i head
  unfolding empty_at
  empty_of = rw read

-- ---- one link

module _ (above below : Bool) (q : Float) (j : ℕ) (codes : List ℕ) where
  pub shut_on : ((above && lt constant.zero q) || (below && lt q constant.zero)) ≡ true → set codes j 3 ≡ shut above below q j codes
  unfolding shut
  shut_on h = rw h

  pub shut_off : ((above && lt constant.zero q) || (below && lt q constant.zero)) ≡ false → codes ≡ shut above below q j codes
  unfolding shut
  shut_off h = rw h

-- ---- the loops

-- a loop over k, of which j are done, with the columns as they are and as they were
pub record Reached (k : ℕ) (done : ℕ → Tanks → Tanks) (d₀ : List Float) (t₀ : List ℕ) (d : List Float) (t : List ℕ) (j : ℕ) : Type 0 where
  pub upto : j ≤ k
  pub made : tanks d t ≡ done j (tanks d₀ t₀)
  pub d_long : length d ≡ length d₀
  pub t_long : length t ≡ length t₀

pub next : {k : ℕ} {done : ℕ → Tanks → Tanks} {d₀ d d₁ : List Float} {t₀ t t₁ : List ℕ} {j : ℕ} → Reached k done d₀ t₀ d t j → j < k
    → tanks d₁ t₁ ≡ done (j + 1) (tanks d₀ t₀) → length d₁ ≡ length d → length t₁ ≡ length t → Reached k done d₀ t₀ d₁ t₁ (j + 1)
next v l e a b = record { upto = omega arith; made = e; d_long = a ∙ v.d_long; t_long = b ∙ v.t_long }

-- ---- one tank, and all

pub tank_made : (s : List ℕ) (l : Layout) (head : Float) (q : List Float) (i : ℕ) (full empty : Bool) (d d₁ d₂ : List Float) (t t₁ t₂ : List ℕ)
    → full ≡ full_at s l i head → empty ≡ empty_at s l i head
    → tanks d₁ t₁ ≡ links_to s l i q full empty l.links (tanks (set d i constant.zero) t)
    → tanks d₂ t₂ ≡ links_from s l i q full empty l.links (tanks d₁ t₁)
    → tanks d₂ t₂ ≡ tank_update s l head q i (tanks d t)
unfolding tank_update
tank_made s l head q i full empty d d₁ d₂ t t₁ t₂ f e a b = rw (b, a, f, e)

module _ (s : List ℕ) (l : Layout) (h q : List Float) where
  pub tanks_none : (t : Tanks) → t ≡ tank_updates s l h q 0 t
  unfolding tank_updates
  tanks_none t = refl

  pub tanks_here : (i : ℕ) (t₀ t : Tanks) (d d₁ : List Float) (c c₁ : List ℕ) (b : Bool) → t ≡ tank_updates s l h q i t₀ → b ≡ tank_at s l i → b ≡ true
      → tanks d c ≡ tank_update s l (get_or h i nan) q i t → d₁ ≡ d → c₁ ≡ c → tanks d₁ c₁ ≡ tank_updates s l h q (i + 1) t₀
  unfolding tank_updates
  tanks_here i t₀ t d d₁ c c₁ b e a y p r w = rw (add-one i, sym a ∙ y, ← e, r, w) p

  pub tanks_other : (i : ℕ) (t₀ : Tanks) (d d₁ : List Float) (t t₁ : List ℕ) (b : Bool) → tanks d t ≡ tank_updates s l h q i t₀ → b ≡ tank_at s l i → b ≡ false → d₁ ≡ d → t₁ ≡ t → tanks d₁ t₁ ≡ tank_updates s l h q (i + 1) t₀
  unfolding tank_updates
  tanks_other i t₀ d d₁ t t₁ b e a y p r = rw (add-one i, sym a ∙ y, p, r) e

  pub tanks_all : (d : List Float) (c : List ℕ) (i : ℕ) (t : Tanks) → t ≡ tank_updates s l h q i (tanks d c) → i ≡ l.nodes → t ≡ tank_links_of s l h q d c
  unfolding tank_links_of
  tanks_all d c i t e y = rw (e, y)
