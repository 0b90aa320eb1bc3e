-- What each function makes and one turn of each loop, as laws of the definitions. Assumes nothing.
use Prim.Native.Nat.{ℕ, ◌+◌, ◌≤◌, ◌<◌}
use mathlib.Core.Path.{◌≡◌, refl, sym, ap, ◌∙◌, subst}
use mathlib.Core.Bool.{Bool, true, false, not, cond, ◌&&◌}
use mathlib.Core.List.{List}
use native.Mathlib.Numerals.{add-one}
use native.Mathlib.Omega.{arith}
use borrow.Author.Tests.{not-true, not-false}
use lib.ListN.{length, get_or, set, length-set}
use lib.Ieee.{Float, nan}
use Rattle.codes.specs.Codes.{status_of}
use Rattle.codes.specs.declared.Status.{Status}
use Rattle.codes.specs.declared.LinkKind.{LinkKind}
use Rattle.codes.specs.declared.LinkKind.TheVariants.{Pipe, Prv, Psv, Pbv, Fcv, Tcv, Pcv}
use Rattle.layout.specs.declared.places.Layout.{Layout}
use Rattle.records.specs.declared.records.Link.{Link}
use Rattle.nodes.specs.Nodes.{enabled}
use Rattle.links.specs.Links.{link_of, link_start, link_end, EndsIn}
use Rattle.links.proofs.Reading.{start_of, end_of}
use Rattle.conducting.specs.Conducting.{conducts_of, held_by, holds_of}
use Rattle.status.specs.Rules.{is_active}
use Rattle.determined.specs.Determined.{link_serves, joins_at, held_at, with_mark, with_held, FoundBelow}
use Rattle.std.specs.Prelude.{None, Option, Some}

-- ---- one link

module _ (s : List ℕ) (l : Layout) (j : ℕ) where
  pub serves_of : (a b : ℕ) (x y : Bool) → a ≡ link_start s l j → b ≡ link_end s l j → x ≡ enabled s l a → y ≡ enabled s l b → (x && y) ≡ link_serves s l j
  unfolding link_serves
  serves_of a b x y p r e f = rw (e, f, p, r)

  pub joins_of_lem : (q : List Float) (c : List ℕ) (k : Link) (t : Status) (x y : Bool) → k ≡ link_of s l j → x ≡ link_serves s l j → t ≡ status_of (get_or c j 0) → y ≡ conducts_of k t (get_or q j nan) → (x && y) ≡ joins_at s l q c j
  unfolding joins_at
  joins_of_lem q c k t x y p r e f = rw (r, f, p, e)

  module _ (c : List ℕ) (x : Bool) (is : x ≡ link_serves s l j) where
    pub held_out : not x ≡ true → None ≡ held_at s l c j
    unfolding held_at
    held_out t = rw (sym is ∙ not-true x t)

    pub held_in : not x ≡ false → (k : Link) (t : Status) (f : Option ℕ) → k ≡ link_of s l j → t ≡ status_of (get_or c j 0) → f ≡ holds_of k t → f ≡ held_at s l c j
    unfolding held_at
    held_in u k t f p e g = rw (sym is ∙ not-false x u) (g ∙ ap (λ (m : Link). holds_of m t) p ∙ ap (holds_of (link_of s l j)) e)

-- ---- the node that a link holds is one of its ends

pub other : {X : Type 0} {p : ℕ} → None ≡ Some p → X
other e = absurd (let z : ◌≡◌ {A = ℕ} 0 1 = cc in omega arith)

same : (P : ℕ → Type 0) (a b : ℕ) → Some a ≡ Some b → P a → P b
same P a b e p = let g : a ≡ b = cc in subst P g p

by_kind_lem : (P : ℕ → Type 0) (i a b : ℕ) (kind : LinkKind) → held_by kind a b ≡ Some i → P a → P b → P i
unfolding held_by
by_kind_lem P i a b Prv e x y = same P b i e y
by_kind_lem P i a b Psv e x y = same P a i e x
by_kind_lem P i a b Pipe e x y = other e
by_kind_lem P i a b Pbv e x y = other e
by_kind_lem P i a b Fcv e x y = other e
by_kind_lem P i a b Tcv e x y = other e
by_kind_lem P i a b Pcv e x y = other e

pub held_end : (P : ℕ → Type 0) (i : ℕ) (k : Link) (t : Status) → holds_of k t ≡ Some i → P k.start → P k.end → P i
unfolding holds_of
held_end P i k t e x y = go (is_active t) e
  where
    go : (b : Bool) → cond b (held_by k.kind k.start k.end) None ≡ Some i → P i
    go true f = by_kind_lem P i k.start k.end k.kind f x y
    go false f = other f

pub held_below : (s : List ℕ) (l : Layout) (c : List ℕ) (j n : ℕ) → EndsIn l s → j < l.links → l.nodes ≤ n → (f : Option ℕ) → f ≡ held_at s l c j → FoundBelow n f
unfolding held_at
held_below s l c j n ends here h f e = record { below = λ i g. go i (link_serves s l j) (sym e ∙ g) }
  where
    starts : (link_of s l j).start < n
    starts = rw start_of (let p = ends.start j here in omega arith)

    stops : (link_of s l j).end < n
    stops = rw end_of (let p = ends.end j here in omega arith)

    go : (i : ℕ) (b : Bool) → cond b (holds_of (link_of s l j) (status_of (get_or c j 0))) None ≡ Some i → i < n
    go i true g = held_end (λ (x : ℕ). x < n) i (link_of s l j) (status_of (get_or c j 0)) g starts stops
    go i false g = other g

-- ---- the marks of held nodes

module _ (f : Option ℕ) (m : List Bool) where
  pub mark_none : f ≡ None → m ≡ with_mark f m
  unfolding with_mark
  mark_none e = rw e

  pub mark_at : (i : ℕ) → f ≡ Some i → set m i true ≡ with_mark f m
  unfolding with_mark
  mark_at i e = rw e

pub mark_long : (f : Option ℕ) (m : List Bool) → length (with_mark f m) ≡ length m
unfolding with_mark
mark_long (Some i) m = length-set m i true
mark_long None m = refl

module _ (s : List ℕ) (l : Layout) (c : List ℕ) where
  -- after j links, with the marks as they are and as they were
  pub record Marked (m₀ m : List Bool) (j : ℕ) : Type 0 where
    pub upto : j ≤ l.links
    pub made : m ≡ with_held s l c j m₀
    pub long : length m ≡ length m₀

  pub none_marked : (m : List Bool) → Marked m m 0
  unfolding with_held
  none_marked m = record { upto = omega arith; made = refl; long = refl }

  pub next_marked : (m₀ m m₁ : List Bool) (j : ℕ) (f : Option ℕ) → Marked m₀ m j → j < l.links → f ≡ held_at s l c j → m₁ ≡ with_mark f m → Marked m₀ m₁ (j + 1)
  unfolding with_held
  next_marked m₀ m m₁ j f w more e g =
      record { upto = omega arith; made = rw (add-one j, g, e, w.made); long = ap length g ∙ mark_long f m ∙ w.long }

  pub all_marked : (m₀ m : List Bool) (j : ℕ) → Marked m₀ m j → l.links ≤ j → m ≡ with_held s l c l.links m₀
  all_marked m₀ m j w h =
      let e : j ≡ l.links = omega (arith, w.upto) in
      w.made ∙ ap (λ (k : ℕ). with_held s l c k m₀) e
