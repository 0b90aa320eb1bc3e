-- The update of the links: what each function makes, and one turn of the loop, as laws of the definitions. Assumes nothing.
use mathlib.Core.Path.{◌≡◌, refl, sym, ap, ◌∙◌}
use mathlib.Core.Bool.{Bool, true, false, cond, ◌&&◌, ◌||◌}
use mathlib.Core.List.{List}
use Prim.Native.Nat.{ℕ, zero, ◌+◌, ◌≤◌, ◌<◌}
use native.Mathlib.Numerals.{add-one}
use native.Mathlib.Omega.{arith}
use lib.ListN.{length, get_or, set}
use lib.Ieee.{Float, nan, lt}
use Rattle.float.specs.Sign.{abs_of}
use Rattle.layout.specs.declared.places.Layout.{Layout}
use Rattle.codes.specs.Codes.{status_of, status_code}
use Rattle.codes.specs.declared.Status.{Status}
use Rattle.records.specs.declared.records.Link.{Link}
use Rattle.links.specs.Links.{link_of}
use Rattle.constants.specs.Arithmetic.{plus, minus}
use Rattle.constants.specs.Constants as constant
use Rattle.causes.specs.Causes.{first_flip, Flip}
use Rattle.causes.specs.declared.Cause.{Cause}
use Rattle.status.specs.Rules.{updated_of, Change}
use Rattle.nodes.specs.Nodes.{enabled, elevation_of}
use Rattle.update.specs.declared.Stats.{Stats}
use Rattle.update.specs.declared.Updated.{Updated}
use Rattle.update.specs.Update.{still, noted, counts, recoded, telling, Stepping, stepping, Basis, flow_change, change_at, link_set, link_moved, link_update, link_updates, update_of}
use Rattle.std.specs.Prelude.{None, Some}

-- ---- one link

pub noted_of : (dq q : Float) (changes : Bool) (t : Stats) (a b l : Float) → a ≡ abs_of dq → b ≡ abs_of q → l ≡ cond (lt t.largest a) a t.largest
    → record { moved = plus t.moved a; total = plus t.total b; largest = l; changed = t.changed || changes } ≡ noted dq q changes t
unfolding noted
noted_of dq q changes t a b l ha hb hl = rw (hl, ha, hb)

-- the larger of two, as a branch leaves it
pub greater : (a b l : Float) → l ≡ a → lt b a ≡ true → l ≡ cond (lt b a) a b
greater a b l h t = rw (t, h)

pub smaller : (a b l : Float) → l ≡ b → lt b a ≡ false → l ≡ cond (lt b a) a b
smaller a b l h t = rw (t, h)

pub recoded_new : (codes : List ℕ) (i : ℕ) (change : Change) (new : Status) (cause : Cause) (code : ℕ) → change ≡ Some (new, cause) → code ≡ status_code new → set codes i code ≡ recoded codes i change
unfolding recoded
recoded_new codes i change new cause code h e = rw (h, e)

pub recoded_same : (codes : List ℕ) (i : ℕ) (change : Change) → change ≡ None → codes ≡ recoded codes i change
unfolding recoded
recoded_same codes i change h = rw h

pub telling_same : (flip : Flip) (j : ℕ) (change : Change) → change ≡ None → flip ≡ telling flip j change
unfolding telling
telling_same flip j change h = rw h

pub telling_new : (flip r : Flip) (j : ℕ) (change : Change) (new : Status) (cause : Cause) → change ≡ Some (new, cause) → r ≡ first_flip flip j cause → r ≡ telling flip j change
unfolding telling
telling_new flip r j change new cause h e = rw (h, e)

pub change_of_lem : (s : List ℕ) (l : Layout) (heads : List Float) (k : Link) (code : ℕ) (q : Float) (status : Status) (up down : Float) (r : Change)
    → up ≡ elevation_of s l k.start → down ≡ elevation_of s l k.end → status ≡ status_of code
    → r ≡ updated_of k.kind status k.setting q (get_or heads k.start nan) (get_or heads k.end nan) up down
    → r ≡ change_at s l heads k code q
unfolding change_at
change_of_lem s l heads k code q status up down r a b d h = rw (h, a, b, d)

pub moved_of : (s : List ℕ) (l : Layout) (b : Basis) (k : Link) (j : ℕ) (flows : List Float) (codes codes₁ : List ℕ) (u : Updated) (stats₁ : Stats) (flip₁ : Flip) (dq : Float) (change : Change) (old : Status) (changes : Bool)
    → dq ≡ flow_change b k j
    → change ≡ change_at s l b.heads k (get_or codes j 0) (minus (get_or flows j nan) dq)
    → codes₁ ≡ recoded codes j change
    → old ≡ status_of (get_or codes j 0)
    → changes ≡ counts old change
    → stats₁ ≡ noted dq (minus (get_or flows j nan) dq) changes u.stats
    → flip₁ ≡ telling u.flip j change
    → stepping (set flows j (minus (get_or flows j nan) dq)) codes₁ (record { stats = stats₁; flip = flip₁ }) ≡ link_moved s l b k j (stepping flows codes u)
unfolding link_moved link_set
moved_of s l b k j flows codes codes₁ u stats₁ flip₁ dq change old changes c d e f g h i = rw (i, h, g, f, e, d, c)

module _ (s : List ℕ) (l : Layout) (b : Basis) (j : ℕ) (k : Link) (read : k ≡ link_of s l j) (m n : Bool) (hm : m ≡ enabled s l k.start) (hn : n ≡ enabled s l k.end) (w : Stepping) where
  pub link_in : (w₁ : Stepping) → (m && n) ≡ true → w₁ ≡ link_moved s l b k j w → w₁ ≡ link_update s l b (link_of s l j) j w
  unfolding link_update
  link_in w₁ h e =
      let on : (enabled s l k.start && enabled s l k.end) ≡ true = rw (← hm, ← hn) h in
      rw (← read, on) e

  pub link_out : (m && n) ≡ false → stepping (set w.flows j constant.zero) w.codes w.updated ≡ link_update s l b (link_of s l j) j w
  unfolding link_update
  link_out h =
      let off : (enabled s l k.start && enabled s l k.end) ≡ false = rw (← hm, ← hn) h in
      rw (← read, off)

-- ---- all links

-- the loop over the links after j of them, with the columns as they are and as they were
pub record Upto (s : List ℕ) (l : Layout) (b : Basis) (q₀ : List Float) (c₀ : List ℕ) (q : List Float) (c : List ℕ) (u : Updated) (j : ℕ) : Type 0 where
  pub upto : j ≤ l.links
  pub made : stepping q c u ≡ link_updates s l b j (stepping q₀ c₀ still)
  pub q_long : length q ≡ length q₀
  pub c_long : length c ≡ length c₀

pub updates_none : (s : List ℕ) (l : Layout) (b : Basis) (w : Stepping) → w ≡ link_updates s l b 0 w
unfolding link_updates
updates_none s l b w = refl

pub updates_next : (s : List ℕ) (l : Layout) (b : Basis) (j : ℕ) (w₀ w w₁ : Stepping) → w ≡ link_updates s l b j w₀ → w₁ ≡ link_update s l b (link_of s l j) j w → w₁ ≡ link_updates s l b (j + 1) w₀
unfolding link_updates
updates_next s l b j w₀ w w₁ h e = rw (add-one j, e, h)

pub updates_all : (s : List ℕ) (l : Layout) (b : Basis) (q : List Float) (c : List ℕ) (j : ℕ) (w : Stepping) → w ≡ link_updates s l b j (stepping q c still) → j ≡ l.links → w ≡ update_of s l b q c
unfolding update_of
updates_all s l b q c j w h e = rw (h, e)
