-- One pass, one link and one turn of each loop, over plain variables. Assumes nothing.
use Prim.Native.Nat.{ℕ, zero, suc, ◌+◌, ◌-◌, ◌≤◌, ◌<◌}
use mathlib.Core.Path.{◌≡◌, refl, sym, ap, ◌∙◌}
use mathlib.Core.List.{List}
use mathlib.Core.Bool.{Bool, true, false, not, cond, ◌&&◌, ◌||◌, true≢false}
use mathlib.Core.Logic.{◌⊎◌, inl, inr}
use native.Mathlib.Omega.{arith}
use native.Mathlib.Numerals.{add-one}
use lib.ListN.{length, get_or, set, length-set}
use Rattle.reach.specs.Reach.{EndsBelow, marks, passed, followed, follows, swept, stirred, sweeps, lacks}

-- a number of a node is a place of the marks
pub below : {j n m : ℕ} → j < n → m ≡ n → j < m
below h e = omega arith

pub ends_within : {n k l m : ℕ} {starts ends : List ℕ} → EndsBelow n k starts ends → n ≤ l → m ≡ l → EndsBelow m k starts ends
ends_within e h p = record { start = λ j g. let q = e.start j g in omega arith; end = λ j g. let q = e.end j g in omega arith }

-- of two tests joined by "or", neither holds
or_false : {x y : Bool} → (x || y) ≡ false → (x ≡ false) × (y ≡ false)
or_false {x = false} e = (refl, e)
or_false {x = true} e = absurd (true≢false e)

pass_still : (on : Bool) (a b : ℕ) (m : List Bool) → marks on a b m ≡ false → passed on a b m ≡ m
unfolding passed
pass_still on a b m e = rw e

-- a pass: it marks a node, or leaves the marks
module _ (on : Bool) (a b : ℕ) (m : List Bool) where
  pub pass_marks : (on && (get_or m a false && not (get_or m b false))) ≡ true → (set m b true ≡ passed on a b m) × (true ≡ marks on a b m)
  unfolding passed marks
  pass_marks h = (rw h, sym h)

  pub pass_leaves : (on && (get_or m a false && not (get_or m b false))) ≡ false → (m ≡ passed on a b m) × (false ≡ marks on a b m)
  unfolding passed marks
  pass_leaves h = (rw h, sym h)

  pub pass_cases : ((marks on a b m ≡ true) × (passed on a b m ≡ set m b true)) ⊎ ((marks on a b m ≡ false) × (passed on a b m ≡ m))
  unfolding passed
  pass_cases = go (marks on a b m) refl
    where
      go : (t : Bool) → marks on a b m ≡ t → ((marks on a b m ≡ true) × (cond (marks on a b m) (set m b true) m ≡ set m b true)) ⊎ ((marks on a b m ≡ false) × (cond (marks on a b m) (set m b true) m ≡ m))
      go true e = inl (e, rw e)
      go false e = inr (e, rw e)

  pub pass_long : length (passed on a b m) ≡ length m
  pass_long = go pass_cases
    where
      go : ((marks on a b m ≡ true) × (passed on a b m ≡ set m b true)) ⊎ ((marks on a b m ≡ false) × (passed on a b m ≡ m)) → length (passed on a b m) ≡ length m
      go (inl p) = ap length p.1 ∙ length-set m b true
      go (inr p) = ap length p.1

  pub follow_of : (f g : List Bool) (t u : Bool) → f ≡ passed on a b m → t ≡ marks on a b m → g ≡ passed on b a f → u ≡ marks on b a f
      → (g ≡ followed on a b m) × ((t || u) ≡ follows on a b m)
  unfolding followed follows
  follow_of f g t u p q r s = (rw (r, p), rw (q, s, p))

  pub follow_still : follows on a b m ≡ false → followed on a b m ≡ m
  unfolding followed follows
  follow_still e =
      let h = or_false {x = marks on a b m} e in
      let p = pass_still on a b m h.0 in
      ap (passed on b a) p ∙ pass_still on b a m (rw p at h.1)

pub follow_long : (on : Bool) (a b : ℕ) (m : List Bool) → length (followed on a b m) ≡ length m
unfolding followed
follow_long on a b m = pass_long on b a (passed on a b m) ∙ pass_long on a b m

-- the sweeps
module _ (starts ends : List ℕ) (joins : List Bool) where
  pub sweep_none : (m : List Bool) → (m ≡ swept starts ends joins 0 m) × (false ≡ stirred starts ends joins 0 m)
  unfolding swept stirred
  sweep_none m = (refl, refl)

  pub sweep_next : (i : ℕ) (m f g : List Bool) (t u : Bool) → f ≡ swept starts ends joins i m → t ≡ stirred starts ends joins i m
      → g ≡ followed (get_or joins i false) (get_or starts i 0) (get_or ends i 0) f → u ≡ follows (get_or joins i false) (get_or starts i 0) (get_or ends i 0) f
      → (g ≡ swept starts ends joins (i + 1) m) × ((t || u) ≡ stirred starts ends joins (i + 1) m)
  unfolding swept stirred
  sweep_next i m f g t u p q r s = (rw (add-one i, r, p), rw (add-one i, q, s, p))

  pub swept_long : (k : ℕ) (m : List Bool) → length (swept starts ends joins k m) ≡ length m
  unfolding swept
  swept_long zero m = refl
  swept_long (suc k) m = follow_long (get_or joins k false) (get_or starts k 0) (get_or ends k 0) (swept starts ends joins k m) ∙ swept_long k m

  pub swept_as_long : (k : ℕ) {l : ℕ} (f g : List Bool) → g ≡ swept starts ends joins k f → length f ≡ l → length g ≡ l
  swept_as_long k f g e h = ap length e ∙ swept_long k f ∙ h

  -- a sweep that marked nothing left the marks, and so do all sweeps after it
  pub sweep_still : (k : ℕ) (m : List Bool) → stirred starts ends joins k m ≡ false → swept starts ends joins k m ≡ m
  unfolding swept stirred
  sweep_still zero m e = refl
  sweep_still (suc k) m e =
      let h = or_false {x = stirred starts ends joins k m} e in
      follow_still (get_or joins k false) (get_or starts k 0) (get_or ends k 0) (swept starts ends joins k m) h.1 ∙ sweep_still k m h.0

  pub sweeps_still : (k n : ℕ) (m : List Bool) → swept starts ends joins k m ≡ m → sweeps starts ends joins k n m ≡ m
  unfolding sweeps
  sweeps_still k zero m e = refl
  sweeps_still k (suc n) m e = ap (sweeps starts ends joins k n) e ∙ sweeps_still k n m e

  pub sweeps_next : (k n i : ℕ) (f g : List Bool) → i < n → g ≡ swept starts ends joins k f → sweeps starts ends joins k (n - (i + 1)) g ≡ sweeps starts ends joins k (n - i) f
  unfolding sweeps
  sweeps_next k n i f g h e =
      let p : n - i ≡ suc (n - (i + 1)) = omega arith in
      rw (p, e)

  pub sweeps_end : (k n i : ℕ) (f : List Bool) → n ≤ i → f ≡ sweeps starts ends joins k (n - i) f
  unfolding sweeps
  sweeps_end k n i f h =
      let p : n - i ≡ 0 = omega arith in
      rw p

  pub sweeps_stop : (k n i : ℕ) (f g : List Bool) (t : Bool) → g ≡ swept starts ends joins k f → t ≡ stirred starts ends joins k f → t ≡ false → g ≡ sweeps starts ends joins k (n - i) f
  sweeps_stop k n i f g t p q e =
      let s = sweep_still k f (sym q ∙ e) in
      p ∙ s ∙ sym (sweeps_still k (n - i) f s)

-- the search's test
pub lacks_of : (needs reached : List Bool) (i : ℕ) → (get_or needs i false && not (get_or reached i false)) ≡ lacks needs reached i
unfolding lacks
lacks_of needs reached i = refl
