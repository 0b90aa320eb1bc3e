-- Where the rows up to one hold +0.0 left of the diagonal, the pivots of these rows are their diagonal entries. Assumes nothing.
use Prim.Native.Nat.{ℕ, zero, suc, ◌+◌, ◌-◌, ◌*◌, ◌≤◌, ◌<◌}
use mathlib.Core.Path.{◌≡◌, refl, sym, ap, ◌∙◌, subst}
use mathlib.Core.Bool.{Bool, true, false, cond}
use mathlib.Core.List.{List}
use native.Mathlib.Omega.{arith}
use native.Mathlib.Decide.{dec_lt}
use lib.Dec.{T}
use lib.ListN.{length, length-set}
use lib.Seq.{get_or-set_other}
use lib.Ieee.{Float, nan, inf, fin, binary64, sub, mul, div, eq, fits, of_bits, of_fields, odd}
use lib.Ieee.Bits.{of_bits-fits}
use lib.Ieee.Fits.{sub-fits}
use lib.Ieee.Positive.{above as aboveZero}
use lib.Ieee.Scale.{finite}
use Rattle.roots.specs.Root.{root_of}
use Rattle.zeros.specs.Zeros.{minus_zero, Firm}
use Rattle.zeros.proofs.Zeros.{clash, zero_skipped}
use Rattle.linear.specs.declared.factorization.UnknownIndex.{UnknownIndex}
use Rattle.linear.specs.Matrix.{at, put}
use Rattle.linear.specs.Factorization.{above, less, reduced, divided, Outcome, columns, factor_of}
use Rattle.linear.proofs.Filling.{length_fill, fill_before, fill_after, fill_at}
use Rattle.repairs_bound.proofs.Floats.{test_above, zero_quotient, root_above}
use Rattle.std.specs.Prelude.{Err}

-- ---- +0.0

zero_firm : Firm (of_bits binary64 0)
unfolding minus_zero of_bits of_fields odd
zero_firm = record { held = of_bits-fits binary64 0; sign = refl }

zero_finite : T (finite (of_bits binary64 0))
unfolding of_bits of_fields odd
zero_finite = tt

zero_equal : eq (of_bits binary64 0) (of_bits binary64 0) ≡ true
unfolding eq of_bits of_fields odd
zero_equal = refl

above_firm : (x : Float) → T (fits binary64 x) → T (aboveZero x) → Firm x
above_firm x held h = record { held = held; sign = go x h }
  where
    go : (x : Float) → T (aboveZero x) → minus_zero x ≡ false
    go nan k = absurd k
    go (inf s) k = unfold minus_zero in refl
    go (fin true m e) k = absurd k
    go (fin false m e) k = unfold minus_zero in refl

-- ---- one entry

-- the rows up to c hold +0.0 left of the diagonal
abbrev pub Bare : ℕ → List Float → Type 0
Bare c a = (r j : ℕ) → j < r → r ≤ c → at a r j ≡ of_bits binary64 0

less_kept : (a : List Float) (r c k : ℕ) → Firm (at a r c) → ((i : ℕ) → i < k → at a r i ≡ of_bits binary64 0) → ((i : ℕ) → i < k → at a c i ≡ of_bits binary64 0) → less a r c k ≡ at a r c
unfolding less
less_kept a r c zero f p q = refl
less_kept a r c (suc k) f p q =
    ap (λ (x : Float). sub binary64 x (mul binary64 (at a r k) (at a c k))) (less_kept a r c k f (λ i h. p i (omega arith)) (λ i h. q i (omega arith)))
    ∙ ap (λ (x : Float). sub binary64 (at a r c) (mul binary64 x (at a c k))) (p k (omega arith))
    ∙ ap (λ (x : Float). sub binary64 (at a r c) (mul binary64 (of_bits binary64 0) x)) (q k (omega arith))
    ∙ zero_skipped (at a r c) (of_bits binary64 0) (of_bits binary64 0) f zero_finite zero_equal

less_fits : (a : List Float) (r c k : ℕ) → T (fits binary64 (at a r c)) → T (fits binary64 (less a r c k))
unfolding less
less_fits a r c zero h = h
less_fits a r c (suc k) h = sub-fits binary64 (less a r c k) (mul binary64 (at a r k) (at a c k))

-- ---- one column

-- column k in L: the root of its pivot, and the rows below divided by it
unfoldable turned : ℕ → ℕ → List Float → List Float
turned n k a =
    let b = reduced n k k a in
    let d = root_of (at b k k) in
    divided k d (n - suc k) (put b k k d)

module _ (n c k : ℕ) (a : List Float) (hn : n ≤ 64) (hc : c < n) (hk : k ≤ c) (long : length a ≡ 4096) where
  reduced_at : (r : ℕ) → k ≤ r → r < n → at (reduced n k k a) r k ≡ less a r k k
  unfolding reduced
  reduced_at r lo hi =
      let f : ℕ → Float = λ j. less a (k + j) k k in
      let row : k + (r - k) ≡ r = omega arith in
      fill_at (64 * k + k) f (n - k) a (64 * k + r) (r - k) (omega arith) (omega arith) (omega arith) ∙ ap (λ (i : ℕ). less a i k k) row

  reduced_long : length (reduced n k k a) ≡ 4096
  unfolding reduced
  reduced_long = length_fill (64 * k + k) _ (n - k) a ∙ long

  -- the other columns stay
  turned_other : (r j : ℕ) → r < 64 → (j ≡ k → ⊥) → at (turned n k a) r j ≡ at a r j
  unfolding turned reduced divided
  turned_other r j hr ne = go (dec_lt j k)
    where
      b : List Float
      b = reduced n k k a

      d : Float
      d = root_of (at b k k)

      go : Dec (j < k) → at (turned n k a) r j ≡ at a r j
      go (yes h) =
          fill_before (64 * k + suc k) _ (n - suc k) (put b k k d) (64 * j + r) (omega arith)
          ∙ get_or-set_other b (64 * k + k) (64 * j + r) d nan (omega arith)
          ∙ fill_before (64 * k + k) _ (n - k) a (64 * j + r) (omega arith)
      go (no h) =
          let more : k < j = omega (arith, h, ne) in
          fill_after (64 * k + suc k) _ (n - suc k) (put b k k d) (64 * j + r) (omega arith)
          ∙ get_or-set_other b (64 * k + k) (64 * j + r) d nan (omega arith)
          ∙ fill_after (64 * k + k) _ (n - k) a (64 * j + r) (omega arith)

  turned_below : (r : ℕ) → k < r → r < n → at (turned n k a) r k ≡ div binary64 (at (reduced n k k a) r k) (root_of (at (reduced n k k a) k k))
  unfolding turned divided
  turned_below r lo hi =
      let b = reduced n k k a in
      let d = root_of (at b k k) in
      let f : ℕ → Float = λ j. div binary64 (at (put b k k d) (suc k + j) k) d in
      let row : suc k + (r - suc k) ≡ r = omega arith in
      fill_at (64 * k + suc k) f (n - suc k) (put b k k d) (64 * k + r) (r - suc k) (omega arith) (omega arith) (omega (arith, length-set b (64 * k + k) d, reduced_long))
      ∙ ap (λ (i : ℕ). div binary64 (at (put b k k d) i k) d) row
      ∙ ap (λ (x : Float). div binary64 x d) (get_or-set_other b (64 * k + k) (64 * k + r) d nan (omega arith))

  turned_long : length (turned n k a) ≡ 4096
  unfolding turned divided
  turned_long =
      let b = reduced n k k a in
      let d = root_of (at b k k) in
      length_fill (64 * k + suc k) _ (n - suc k) (put b k k d) ∙ length-set b (64 * k + k) d ∙ reduced_long

  module _ (bare : Bare c a) (held : T (fits binary64 (at a k k))) where
    -- the pivot is the diagonal entry, where that is above zero
    pivot-kept : above (at a k k) ≡ true → at (reduced n k k a) k k ≡ at a k k
    pivot-kept h =
        reduced_at k (omega arith) (omega arith)
        ∙ less_kept a k k k (above_firm (at a k k) held (test_above (at a k k) h)) (λ i z. bare k i z hk) (λ i z. bare k i z hk)

    below_zero : (r : ℕ) → k < r → r ≤ c → at (reduced n k k a) r k ≡ of_bits binary64 0
    below_zero r lo hi =
        reduced_at r (omega arith) (omega arith)
        ∙ less_kept a r k k (subst Firm (sym (bare r k lo hi)) zero_firm) (λ i z. bare r i (omega arith) hi) (λ i z. bare k i z hk)
        ∙ bare r k lo hi

    -- and the rows stay bare
    stays-bare : above (at (reduced n k k a) k k) ≡ true → Bare c (turned n k a)
    stays-bare h r j lo hi = go (dec_lt j k) (dec_lt k j)
      where
        p : Float
        p = at (reduced n k k a) k k

        fit : T (fits binary64 p)
        fit = subst (λ (x : Float). T (fits binary64 x)) (sym (reduced_at k (omega arith) (omega arith))) (less_fits a k k k held)

        go : Dec (j < k) → Dec (k < j) → at (turned n k a) r j ≡ of_bits binary64 0
        go (yes x) y = turned_other r j (omega arith) (omega arith) ∙ bare r j lo hi
        go (no x) (yes y) = turned_other r j (omega arith) (omega arith) ∙ bare r j lo hi
        go (no x) (no y) =
            let same : j ≡ k = omega (arith, x, y) in
            ap (λ (i : ℕ). at (turned n k a) r i) same
            ∙ turned_below r (omega arith) (omega arith)
            ∙ ap (λ (x : Float). div binary64 x (root_of p)) (below_zero r (omega arith) hi)
            ∙ zero_quotient (root_of p) (root_above p fit (test_above p h))

-- ---- all columns

columns_one : (n m k : ℕ) (a : List Float) → columns n (suc m) k a ≡ cond (above (at (reduced n k k a) k k)) (columns n m (suc k) (turned n k a)) (record { matrix = reduced n k k a; answer = Err (record { 0 = k }) })
unfolding columns turned
columns_one n m k a = refl

columns_none : (n k : ℕ) (a : List Float) (u : UnknownIndex) → (columns n 0 k a).answer ≡ Err u → ⊥
unfolding columns
columns_none n k a u e = let z : ◌≡◌ {A = ℕ} 0 1 = cc in omega arith

-- a stop is not before the first column
stops_from : (n m k : ℕ) (a : List Float) (u : UnknownIndex) → (columns n m k a).answer ≡ Err u → k ≤ u.0
stops_from n zero k a u e = absurd (columns_none n k a u e)
stops_from n (suc m) k a u e =
    go (above (at (reduced n k k a) k k)) (ap (λ (o : Outcome). o.answer) (sym (columns_one n m k a)) ∙ e) (stops_from n m (suc k) (turned n k a) u)
  where
    go : (b : Bool) → (cond b (columns n m (suc k) (turned n k a)) (record { matrix = reduced n k k a; answer = Err (record { 0 = k }) })).answer ≡ Err u
        → ((columns n m (suc k) (turned n k a)).answer ≡ Err u → suc k ≤ u.0) → k ≤ u.0
    go true f ih = omega (arith, ih f)
    go false f ih = let p : k ≡ u.0 = cc in omega arith

module _ (n c : ℕ) (hn : n ≤ 64) (hc : c < n) (u : UnknownIndex) (hu : u.0 ≤ c) where
  from_column : (m k : ℕ) (a : List Float) → length a ≡ 4096 → Bare c a → ((r : ℕ) → k ≤ r → r ≤ c → T (fits binary64 (at a r r))) → (columns n m k a).answer ≡ Err u
      → above (at a u.0 u.0) ≡ false
  from_column zero k a long bare held e = absurd (columns_none n k a u e)
  from_column (suc m) k a long bare held e =
      go (above (at (reduced n k k a) k k)) refl (ap (λ (o : Outcome). o.answer) (sym (columns_one n m k a)) ∙ e) (from_column m (suc k) (turned n k a))
    where
      first : k ≤ c
      first = omega (arith, stops_from n (suc m) k a u e, hu)

      fit : T (fits binary64 (at a k k))
      fit = held k (omega arith) first

      go : (b : Bool) → above (at (reduced n k k a) k k) ≡ b
          → (cond b (columns n m (suc k) (turned n k a)) (record { matrix = reduced n k k a; answer = Err (record { 0 = k }) })).answer ≡ Err u
          → (length (turned n k a) ≡ 4096 → Bare c (turned n k a) → ((r : ℕ) → suc k ≤ r → r ≤ c → T (fits binary64 (at (turned n k a) r r))) → (columns n m (suc k) (turned n k a)).answer ≡ Err u
          → above (at (turned n k a) u.0 u.0) ≡ false)
          → above (at a u.0 u.0) ≡ false
      go true p f ih =
          let same : (r : ℕ) → suc k ≤ r → r ≤ c → at (turned n k a) r r ≡ at a r r = λ r lo hi. turned_other n c k a hn hc first long r r (omega arith) (omega arith) in
          sym (ap above (same u.0 (stops_from n m (suc k) (turned n k a) u f) hu))
          ∙ ih (turned_long n c k a hn hc first long) (stays-bare n c k a hn hc first long bare fit p)
          (λ r lo hi. subst (λ (x : Float). T (fits binary64 x)) (sym (same r lo hi)) (held r (omega arith) hi)) f
      go false p f ih = let here : k ≡ u.0 = cc in subst (λ (i : ℕ). above (at a i i) ≡ false) here (stop (above (at a k k)) refl)
        where
          stop : (t : Bool) → above (at a k k) ≡ t → t ≡ false
          stop true q = clash (sym p ∙ ap above (pivot-kept n c k a hn hc first long bare fit q) ∙ q)
          stop false q = refl

  -- a factorization that stops at one of these rows stops at a diagonal entry that is not above zero
  pub stops_at_diagonal : (a : List Float) → length a ≡ 4096 → Bare c a → ((r : ℕ) → r ≤ c → T (fits binary64 (at a r r))) → (factor_of n a).answer ≡ Err u → above (at a u.0 u.0) ≡ false
  unfolding factor_of
  stops_at_diagonal a long bare held e = from_column n 0 a long bare (λ r lo hi. held r hi) e
