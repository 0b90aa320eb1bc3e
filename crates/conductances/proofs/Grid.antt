-- A fraction up to 2 ^ h rounds to an f64 up to 2 ^ h, and one from 2 ^ -k on to an f64 from 2 ^ -k on: both bounds are f64s, and `round` keeps the order. Assumes nothing.
use mathlib.Core.Path.{◌≡◌, sym, ap, ◌∙◌, subst}
use mathlib.Core.Logic.{◌⊎◌, inl, inr}
use mathlib.Core.Bool.{Bool, true, false, not, ◌&&◌, ◌||◌, cond, true≢false}
use Prim.Native.Nat.{ℕ, zero, suc, ◌+◌, ◌-◌, ◌*◌, ◌^◌, ◌≤◌, ◌<◌}
use native.Mathlib.Nat.{le_trans, le_of_eq, le_of_lt, zero-lt-suc, mul-one, one-mul, mul_comm, mul_right_comm, mul-le-mul_right, le_of_mul-le-mul_right}
use native.Mathlib.Omega.{arith}
use lib.IntN.{ℤ}
use lib.Dec.{T, ltb, eqb, ltb→lt, eqb→eq, lit<}
use lib.Pow.{pow_pos, pow-add, pow-lt}
use lib.Ieee.{Float, nan, inf, fin, Format, binary64, prec, emax, low, up, down, odd, units, round, le}
use lib.Ieee.Fits.{round_is, down_pos, and_l}
use lib.Ieee.Exact.{HasValue, round_exact, units_val}
use lib.Ieee.Order.{drop, kept, transfer, round_mono}
use lib.Ieee.Scale.{grid, finite, round_val, round_under}

-- ---- not negative: no NaN, and the sign is clear
abbrev pub clear : Float → Bool
clear nan = false
clear (inf s) = not s
clear (fin s m e) = not s

odd_clear : (d q k l : ℕ) → T (clear (odd d false q k l))
unfolding odd
odd_clear d zero k l = tt
odd_clear d (suc q) k l = tt

units_clear : (f : Format) (q k : ℕ) → T (clear (units f false q k))
unfolding units
units_clear f q k = go (ltb (q * 2 ^ k) (2 ^ (low f + suc (emax f))))
  where
    go : (b : Bool) → T (clear (cond b (odd (suc (prec f)) false q k (low f)) (inf false)))
    go true = odd_clear (suc (prec f)) q k (low f)
    go false = tt

pub round_clear : (f : Format) (a c : ℕ) → T (clear (round f false a c))
round_clear f a c = subst (λ (x : Float). T (clear x)) (sym (round_is f false a c)) (units_clear f (kept (prec f) (a * 2 ^ low f) c) (drop (prec f) (a * 2 ^ low f) c))

-- ---- the order of two values that are not negative, as one of fractions
or_split : (a b : Bool) → T (a || b) → T a ⊎ T b
or_split true b t = inl tt
or_split false b t = inr t

lt_or_eq : (a b : ℕ) → T (ltb a b || (eqb a b && true)) → a ≤ b
lt_or_eq a b t = elim (or_split (ltb a b) (eqb a b && true) t) [ inl u ↦ le_of_lt (ltb→lt a b u) | inr u ↦ le_of_eq (eqb→eq a b (and_l (eqb a b) true u)) ]

pub cross : (m : ℕ) (e : ℤ) (n : ℕ) (d : ℤ) → T (le (fin false m e) (fin false n d)) → m * up e * down d ≤ n * up d * down e
unfolding le
cross m e n d t = lt_or_eq (m * up e * down d) (n * up d * down e) t

-- below a finite value, and not negative: finite
finite_of_le : (x y : Float) (b d : ℕ) → T (clear x) → HasValue y false b d → T (le x y) → T (finite x)
unfolding le
finite_of_le nan y b d p k h = absurd p
finite_of_le (inf true) y b d p k h = absurd p
finite_of_le (inf false) nan b d p k h = absurd k
finite_of_le (inf false) (inf t) b d p k h = absurd k
finite_of_le (inf false) (fin t n g) b d p k h = absurd h
finite_of_le (fin s m e) y b d p k h = tt

values_of : (x y : Float) (a c b d : ℕ) → HasValue x false a c → HasValue y false b d → T (le x y) → a * d ≤ b * c
values_of nan y a c b d h k l = absurd h
values_of (inf s) y a c b d h k l = absurd h
values_of (fin true m e) y a c b d h k l = absurd (true≢false h.0)
values_of (fin false m e) nan a c b d h k l = absurd k
values_of (fin false m e) (inf t) a c b d h k l = absurd k
values_of (fin false m e) (fin true n g) a c b d h k l = absurd (true≢false k.0)
values_of (fin false m e) (fin false n g) a c b d h k l =
    transfer a b c d (m * up e) (n * up g) (down e) (down g) (down_pos e) (down_pos g) (sym h.1) (sym k.1) (cross m e n g l)

-- ---- 2 ^ h and 2 ^ -k are f64s
one_pos : 0 < 1
one_pos = zero-lt-suc 0

pub power_value : (h : ℕ) → h ≤ 1023 → HasValue (round binary64 false (2 ^ h) 1) false (2 ^ h) 1
power_value h H =
    round_exact binary64 false (2 ^ h) 1 1 (h + 1074) one_pos (lit< tt)
    (subst (λ (x : ℕ). x < 2 ^ (1074 + 1024)) (sym (one-mul (2 ^ (h + 1074)))) (pow-lt room))
    (sym (mul-one (1 * 2 ^ (h + 1074)) ∙ one-mul (2 ^ (h + 1074)) ∙ pow-add 2 h 1074))
  where
    room : h + 1074 < 1074 + 1024
    room = omega arith

pub part_value : (k : ℕ) → k ≤ 1074 → HasValue (round binary64 false 1 (2 ^ k)) false 1 (2 ^ k)
part_value k K =
    round_exact binary64 false 1 (2 ^ k) 1 (1074 - k) (pow_pos k) (lit< tt)
    (subst (λ (x : ℕ). x < 2 ^ (1074 + 1024)) (sym (one-mul (2 ^ (1074 - k)))) (pow-lt room))
    (one-mul (2 ^ 1074) ∙ sym (ap (λ (x : ℕ). x * 2 ^ k) (one-mul (2 ^ (1074 - k))) ∙ sym (pow-add 2 (1074 - k) k) ∙ ap (λ (x : ℕ). 2 ^ x) back))
  where
    room : 1074 - k < 1074 + 1024
    room = omega arith

    back : 1074 - k + k ≡ 1074
    back = omega arith

-- ---- the rounded fraction in units
module _ (a c h : ℕ) (C : 0 < c) (H : h ≤ 1023) (most : a ≤ 2 ^ h * c) where
  below : T (le (round binary64 false a c) (round binary64 false (2 ^ h) 1))
  below = round_mono binary64 a c (2 ^ h) 1 C one_pos (le_trans (le_of_eq (mul-one a)) most)

  pub round_finite : T (finite (round binary64 false a c))
  round_finite = finite_of_le (round binary64 false a c) (round binary64 false (2 ^ h) 1) (2 ^ h) 1 (round_clear binary64 a c) (power_value h H) below

  value : HasValue (round binary64 false a c) false (grid binary64 a c) (2 ^ 1074)
  value = round_val binary64 a c (round_under binary64 a c round_finite)

  grid_most : grid binary64 a c ≤ 2 ^ h * 2 ^ 1074
  grid_most = le_trans (le_of_eq (sym (mul-one (grid binary64 a c)))) (values_of (round binary64 false a c) (round binary64 false (2 ^ h) 1) (grid binary64 a c) (2 ^ 1074) (2 ^ h) 1 value (power_value h H) below)

  -- with either sign
  signed : (s : Bool) → HasValue (round binary64 s a c) s (grid binary64 a c) (2 ^ 1074)
  signed s =
      subst (λ (x : Float). HasValue x s (grid binary64 a c) (2 ^ 1074)) (sym (round_is binary64 s a c))
      (units_val binary64 s (kept 53 (a * 2 ^ 1074) c) (drop 53 (a * 2 ^ 1074) c) (round_under binary64 a c round_finite))

  grid_least : (k : ℕ) → k ≤ 1074 → c ≤ a * 2 ^ k → 2 ^ 1074 ≤ grid binary64 a c * 2 ^ k
  grid_least k K least =
      le_trans (le_of_eq (sym (one-mul (2 ^ 1074))))
      (values_of (round binary64 false 1 (2 ^ k)) (round binary64 false a c) 1 (2 ^ k) (grid binary64 a c) (2 ^ 1074) (part_value k K) value
      (round_mono binary64 1 (2 ^ k) a c (pow_pos k) C (le_trans (le_of_eq (one-mul c)) least)))

-- ---- in size at most 2 ^ h, and at least 2 ^ -k: finite
abbrev pub Size : ℕ → Float → Type 0
Size h nan = ⊥
Size h (inf s) = ⊥
Size h (fin s m e) = m * up e ≤ 2 ^ h * down e

abbrev pub Least : ℕ → Float → Type 0
Least k nan = ⊥
Least k (inf s) = ⊥
Least k (fin s m e) = down e ≤ m * up e * 2 ^ k

pub size_of_value : (x : Float) (s : Bool) (a c h : ℕ) → 0 < c → HasValue x s a c → a ≤ 2 ^ h * c → Size h x
size_of_value nan s a c h C v l = v
size_of_value (inf t) s a c h C v l = v
size_of_value (fin t m e) s a c h C v l =
    le_of_mul-le-mul_right
    (le_trans (le_of_eq v.1) (le_trans (mul-le-mul_right (down e) l) (le_of_eq (mul_right_comm (2 ^ h) c (down e)))))
    C

pub least_of_value : (x : Float) (s : Bool) (a c k : ℕ) → 0 < c → HasValue x s a c → c ≤ a * 2 ^ k → Least k x
least_of_value nan s a c k C v l = v
least_of_value (inf t) s a c k C v l = v
least_of_value (fin t m e) s a c k C v l =
    le_of_mul-le-mul_right
    (le_trans (le_of_eq (mul_comm (down e) c))
    (le_trans (mul-le-mul_right (down e) l)
    (le_of_eq (mul_right_comm a (2 ^ k) (down e) ∙ ap (λ (z : ℕ). z * 2 ^ k) (sym v.1) ∙ mul_right_comm (m * up e) c (2 ^ k)))))
    C

pub round_size : (s : Bool) (a c h : ℕ) → 0 < c → h ≤ 1023 → a ≤ 2 ^ h * c → Size h (round binary64 s a c)
round_size s a c h C H most = size_of_value (round binary64 s a c) s (grid binary64 a c) (2 ^ 1074) h (pow_pos 1074) (signed a c h C H most s) (grid_most a c h C H most)

pub round_least : (s : Bool) (a c h k : ℕ) → 0 < c → h ≤ 1023 → a ≤ 2 ^ h * c → k ≤ 1074 → c ≤ a * 2 ^ k → Least k (round binary64 s a c)
round_least s a c h k C H most K least = least_of_value (round binary64 s a c) s (grid binary64 a c) (2 ^ 1074) k (pow_pos 1074) (signed a c h C H most s) (grid_least a c h C H most k K least)
