-- A sign taken out of an operation: a product or a quotient of a negated operand is the negated result. And a sum of two finite floats of any signs is,
-- but for its own sign, at most the sum of their sizes. Assumes nothing.
use mathlib.Core.Path.{◌≡◌, refl, sym, ap, ◌∙◌, subst}
use mathlib.Core.Logic.{⊎_elim, ◌⊎◌, inl, inr}
use Prim.Native.Nat.{ℕ, zero, suc, ◌+◌, ◌-◌, ◌*◌, ◌^◌, ◌≤◌}
use native.Mathlib.Nat.{le_refl, mul-pos, mul_comm, mul-le-mul_right}
use native.Mathlib.Omega.{arith}
use mathlib.Core.Bool.{Bool, true, false, not, cond}
use lib.IntN.{ℤ}
use lib.Dec.{T, ltb, ltb→lt, nltb→le, eqb}
use lib.Ieee.{Float, nan, inf, fin, Format, prec, emax, low, up, down, round, odd, units, sum, neg, mul, add, sub, div, le}
use lib.Ieee.Bits.{cond_no}
use lib.Ieee.Fits.{down_pos, round_is}
use lib.Ieee.Order.{round_mono}
use lib.Ieee.Positive.{num, den, den_pos, positive}
use Rattle.barrier.proofs.Nonnegative.{nonnegative, cross, le_through, held_under, add_is, div_is, sub_is, not_zero}
use Rattle.barrier.proofs.Bounds.{Bounded, origin, from_origin}

-- ---- rounding does the same on both sides of zero
odd_neg : (d q k l : ℕ) → odd d true q k l ≡ neg (odd d false q k l)
unfolding odd neg
odd_neg d zero k l = refl
odd_neg d (suc q) k l = refl

units_neg : (f : Format) (q k : ℕ) → units f true q k ≡ neg (units f false q k)
unfolding units
units_neg f q k = go (ltb (q * 2 ^ k) (2 ^ (low f + suc (emax f))))
  where
    go : (b : Bool) → cond b (odd (suc (prec f)) true q k (low f)) (inf true) ≡ neg (cond b (odd (suc (prec f)) false q k (low f)) (inf false))
    go true = odd_neg (suc (prec f)) q k (low f)
    go false = unfold neg in refl

pub round_neg : (f : Format) (a c : ℕ) → round f true a c ≡ neg (round f false a c)
round_neg f a c = round_is f true a c ∙ units_neg f _ _ ∙ ap neg (sym (round_is f false a c))

-- ---- products and quotients
pub mul_neg : (f : Format) (x y : Float) → T (nonnegative x) → T (nonnegative y) → mul f x (neg y) ≡ neg (mul f x y)
unfolding mul neg
mul_neg f nan y p q = absurd p
mul_neg f (inf s) y p q = absurd p
mul_neg f (fin true m e) y p q = absurd p
mul_neg f (fin false m e) nan p q = absurd q
mul_neg f (fin false m e) (inf t) p q = absurd q
mul_neg f (fin false m e) (fin true n d) p q = absurd q
mul_neg f (fin false m e) (fin false n d) p q = round_neg f (m * up e * (n * up d)) (down e * down d)

pub neg_mul : (f : Format) (x y : Float) → T (nonnegative x) → T (nonnegative y) → mul f (neg x) y ≡ neg (mul f x y)
unfolding mul neg
neg_mul f nan y p q = absurd p
neg_mul f (inf s) y p q = absurd p
neg_mul f (fin true m e) y p q = absurd p
neg_mul f (fin false m e) nan p q = absurd q
neg_mul f (fin false m e) (inf t) p q = absurd q
neg_mul f (fin false m e) (fin true n d) p q = absurd q
neg_mul f (fin false m e) (fin false n d) p q = round_neg f (m * up e * (n * up d)) (down e * down d)

-- a square has no sign
pub neg_square : (f : Format) (x : Float) → T (nonnegative x) → mul f (neg x) (neg x) ≡ mul f x x
unfolding mul neg
neg_square f nan p = absurd p
neg_square f (inf s) p = absurd p
neg_square f (fin true m e) p = absurd p
neg_square f (fin false m e) p = refl

signed_div : (f : Format) (x y : Float) → T (nonnegative x) → T (positive y) → div f (neg x) y ≡ round f true (num x * den y) (num y * den x)
unfolding div neg
signed_div f nan y p q = absurd p
signed_div f (inf s) y p q = absurd p
signed_div f (fin true m e) y p q = absurd p
signed_div f (fin false m e) nan p q = absurd q
signed_div f (fin false m e) (inf t) p q = absurd q
signed_div f (fin false m e) (fin true n d) p q = absurd q
signed_div f (fin false m e) (fin false n d) p q =
    cond_no (eqb n 0) (cond (eqb m 0) nan (inf true)) (round f true (m * up e * down d) (n * up d * down e)) (not_zero n (ltb→lt 0 n q))

pub neg_div : (f : Format) (x y : Float) → T (nonnegative x) → T (positive y) → div f (neg x) y ≡ neg (div f x y)
neg_div f x y p q = signed_div f x y p q ∙ round_neg f (num x * den y) (num y * den x) ∙ ap neg (sym (div_is f x y p q))

-- ---- differences
opened : (f : Format) (x y : Float) → T (nonnegative x) → T (nonnegative y) → sub f x y ≡ sum f false (num x * den y) true (num y * den x) (den x * den y)
unfolding sub
opened f nan y p q = absurd p
opened f (inf s) y p q = absurd p
opened f (fin true m e) y p q = absurd p
opened f (fin false m e) nan p q = absurd q
opened f (fin false m e) (inf t) p q = absurd q
opened f (fin false m e) (fin true n d) p q = absurd q
opened f (fin false m e) (fin false n d) p q = refl

pub sub_neg : (f : Format) (x y : Float) → T (nonnegative x) → T (nonnegative y) → sub f x (neg y) ≡ add f x y
unfolding sub neg
sub_neg f x nan p q = absurd q
sub_neg f x (inf t) p q = absurd q
sub_neg f x (fin true n d) p q = absurd q
sub_neg f x (fin false n d) p q = refl

pub add_neg : (f : Format) (x y : Float) → add f x (neg y) ≡ sub f x y
unfolding sub
add_neg f x y = refl

-- the smaller less the larger: where they are equal, both differences are +0.0
turned : (f : Format) (a b c : ℕ) → a ≤ b → (sum f false a true b c ≡ neg (round f false (b - a) c)) ⊎ (sum f false a true b c ≡ round f false (b - a) c)
unfolding sum
turned f a b c h = go (ltb a b) (nltb→le a b)
  where
    same : (a b : ℕ) → a ≤ b → b ≤ a → a - b ≡ b - a
    same a b h k = omega arith

    go : (t : Bool) → (T (not t) → b ≤ a) → (cond t (round f true (b - a) c) (round f false (a - b) c) ≡ neg (round f false (b - a) c)) ⊎ (cond t (round f true (b - a) c) (round f false (a - b) c) ≡ round f false (b - a) c)
    go true k = inl (round_neg f (b - a) c)
    go false k = inr (ap (λ (z : ℕ). round f false z c) (same a b h (k tt)))

pub flipped : (f : Format) (x y : Float) → T (nonnegative x) → T (nonnegative y) → T (le x y) → (sub f x y ≡ neg (sub f y x)) ⊎ (sub f x y ≡ sub f y x)
flipped f x y p q h =
    ⊎_elim
    (λ (e : sum f false (num x * den y) true (num y * den x) (den x * den y) ≡ neg (round f false (num y * den x - num x * den y) (den x * den y))). inl (opened f x y p q ∙ e ∙ ap neg back))
    (λ (e : sum f false (num x * den y) true (num y * den x) (den x * den y) ≡ round f false (num y * den x - num x * den y) (den x * den y)). inr (opened f x y p q ∙ e ∙ back))
    (turned f (num x * den y) (num y * den x) (den x * den y) (cross x y p q h))
  where
    back : round f false (num y * den x - num x * den y) (den x * den y) ≡ sub f y x
    back = ap (λ (z : ℕ). round f false (num y * den x - num x * den y) z) (mul_comm (den x) (den y)) ∙ sym (sub_is f y x q p h)

-- ---- a sum of two finite floats
record Summed (f : Format) (a b c : ℕ) (x : Float) : Type 0 where
  sign : Bool
  size : ℕ
  is : x ≡ round f sign size c
  small : size ≤ a + b

second_less : (a b : ℕ) → b - a ≤ a + b
second_less a b = omega arith

first_less : (a b : ℕ) → a - b ≤ a + b
first_less a b = omega arith

summed : (f : Format) (s : Bool) (a : ℕ) (t : Bool) (b c : ℕ) → Summed f a b c (sum f s a t b c)
unfolding sum
summed f false a false b c = record { sign = false; size = a + b; is = refl; small = le_refl (a + b) }
summed f false a true b c = go (ltb a b)
  where
    go : (t : Bool) → Summed f a b c (cond t (round f true (b - a) c) (round f false (a - b) c))
    go true = record { sign = true; size = b - a; is = refl; small = second_less a b }
    go false = record { sign = false; size = a - b; is = refl; small = first_less a b }
summed f true a true b c = record { sign = true; size = a + b; is = refl; small = le_refl (a + b) }
summed f true a false b c = go (ltb a b)
  where
    go : (t : Bool) → Summed f a b c (cond t (round f false (b - a) c) (round f (ltb b a) (a - b) c))
    go true = record { sign = false; size = b - a; is = refl; small = second_less a b }
    go false = record { sign = ltb b a; size = a - b; is = refl; small = first_less a b }

sum_is : (f : Format) (s : Bool) (m : ℕ) (e : ℤ) (z : Float) → T (nonnegative z) → add f (fin s m e) z ≡ sum f s (m * up e * den z) false (num z * down e) (down e * den z)
unfolding add
sum_is f s m e nan p = absurd p
sum_is f s m e (inf t) p = absurd p
sum_is f s m e (fin true n d) p = absurd p
sum_is f s m e (fin false n d) p = refl

-- x is `size`, which is at most hi, or that with a minus
pub record Sized (x hi : Float) : Type 0 where
  pub size : Float
  pub bound : Bounded origin size hi
  pub is : (x ≡ size) ⊎ (x ≡ neg size)

by_sign : (f : Format) (s : Bool) (a c : ℕ) → (round f s a c ≡ round f false a c) ⊎ (round f s a c ≡ neg (round f false a c))
by_sign f false a c = inl refl
by_sign f true a c = inr (round_neg f a c)

module _ (f : Format) (s : Bool) (m : ℕ) (e : ℤ) (z hi : Float) (p : T (nonnegative z)) (b : Bounded origin (add f (fin false m e) z) hi) where
  parts : Summed f (m * up e * den z) (num z * down e) (down e * den z) (sum f s (m * up e * den z) false (num z * down e) (down e * den z))
  parts = summed f s (m * up e * den z) false (num z * down e) (down e * den z)

  rounded : Float
  rounded = round f false parts.size (down e * den z)

  under : T (le rounded (add f (fin false m e) z))
  unfolding rounded
  under =
      subst (λ (y : Float). T (le rounded y)) (sym (add_is f (fin false m e) z tt p))
      (round_mono f parts.size (down e * den z) (m * up e * den z + num z * down e) (down e * den z) (mul-pos (down_pos e) (den_pos z)) (mul-pos (down_pos e) (den_pos z)) (mul-le-mul_right (down e * den z) parts.small))

  held : T (nonnegative rounded)
  unfolding rounded
  held = held_under f parts.size (down e * den z) (add f (fin false m e) z) b.held under

  pub plus_sized : Sized (add f (fin s m e) z) hi
  unfolding rounded
  plus_sized =
      record {
        size = rounded;
        bound = record { low = tt; held = held; high = b.high; least = from_origin rounded held; most = le_through rounded (add f (fin false m e) z) hi held b.held b.high under b.most };
        is = subst (λ (y : Float). (y ≡ rounded) ⊎ (y ≡ neg rounded)) (sym (sum_is f s m e z p ∙ parts.is)) (by_sign f parts.sign parts.size (down e * den z));
      }
