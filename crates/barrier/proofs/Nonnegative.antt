-- The floats that are finite and not negative, +0.0 included, each as the fraction `num` / `den`: their order is the fractions', and an operation on two of them is one rounded fraction.
-- The library's Positive.antt has it of those above zero. Assumes nothing.
use mathlib.Core.Path.{◌≡◌, refl, sym, subst, ◌∙◌}
use mathlib.Core.Logic.{◌⊎◌, inl, inr}
use Prim.Native.Nat.{ℕ, zero, suc, ◌+◌, ◌-◌, ◌*◌, ◌^◌, ◌≤◌, ◌<◌}
use native.Mathlib.Nat.{le_of_eq, le_of_lt, not-le_of_lt, mul-pos}
use native.Mathlib.Omega.{arith}
use mathlib.Core.Bool.{Bool, true, false, not, ◌&&◌, ◌||◌, cond}
use lib.IntN.{ℤ}
use lib.Dec.{T, ltb, leb, eqb, eqb→eq, ltb→lt, leb→le, nleb→lt, not_T}
use lib.Ieee.{Float, nan, inf, fin, Format, prec, emax, low, up, down, round, odd, units, sum, mul, add, sub, div, le}
use lib.Ieee.Bits.{cond_no}
use lib.Ieee.Fits.{up_pos, and_l, round_is}
use lib.Ieee.Exact.{HasValue}
use lib.Ieee.Order.{transfer, le_of_values}
use lib.Ieee.Positive.{num, den, den_pos, positive, value→cross, through}

abbrev pub nonnegative : Float → Bool
nonnegative nan = false
nonnegative (inf s) = false
nonnegative (fin true m e) = false
nonnegative (fin false m e) = true

pub positive_nonnegative : (x : Float) → T (positive x) → T (nonnegative x)
positive_nonnegative nan p = p
positive_nonnegative (inf s) p = p
positive_nonnegative (fin true m e) p = p
positive_nonnegative (fin false m e) p = tt

pub num_pos : (x : Float) → T (positive x) → 0 < num x
num_pos nan p = absurd p
num_pos (inf s) p = absurd p
num_pos (fin true m e) p = absurd p
num_pos (fin false m e) p = mul-pos (ltb→lt 0 m p) (up_pos e)

pub own : (x : Float) → T (nonnegative x) → HasValue x false (num x) (den x)
own nan p = absurd p
own (inf s) p = absurd p
own (fin true m e) p = absurd p
own (fin false m e) p = (refl, refl)

-- what has the value of a fraction is not negative
pub valued : (x : Float) (a c : ℕ) → HasValue x false a c → T (nonnegative x)
valued nan a c h = absurd h
valued (inf s) a c h = absurd h
valued (fin true m e) a c h = subst (λ (b : Bool). T b) h.0 tt
valued (fin false m e) a c h = tt

-- ---- the order, as one of fractions
or_split : (a b : Bool) → T (a || b) → T a ⊎ T b
or_split true b t = inl tt
or_split false b t = inr t

at_most : (a b : ℕ) → T (ltb a b || (eqb a b && true)) → a ≤ b
at_most a b t = elim (or_split (ltb a b) (eqb a b && true) t) [ inl u ↦ le_of_lt (ltb→lt a b u) | inr u ↦ le_of_eq (eqb→eq a b (and_l (eqb a b) true u)) ]

pub cross : (x y : Float) → T (nonnegative x) → T (nonnegative y) → T (le x y) → num x * den y ≤ num y * den x
unfolding le
cross nan y p q h = absurd p
cross (inf s) y p q h = absurd p
cross (fin true m e) y p q h = absurd p
cross (fin false m e) nan p q h = absurd q
cross (fin false m e) (inf t) p q h = absurd q
cross (fin false m e) (fin true n d) p q h = absurd q
cross (fin false m e) (fin false n d) p q h = at_most (m * up e * down d) (n * up d * down e) h

pub uncross : (x y : Float) → T (nonnegative x) → T (nonnegative y) → num x * den y ≤ num y * den x → T (le x y)
uncross x y p q h = le_of_values x y (num x) (den x) (num y) (den y) (den_pos x) (den_pos y) (own x p) (own y q) h

-- by any fractions that the two equal
pub values_order : (x y : Float) (a c b d : ℕ) → HasValue x false a c → HasValue y false b d → T (le x y) → a * d ≤ b * c
values_order x y a c b d h k l =
    transfer a b c d (num x) (num y) (den x) (den y) (den_pos x) (den_pos y) (sym (value→cross x a c h)) (sym (value→cross y b d k)) (cross x y (valued x a c h) (valued y b d k) l)

pub le_through : (x y z : Float) → T (nonnegative x) → T (nonnegative y) → T (nonnegative z) → T (le x y) → T (le y z) → T (le x z)
le_through x y z p q r h k = uncross x z p r (through (num x) (num y) (num z) (den x) (den y) (den z) (den_pos y) (cross x y p q h) (cross y z q r k))

-- one of two is not the larger
pub either_way : (x y : Float) → T (nonnegative x) → T (nonnegative y) → T (le x y) ⊎ T (le y x)
either_way x y p q = go (leb (num x * den y) (num y * den x)) (leb→le (num x * den y) (num y * den x)) (nleb→lt (num x * den y) (num y * den x))
  where
    go : (b : Bool) → (T b → num x * den y ≤ num y * den x) → (T (not b) → num y * den x < num x * den y) → T (le x y) ⊎ T (le y x)
    go true h k = inl (uncross x y p q (h tt))
    go false h k = inr (uncross y x q p (le_of_lt (k tt)))

-- ---- a rounded fraction that is at most a finite value is finite
odd_held : (d q k l : ℕ) → T (nonnegative (odd d false q k l))
unfolding odd
odd_held d zero k l = tt
odd_held d (suc q) k l = tt

no_infinity : (h : Float) → T (nonnegative h) → T (le (inf false) h) → ⊥
unfolding le
no_infinity nan p l = p
no_infinity (inf s) p l = p
no_infinity (fin true n d) p l = p
no_infinity (fin false n d) p l = l

units_held : (f : Format) (q k : ℕ) (h : Float) → T (nonnegative h) → T (le (units f false q k) h) → T (nonnegative (units f false q k))
unfolding units
units_held f q k h p = go (ltb (q * 2 ^ k) (2 ^ (low f + suc (emax f))))
  where
    go : (b : Bool) → T (le (cond b (odd (suc (prec f)) false q k (low f)) (inf false)) h) → T (nonnegative (cond b (odd (suc (prec f)) false q k (low f)) (inf false)))
    go true l = odd_held (suc (prec f)) q k (low f)
    go false l = absurd (no_infinity h p l)

pub held_under : (f : Format) (a c : ℕ) (h : Float) → T (nonnegative h) → T (le (round f false a c) h) → T (nonnegative (round f false a c))
held_under f a c h p l =
    subst (λ (z : Float). T (nonnegative z)) (sym (round_is f false a c)) (units_held f _ _ h p (subst (λ (z : Float). T (le z h)) (round_is f false a c) l))

-- ---- the operations
pub mul_is : (f : Format) (x y : Float) → T (nonnegative x) → T (nonnegative y) → mul f x y ≡ round f false (num x * num y) (den x * den y)
unfolding mul
mul_is f nan y p q = absurd p
mul_is f (inf s) y p q = absurd p
mul_is f (fin true m e) y p q = absurd p
mul_is f (fin false m e) nan p q = absurd q
mul_is f (fin false m e) (inf t) p q = absurd q
mul_is f (fin false m e) (fin true n d) p q = absurd q
mul_is f (fin false m e) (fin false n d) p q = refl

pub add_is : (f : Format) (x y : Float) → T (nonnegative x) → T (nonnegative y) → add f x y ≡ round f false (num x * den y + num y * den x) (den x * den y)
unfolding add sum
add_is f nan y p q = absurd p
add_is f (inf s) y p q = absurd p
add_is f (fin true m e) y p q = absurd p
add_is f (fin false m e) nan p q = absurd q
add_is f (fin false m e) (inf t) p q = absurd q
add_is f (fin false m e) (fin true n d) p q = absurd q
add_is f (fin false m e) (fin false n d) p q = refl

pub not_zero : (n : ℕ) → 0 < n → T (not (eqb n 0))
not_zero n h = not_T (eqb n 0) (λ (t : T (eqb n 0)). zero-less n h (eqb→eq n 0 t))
  where
    zero-less : (n : ℕ) → 0 < n → n ≡ 0 → ⊥
    zero-less n h e = omega arith

pub div_is : (f : Format) (x y : Float) → T (nonnegative x) → T (positive y) → div f x y ≡ round f false (num x * den y) (num y * den x)
unfolding div
div_is f nan y p q = absurd p
div_is f (inf s) y p q = absurd p
div_is f (fin true m e) y p q = absurd p
div_is f (fin false m e) nan p q = absurd q
div_is f (fin false m e) (inf t) p q = absurd q
div_is f (fin false m e) (fin true n d) p q = absurd q
div_is f (fin false m e) (fin false n d) p q =
    cond_no (eqb n 0) (cond (eqb m 0) nan (inf false)) (round f false (m * up e * down d) (n * up d * down e)) (not_zero n (ltb→lt 0 n q))

pick : (f : Format) (a b c : ℕ) → b ≤ a → sum f false a true b c ≡ round f false (a - b) c
unfolding sum
pick f a b c h = go (ltb a b) (ltb→lt a b)
  where
    go : (t : Bool) → (T t → a < b) → cond t (round f true (b - a) c) (round f false (a - b) c) ≡ round f false (a - b) c
    go true k = absurd (not-le_of_lt (k tt) h)
    go false k = refl

opened : (f : Format) (m : ℕ) (e : ℤ) (n : ℕ) (d : ℤ) → sub f (fin false m e) (fin false n d) ≡ sum f false (m * up e * down d) true (n * up d * down e) (down e * down d)
unfolding sub
opened f m e n d = refl

pub sub_is : (f : Format) (x y : Float) → T (nonnegative x) → T (nonnegative y) → T (le y x) → sub f x y ≡ round f false (num x * den y - num y * den x) (den x * den y)
sub_is f nan y p q h = absurd p
sub_is f (inf s) y p q h = absurd p
sub_is f (fin true m e) y p q h = absurd p
sub_is f (fin false m e) nan p q h = absurd q
sub_is f (fin false m e) (inf t) p q h = absurd q
sub_is f (fin false m e) (fin true n d) p q h = absurd q
sub_is f (fin false m e) (fin false n d) p q h = opened f m e n d ∙ pick f (m * up e * down d) (n * up d * down e) (down e * down d) (cross (fin false n d) (fin false m e) q p h)
