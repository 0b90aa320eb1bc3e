-- For an a from 0 to 2 ^ 92 the root b of a * a + EPS is above zero, and a / b is at most 1 + 2 ^ -51, each operation rounded. Assumes nothing.
use mathlib.Core.Path.{◌≡◌, refl, sym, ap, ◌∙◌, subst}
use mathlib.Core.Bool.{Bool, true, false, not}
use Prim.Native.Nat.{ℕ, ◌+◌, ◌-◌, ◌*◌, ◌^◌, ◌≤◌, ◌<◌}
use native.Mathlib.Nat.{le_trans, le_of_eq, le_of_lt, lt_of_le_of_lt, le-add_left, mul-one, mul_comm, mul_assoc, mul_left_comm, mul-le-mul, mul-pos, le_of_mul-le-mul_right, eq_of_mul-eq-mul_right}
use lib.Count.{count_trailing_zeros}
use lib.Dec.{T, leb, leb→le, nleb→lt, lit<, lit≤}
use lib.IntN.{pos, negsuc}
use lib.Pow.{pow_pos}
use lib.Ieee.{Float, nan, inf, fin, binary64, round, units, odd, size, span, climb, mul, add, sum, le, lt, eq, of_bits, of_fields}
use lib.Ieee.Fits.{add-fits}
use lib.Ieee.Exact.{HasValue}
use lib.Ieee.Order.{round_mono}
use lib.Ieee.Positive.{positive, num, den, den_pos, positive_of_value, value→cross}
use lib.Ieee.Scale.{grid, round_val, round_under, round_same, finite}
use Rattle.constants.specs.Arithmetic.{plus, times, over}
use Rattle.constants.specs.Constants.{cv_head_epsilon}
use Rattle.roots.specs.Root.{root_of}
use Rattle.closeness.proofs.Rounding.{Rounded, units_rounded}
use Rattle.closeness.proofs.Values.{mul_of, add_of}
use Rattle.barrier.proofs.Nonnegative.{nonnegative, values_order, held_under, num_pos, div_is}
use Rattle.barrier.proofs.Bounds.{Bounded, origin, from_origin, times_bounded, plus_bounded}
use Rattle.barrier.proofs.Squares.{by_factors, by_least, quotient}
use Rattle.barrier.proofs.Rooted.{Rooted, rooted}

-- ---- a rounded fraction as a whole number of 2 ^ -1074
nonnegative_finite : (x : Float) → T (nonnegative x) → T (finite x)
nonnegative_finite nan p = p
nonnegative_finite (inf s) p = p
nonnegative_finite (fin true m e) p = absurd p
nonnegative_finite (fin false m e) p = tt

pub whole_value : (x : Float) (a c : ℕ) → x ≡ round binary64 false a c → T (nonnegative x) → HasValue x false (grid binary64 a c) (2 ^ 1074)
whole_value x a c e p =
    subst (λ (y : Float). HasValue y false (grid binary64 a c) (2 ^ 1074)) (sym e)
    (round_val binary64 a c (round_under binary64 a c (nonnegative_finite (round binary64 false a c) (subst (λ (y : Float). T (nonnegative y)) e p))))

-- a quotient by two fractions over one denominator
div_of : (x y : Float) (a b c : ℕ) → 0 < c → 0 < b → HasValue x false a c → HasValue y false b c → T (nonnegative x) → T (positive y) → over x y ≡ round binary64 false a b
div_of x y a b c C B h k p q =
    div_is binary64 x y p q
    ∙ round_same binary64 false (num x * den y) (num y * den x) a b (mul-pos (num_pos y q) (den_pos x)) B
    (equal (num x) (den x) (num y) (den y) a b c C (value→cross x a c h) (value→cross y b c k))
  where
    equal : (X p Y q a b c : ℕ) → 0 < c → X * c ≡ a * p → Y * c ≡ b * q → X * q * b ≡ a * (Y * p)
    equal X p Y q a b c C e d =
        let l : X * q * b * c ≡ X * c * (b * q) = simp (mul_assoc, mul_comm, mul_left_comm) in
        let r : a * p * (Y * c) ≡ a * (Y * p) * c = simp (mul_assoc, mul_comm, mul_left_comm) in
        eq_of_mul-eq-mul_right c C (X * q * b) (a * (Y * p)) (l ∙ ap (λ (z : ℕ). z * (b * q)) e ∙ ap (λ (z : ℕ). a * p * z) (sym d) ∙ r)

-- ---- EPS, in units of 2 ^ -1074
abbrev epsilon : ℕ
epsilon = 0x10_c6f7_a0b5_ed8d * 2 ^ 1002

epsilon_value : HasValue cv_head_epsilon false epsilon (2 ^ 1074)
unfolding of_bits of_fields odd count_trailing_zeros
epsilon_value = (refl, refl)

epsilon_bounded : Bounded (fin false 1 (negsuc 19)) cv_head_epsilon (fin false 1 (negsuc 18))
unfolding le lt eq of_bits of_fields odd count_trailing_zeros
epsilon_bounded = record { low = tt; held = tt; high = tt; least = tt; most = tt }

-- 1 + 2 ^ -51
abbrev pub above_one : Float
above_one = fin false (2 ^ 51 + 1) (negsuc 50)

above_one_is : round binary64 false (2 ^ 51 + 1) (2 ^ 51) ≡ above_one
unfolding round units odd size span climb count_trailing_zeros
above_one_is = refl

square_tests : T (le origin (times origin origin)) × T (le (times (fin false 1 (pos 92)) (fin false 1 (pos 92))) (fin false 1 (pos 184)))
unfolding le lt eq mul round units odd size span climb count_trailing_zeros
square_tests = (tt, tt)

sum_tests : T (le (fin false 1 (negsuc 19)) (plus origin (fin false 1 (negsuc 19)))) × T (le (plus (fin false 1 (pos 184)) (fin false 1 (negsuc 18))) (fin false 1 (pos 185)))
unfolding le lt eq add sum round units odd size span climb count_trailing_zeros
sum_tests = (tt, tt)

-- ---- a is n / 2 ^ 1074
module _ (a : Float) (n : ℕ) (value : HasValue a false n (2 ^ 1074)) (bound : Bounded origin a (fin false 1 (pos 92))) where
  abbrev square : Float
  square = times a a

  abbrev total : Float
  total = plus square cv_head_epsilon

  square_bounded : Bounded origin square (fin false 1 (pos 184))
  square_bounded = times_bounded binary64 bound bound origin (fin false 1 (pos 184)) tt tt square_tests.0 square_tests.1

  total_bounded : Bounded (fin false 1 (negsuc 19)) total (fin false 1 (pos 185))
  total_bounded = plus_bounded binary64 square_bounded epsilon_bounded (fin false 1 (negsuc 19)) (fin false 1 (pos 185)) tt tt sum_tests.0 sum_tests.1

  -- the square and the sum as whole numbers
  abbrev g : ℕ
  g = grid binary64 (n * n) (2 ^ 2148)

  abbrev s : ℕ
  s = grid binary64 (g + epsilon) (2 ^ 1074)

  square_value : HasValue square false g (2 ^ 1074)
  square_value = whole_value square (n * n) (2 ^ 2148) (mul_of binary64 a a n (2 ^ 1074) n (2 ^ 1074) (pow_pos 1074) (pow_pos 1074) value value) square_bounded.held

  total_value : HasValue total false s (2 ^ 1074)
  total_value = whole_value total (g + epsilon) (2 ^ 1074) (add_of binary64 square cv_head_epsilon g epsilon (2 ^ 1074) (pow_pos 1074) square_value epsilon_value) total_bounded.held

  total_least : 2 ^ 1054 ≤ s
  total_least = le_of_mul-le-mul_right {m = 2 ^ 1054} {n = s} {k = 2 ^ 20} (values_order (fin false 1 (negsuc 19)) total 1 (2 ^ 20) s (2 ^ 1074) (refl, refl) total_value total_bounded.least) (pow_pos 20)

  total_most : s < 2 ^ 1300
  total_most = lt_of_le_of_lt (le_trans (le_of_eq (sym (mul-one s))) (values_order total (fin false 1 (pos 185)) s (2 ^ 1074) (2 ^ 185) 1 total_value (refl, refl) total_bounded.most)) (lit< tt)

  total_rounded : Rounded s (g + epsilon)
  total_rounded = subst (λ (x : ℕ). Rounded x (g + epsilon)) (mul-one s) (units_rounded (g + epsilon) 1 (lit< tt) (le_trans (lit≤ tt) (le-add_left epsilon g)))

  square_rounded : 2 ^ 1064 ≤ n → Rounded (g * 2 ^ 1074) (n * n)
  square_rounded h = units_rounded (n * n) (2 ^ 1074) (pow_pos 1074) (le_trans (lit≤ tt) (mul-le-mul h h))

  -- the square of n, less its roundings, is at most what is rooted
  squares : (2 ^ 53 - 1) * n * ((2 ^ 53 - 1) * n) ≤ 2 ^ 53 * 2 ^ 53 * (s * 2 ^ 1074)
  squares = go (leb (2 ^ 1064) n) (leb→le (2 ^ 1064) n) (nleb→lt (2 ^ 1064) n)
    where
      go : (t : Bool) → (T t → 2 ^ 1064 ≤ n) → (T (not t) → n < 2 ^ 1064) → (2 ^ 53 - 1) * n * ((2 ^ 53 - 1) * n) ≤ 2 ^ 53 * 2 ^ 53 * (s * 2 ^ 1074)
      go true h k = by_factors (2 ^ 53 - 1) (2 ^ 53) n g epsilon s (2 ^ 1074) (square_rounded (h tt)).low total_rounded.low
      go false h k = by_least (2 ^ 53 - 1) (2 ^ 53) n (2 ^ 1054) s (2 ^ 1074) (lit≤ tt) (le_trans (mul-le-mul (le_of_lt (k tt)) (le_of_lt (k tt))) (lit≤ tt)) total_least

  root_of_lem : Rooted (root_of total) s
  root_of_lem = rooted total s (add-fits binary64 square cv_head_epsilon) total_value (le_trans (lit≤ tt) total_least) total_most

  pub root_positive : T (positive (root_of total))
  root_positive = positive_of_value (root_of total) root_of_lem.root (2 ^ 1074) root_of_lem.value root_of_lem.some

  ratio_is : over a (root_of total) ≡ round binary64 false n root_of_lem.root
  ratio_is = div_of a (root_of total) n root_of_lem.root (2 ^ 1074) (pow_pos 1074) root_of_lem.some value root_of_lem.value bound.held root_positive

  ratio_most : T (le (over a (root_of total)) above_one)
  ratio_most =
      subst (λ (z : Float). T (le z above_one)) (sym ratio_is)
      (subst (λ (z : Float). T (le (round binary64 false n root_of_lem.root) z)) above_one_is
      (round_mono binary64 n root_of_lem.root (2 ^ 51 + 1) (2 ^ 51) root_of_lem.some (pow_pos 51)
      (le_trans (le_of_eq (mul_comm n (2 ^ 51))) (quotient n s (2 ^ 1074) root_of_lem.root root_of_lem.next root_of_lem.step root_of_lem.stepped root_of_lem.small squares root_of_lem.below))))

  pub ratio_bounded : Bounded origin (over a (root_of total)) above_one
  ratio_bounded =
      let held : T (nonnegative (over a (root_of total))) =
      subst (λ (z : Float). T (nonnegative z)) (sym ratio_is) (held_under binary64 n root_of_lem.root above_one tt (subst (λ (z : Float). T (le z above_one)) ratio_is ratio_most)) in
      record { low = tt; held = held; high = tt; least = from_origin (over a (root_of total)) held; most = ratio_most }
