-- Digits one at a time. Assumes nothing.
use mathlib.Core.Path.{◌≡◌, refl, sym, ap, ◌∙◌}
use mathlib.Core.Bool.{Bool, true, false, cond, not, ◌&&◌, ◌||◌, false≢true}
use mathlib.Core.List.{List, [], ◌∷◌}
use Prim.Native.Nat.{ℕ, suc, ◌+◌, ◌-◌, ◌*◌, ◌^◌, ◌≤◌, ◌<◌, min}
use native.Mathlib.Nat.{le_trans, le_of_eq, mul-le-mul_right, mul_comm, mul_assoc, mul-one, pow-suc, pow-le-pow_right, one-le-pow}
use native.Mathlib.Numerals.{add-one}
use native.Mathlib.Omega.{arith}
use lib.Dec.{eqb, leb, lit<}
use borrow.Author.Tests.{leb-true}
use lib.ListN.{length, get_or, drop, drop_of_length-le}
use lib.Seq.{drop-cons}
use Rattle.std.specs.Char.{is_ascii_digit}
use Rattle.std.specs.List.{list_all}
use Rattle.decimal_words.specs.Numbers.{is_digit, sign_length, all_digits, value_from}
use Rattle.decimal_words.specs.Room.{Room}

pub both_left : (a b : Bool) → (a && b) ≡ true → a ≡ true
both_left true b e = refl
both_left false b e = e

pub both_right : (a b : Bool) → (a && b) ≡ true → b ≡ true
both_right true b e = e
both_right false b e = absurd (false≢true e)

-- ---- a sign

pub sign_within : (s : List ℕ) → sign_length s ≤ length s
unfolding sign_length
sign_within [] = omega arith
sign_within (c ∷ cs) = go (eqb c 43 || eqb c 45)
  where
    go : (b : Bool) → cond {A = ℕ} b 1 0 ≤ suc (length cs)
    go true = omega arith
    go false = omega arith

-- ---- a digit

pub digit_low : (c : ℕ) → is_digit c ≡ true → 48 ≤ c
unfolding is_digit
digit_low c e = leb-true 48 c (both_left (leb 48 c) (leb c 57) e)

pub digit_high : (c : ℕ) → is_digit c ≡ true → c ≤ 57
unfolding is_digit
digit_high c e = leb-true c 57 (both_right (leb 48 c) (leb c 57) e)

-- ---- all of some are

module _ (s : List ℕ) (i : ℕ) (h : i < length s) where
  pub all_here : all_digits (drop i s) ≡ (is_digit (get_or s i 0) && all_digits (drop (suc i) s))
  unfolding all_digits
  all_here = rw (drop-cons s i 0 h)

  pub this_is : all_digits (drop i s) ≡ true → is_digit (get_or s i 0) ≡ true
  this_is e = both_left (is_digit (get_or s i 0)) (all_digits (drop (suc i) s)) (sym all_here ∙ e)

  pub others_are : all_digits (drop i s) ≡ true → all_digits (drop (suc i) s) ≡ true
  others_are e = both_right (is_digit (get_or s i 0)) (all_digits (drop (suc i) s)) (sym all_here ∙ e)

  pub value_here : (n : ℕ) → value_from n (drop i s) ≡ value_from (n * 10 + (get_or s i 0 - 48)) (drop (suc i) s)
  unfolding value_from
  value_here n = rw (drop-cons s i 0 h)

pub all_ended : (s : List ℕ) (i : ℕ) → length s ≤ i → all_digits (drop i s) ≡ true
unfolding all_digits
all_ended s i h = rw (drop_of_length-le s h)

pub value_ended : (s : List ℕ) (i n : ℕ) → length s ≤ i → value_from n (drop i s) ≡ n
unfolding value_from
value_ended s i n h = rw (drop_of_length-le s h)

-- std says the same by its own word
pub all_is : (s : List ℕ) → list_all is_ascii_digit s ≡ all_digits s
unfolding all_digits is_digit
all_is [] = refl
all_is (c ∷ cs) = ap (λ (b : Bool). is_digit c && b) (all_is cs)

-- as invariants of loops from the first on
pub record Checked (s : List ℕ) (i : ℕ) : Type 0 where
  pub same : all_digits (drop i s) ≡ all_digits s
  pub within : i ≤ length s

pub check_next : {s : List ℕ} {i : ℕ} → Checked s i → i < length s → is_digit (get_or s i 0) ≡ true → Checked s (i + 1)
check_next {s} {i} p h e =
    record { same = rw (add-one i) (ap (λ (b : Bool). b && all_digits (drop (suc i) s)) (sym e) ∙ sym (all_here s i h) ∙ p.same); within = omega arith }

pub check_fails : {s : List ℕ} {i : ℕ} → Checked s i → i < length s → is_digit (get_or s i 0) ≡ false → false ≡ all_digits s
check_fails {s} {i} p h e = ap (λ (b : Bool). b && all_digits (drop (suc i) s)) (sym e) ∙ sym (all_here s i h) ∙ p.same

pub check_ends : {s : List ℕ} {i : ℕ} → Checked s i → length s ≤ i → true ≡ all_digits s
check_ends {s} {i} p h = sym (all_ended s i h) ∙ p.same

-- ---- room

tens_pos : (k : ℕ) → 1 ≤ 10 ^ k
tens_pos k = one-le-pow k 10 (lit< tt)

pub room_first : (k : ℕ) → k ≤ 17 → Room 0 k
unfolding Room
room_first k h = omega (arith, pow-le-pow_right {n = 10} (lit< tt) h)

grown : (a b p : ℕ) → a + 1 ≤ (b + 1) * 10 → (a + 1) * p ≤ (b + 1) * (p * 10)
grown a b p h = le_trans (mul-le-mul_right p h) (le_of_eq (mul_assoc (b + 1) 10 p ∙ ap (λ (q : ℕ). (b + 1) * q) (mul_comm 10 p)))

pub room_next : (n k d : ℕ) → d ≤ 9 → Room n (suc k) → Room (n * 10 + d) k
unfolding Room
room_next n k d l r = le_trans (grown (n * 10 + d) n (10 ^ k) (omega arith)) (rw (pow-suc 10 k) at r)

pub room_small : (n k : ℕ) → Room n k → n < 10 ^ 17
unfolding Room
room_small n k r =
    let l : n + 1 ≤ 10 ^ 17 = le_trans (le_of_eq (sym (mul-one (n + 1)) ∙ mul_comm (n + 1) 1)) (le_trans (mul-le-mul_right (n + 1) (tens_pos k)) (le_trans (le_of_eq (mul_comm (10 ^ k) (n + 1))) r)) in
    omega arith

-- ---- the value

pub record Counted (s : List ℕ) (start i n : ℕ) : Type 0 where
  pub same : value_from n (drop i s) ≡ value_from start s
  pub digits : all_digits (drop i s) ≡ true
  pub room : Room n (length s - i)
  pub within : i ≤ length s

pub count_first : (s : List ℕ) (start : ℕ) → all_digits s ≡ true → Room start (length s) → Counted s start 0 start
count_first s start e r = let z : length s - 0 ≡ length s = omega arith in record { same = refl; digits = e; room = rw z r; within = omega arith }

module _ {s : List ℕ} {start i n : ℕ} (p : Counted s start i n) (h : i < length s) where
  abbrev c : ℕ
  c = get_or s i 0

  pub digit_from : 48 ≤ c
  digit_from = digit_low c (this_is s i h p.digits)

  pub digit_to : c ≤ 57
  digit_to = digit_high c (this_is s i h p.digits)

  pub count_next : Counted s start (i + 1) (n * 10 + (c - 48))
  count_next =
      let l : length s - i ≡ suc (length s - (i + 1)) = omega arith in
      record {
        same = rw (add-one i) (sym (value_here s i h n) ∙ p.same);
        digits = rw (add-one i) (others_are s i h p.digits);
        room = room_next n (length s - (i + 1)) (c - 48) (omega (arith, digit_to)) (rw l at p.room);
        within = omega arith;
      }

  pub count_small : n < 10 ^ 17
  count_small = room_small n (length s - i) p.room

pub count_ends : {s : List ℕ} {start i n : ℕ} → Counted s start i n → length s ≤ i → n ≡ value_from start s
count_ends {s} {start} {i} {n} p h = sym (value_ended s i n h) ∙ p.same

-- ---- the value up to 21

up_to : (n d : ℕ) → min 21 (min 21 n * 10 + d) ≡ min 21 (n * 10 + d)
up_to n d = omega arith

pub small_same : (n m : ℕ) (l : List ℕ) → min 21 n ≡ min 21 m → min 21 (value_from n l) ≡ min 21 (value_from m l)
unfolding value_from
small_same n m [] e = e
small_same n m (c ∷ cs) e = small_same (n * 10 + (c - 48)) (m * 10 + (c - 48)) cs (omega arith)

pub record Limited (s : List ℕ) (i n : ℕ) : Type 0 where
  pub same : min 21 (value_from n (drop i s)) ≡ min 21 (value_from 0 s)
  pub digits : all_digits (drop i s) ≡ true
  pub small : n ≤ 21
  pub within : i ≤ length s

pub limit_first : (s : List ℕ) → all_digits s ≡ true → Limited s 0 0
limit_first s e = record { same = refl; digits = e; small = omega arith; within = omega arith }

module _ {s : List ℕ} {i n : ℕ} (p : Limited s i n) (h : i < length s) where
  pub limit_from : 48 ≤ get_or s i 0
  limit_from = digit_low (get_or s i 0) (this_is s i h p.digits)

  pub limit_next : (m : ℕ) → m ≡ min 21 (n * 10 + (get_or s i 0 - 48)) → Limited s (i + 1) m
  limit_next m e =
      record {
        same = rw (add-one i) (small_same m (n * 10 + (get_or s i 0 - 48)) (drop (suc i) s) (omega arith) ∙ ap (min 21) (sym (value_here s i h n)) ∙ p.same);
        digits = rw (add-one i) (others_are s i h p.digits);
        small = omega arith;
        within = omega arith;
      }

pub limit_ends : {s : List ℕ} {i n : ℕ} → Limited s i n → length s ≤ i → n ≡ min 21 (value_from 0 s)
limit_ends {s} {i} {n} p h = omega (arith, p.small, value_ended s i n h, p.same)

-- ---- what a flag that was turned says

pub was_false : (b : Bool) → not b ≡ true → b ≡ false
was_false true e = absurd (false≢true e)
was_false false e = refl

pub was_true : (b : Bool) → not b ≡ false → b ≡ true
was_true true e = refl
was_true false e = absurd (false≢true (sym e))
