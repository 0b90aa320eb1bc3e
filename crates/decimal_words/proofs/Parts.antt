-- The parts of a number, case by case. Assumes nothing.
use mathlib.Core.Path.{◌≡◌, refl, sym, ap, ◌∙◌}
use mathlib.Core.Bool.{Bool, true, false, cond, ◌&&◌, and_assoc, false≢true}
use mathlib.Core.List.{List, [], ◌∷◌, ◌++◌}
use Prim.Native.Nat.{ℕ, suc, ◌+◌, ◌-◌, ◌*◌, ◌^◌, ◌≤◌, ◌<◌, min}
use native.Mathlib.Omega.{arith}
use lib.Dec.{ltb, leb, lit≤}
use borrow.Author.Tests.{le-leb, lt-leb, leb-true}
use lib.ListN.{length, take, drop, length-append}
use lib.Seq.{length-take-le}
use Rattle.std.specs.Prelude.{Option, Some, None, IfSome}
use Rattle.lines.specs.Lines.{stretch}
use Rattle.lines.proofs.Stretches.{rest}
use Rattle.decimal_words.specs.declared.written.Written.{Written}
use Rattle.decimal_words.specs.declared.written.Mantissa.{Mantissa}
use Rattle.decimal_words.specs.declared.written.Exponent.{Exponent}
use Rattle.decimal_words.specs.Numbers.{is_digit, is_point, is_mark, sign_length, negated, unsigned, all_digits, value_from, value_of, before, behind, few_digits, mantissa_of, exponent_of, no_exponent, exponent_in, joined_of, both_of, written_of, Ranged}
use Rattle.decimal_words.specs.Room.{Room}
use Rattle.decimal_words.proofs.Turns.{both_left, both_right, digit_high, room_first, room_next, room_small}

-- ---- digits behind digits

pub all_append : (a b : List ℕ) → all_digits (a ++ b) ≡ (all_digits a && all_digits b)
unfolding all_digits
all_append [] b = refl
all_append (c ∷ cs) b = rw (all_append cs b) (sym (and_assoc (is_digit c) (all_digits cs) (all_digits b)))

pub value_append : (n : ℕ) (a b : List ℕ) → value_from n (a ++ b) ≡ value_from (value_from n a) b
unfolding value_from
value_append n [] b = refl
value_append n (c ∷ cs) b = value_append (n * 10 + (c - 48)) cs b

-- ---- room behind some digits

digits_room : (n k : ℕ) (l : List ℕ) → all_digits l ≡ true → Room n (length l + k) → Room (value_from n l) k
unfolding all_digits value_from
digits_room n k [] e r = let z : 0 + k ≡ k = omega arith in rw z at r
digits_room n k (c ∷ cs) e r =
    let s : suc (length cs) + k ≡ suc (length cs + k) = omega arith in
    digits_room (n * 10 + (c - 48)) k cs (both_right (is_digit c) (all_digits cs) e) (room_next n (length cs + k) (c - 48) (omega (arith, digit_high c (both_left (is_digit c) (all_digits cs) e))) (rw s at r))

-- ---- the mantissa: a stands before the point, b behind it

few_is : (a b : List ℕ) → few_digits (a ++ b) ≡ (all_digits a && all_digits b && ltb 0 (length a + length b) && leb (length a + length b) 17)
few_is a b = rw (all_append a b, length-append a b)

pub record Few (a b : List ℕ) : Type 0 where
  pub whole : (all_digits a ≡ true) × Room 0 (length a)
  pub part : (all_digits b ≡ true) × Room (value_from 0 a) (length b)

few_true : (a b : List ℕ) → few_digits (a ++ b) ≡ true → Few a b
few_true a b e =
    let n : ℕ = length a + length b in
    let t : (all_digits a && all_digits b && ltb 0 n && leb n 17) ≡ true = sym (few_is a b) ∙ e in
    let k : n ≤ 17 = leb-true n 17 (both_right (all_digits a && all_digits b && ltb 0 n) (leb n 17) t) in
    let d : (all_digits a && all_digits b) ≡ true = both_left (all_digits a && all_digits b) (ltb 0 n) (both_left (all_digits a && all_digits b && ltb 0 n) (leb n 17) t) in
    let x : all_digits a ≡ true = both_left (all_digits a) (all_digits b) d in
    record {
      whole = (x, room_first (length a) (omega arith));
      part = (both_right (all_digits a) (all_digits b) d, digits_room 0 (length b) a x (room_first n k));
    }

and_false : (b : Bool) → (b && false) ≡ false
and_false true = refl
and_false false = refl

and_true : (b : Bool) → (b && true) ≡ b
and_true true = refl
and_true false = refl

abbrev some : Bool → Bool → ℕ → Bool
some x y count = x && y && ltb 0 count

abbrev fits : Bool → Bool → ℕ → ℕ → Bool
fits x y point places = some x y (point + places) && leb (point + places) 17

module _ (m a b : List ℕ) (point : ℕ) (x y : Bool) (p : (point ≡ stretch is_point m) × (point ≤ length m)) (a_is : a ≡ take point m) (b_is : b ≡ drop (suc point) m) (x_is : x ≡ all_digits a) (y_is : y ≡ all_digits b) where
  before-is : a ≡ before is_point m
  before-is = a_is ∙ ap (λ (n : ℕ). take n m) p.0

  behind-is : b ≡ behind is_point m
  behind-is = b_is ∙ ap (λ (n : ℕ). drop (suc n) m) p.0

  fits_are : fits x y point (length b) ≡ few_digits (a ++ b)
  fits_are =
      let l : point ≡ length a = sym (ap length a_is ∙ length-take-le point m p.1) in
      rw (x_is, y_is, l) (sym (few_is a b))

  made_is : cond (few_digits (a ++ b)) (Some (record { digits = value_of (a ++ b); places = length b })) None ≡ mantissa_of m
  unfolding mantissa_of
  made_is = rw (before-is, behind-is)

  case-is : {t : Bool} → fits x y point (length b) ≡ t → cond t (Some (record { digits = value_of (a ++ b); places = length b })) None ≡ mantissa_of m
  case-is e = ap (λ (t : Bool). cond t (Some (record { digits = value_of (a ++ b); places = length b })) None) (sym e ∙ fits_are) ∙ made_is

  pub no_mantissa : fits x y point (length b) ≡ false → None ≡ mantissa_of m
  no_mantissa e = case-is e

  pub few : fits x y point (length b) ≡ true → Few a b
  few e = few_true a b (sym fits_are ∙ e)

  pub mantissa : fits x y point (length b) ≡ true → (v : ℕ) → v ≡ value_from (value_from 0 a) b → Some (record { digits = v; places = length b }) ≡ mantissa_of m
  mantissa e v g = ap (λ (n : ℕ). Some (record { digits = n; places = length b })) (g ∙ sym (value_append 0 a b)) ∙ case-is e

  -- where the length was looked at first
  pub long_mantissa : 17 < point + length b → None ≡ mantissa_of m
  long_mantissa h = no_mantissa (rw (lt-leb (point + length b) 17 h, and_false (some x y (point + length b))))

  module _ (short : point + length b ≤ 17) where
    fits_some : {t : Bool} → some x y (point + length b) ≡ t → fits x y point (length b) ≡ t
    fits_some e = rw (le-leb (point + length b) 17 short) (and_true (some x y (point + length b)) ∙ e)

    pub no_short_mantissa : some x y (point + length b) ≡ false → None ≡ mantissa_of m
    no_short_mantissa e = no_mantissa (fits_some e)

    pub short_few : some x y (point + length b) ≡ true → Few a b
    short_few e = few (fits_some e)

    pub short_mantissa : some x y (point + length b) ≡ true → (v : ℕ) → v ≡ value_from (value_from 0 a) b → Some (record { digits = v; places = length b }) ≡ mantissa_of m
    short_mantissa e = mantissa (fits_some e)

-- its bounds
pub mantissa_range : (l : List ℕ) → IfSome {T = Mantissa} (mantissa_of l) (λ m. (m.digits < 10 ^ 17) × (m.places ≤ 17))
unfolding mantissa_of
mantissa_range m = go (few_digits (before is_point m ++ behind is_point m)) refl
  where
    a : List ℕ
    a = before is_point m

    b : List ℕ
    b = behind is_point m

    go : (t : Bool) → few_digits (a ++ b) ≡ t → IfSome {T = Mantissa} (cond t (Some (record { digits = value_of (a ++ b); places = length b })) None) (λ m. (m.digits < 10 ^ 17) × (m.places ≤ 17))
    go true e =
        let l = a ++ b in
        let d : all_digits l ≡ true = both_left (all_digits l) (ltb 0 (length l)) (both_left (all_digits l && ltb 0 (length l)) (leb (length l) 17) e) in
        let k : length l ≤ 17 = leb-true (length l) 17 (both_right (all_digits l && ltb 0 (length l)) (leb (length l) 17) e) in
        (room_small (value_of l) 0 (digits_room 0 0 l d (room_first (length l + 0) (omega arith))), omega (arith, length-append a b))
    go false e = tt

-- ---- the exponent: x is its digits, of which there are some where a flag says so

pub unsigned_is : {k : ℕ} (l : List ℕ) → k ≡ sign_length l → take (length l - k) (drop k l) ≡ unsigned l
unsigned_is {k} l e = rest k l ∙ ap (λ (n : ℕ). drop n l) e

abbrev fine : List ℕ → Bool
fine x = all_digits x && ltb 0 (length x) && leb (value_of x) 20

module _ (l x : List ℕ) (e : x ≡ unsigned l) {y : Bool} (y_is : y ≡ all_digits x) where
  some_is : (t : Bool) → (y && ltb 0 (length x)) ≡ t → (all_digits x && ltb 0 (length x)) ≡ t
  some_is t n = ap (λ (b : Bool). b && ltb 0 (length x)) (sym y_is) ∙ n

  fine-is : (t : Bool) → fine x ≡ t → cond t (Some (record { negative = negated l; size = value_of x })) None ≡ exponent_of l
  unfolding exponent_of
  fine-is t f = ap (λ (t : Bool). cond t (Some (record { negative = negated l; size = value_of x })) None) (sym f) ∙ rw e

  pub none_there : (y && ltb 0 (length x)) ≡ false → None ≡ exponent_of l
  none_there n = fine-is false (ap (λ (t : Bool). t && leb (value_of x) 20) (some_is false n))

  pub too_large : {s : ℕ} → s ≡ min 21 (value_of x) → 20 < s → None ≡ exponent_of l
  too_large f n = fine-is false (rw (lt-leb (value_of x) 20 (omega arith), and_false (all_digits x && ltb 0 (length x))))

  pub good_exponent : {s : ℕ} {b : Bool} → (y && ltb 0 (length x)) ≡ true → s ≡ min 21 (value_of x) → s ≤ 20 → b ≡ negated l → Some (record { negative = b; size = s }) ≡ exponent_of l
  good_exponent {s} n f k g =
      let v : s ≡ value_of x = omega arith in
      rw (v, g) (fine-is true (rw (some_is true n, le-leb (value_of x) 20 (omega arith))))

pub exponent_range : (l : List ℕ) → IfSome {T = Exponent} (exponent_of l) (λ x. x.size ≤ 20)
unfolding exponent_of
exponent_range l = go (fine (unsigned l)) refl
  where
    go : (t : Bool) → fine (unsigned l) ≡ t → IfSome {T = Exponent} (cond t (Some (record { negative = negated l; size = value_of (unsigned l) })) None) (λ x. x.size ≤ 20)
    go true e = leb-true (value_of (unsigned l)) 20 (both_right (all_digits (unsigned l) && ltb 0 (length (unsigned l))) (leb (value_of (unsigned l)) 20) e)
    go false e = tt

pub exponent-in-range : (l : List ℕ) → IfSome {T = Exponent} (exponent_in l) (λ x. x.size ≤ 20)
unfolding exponent_in
exponent-in-range l = go (ltb (stretch is_mark l) (length l))
  where
    go : (b : Bool) → IfSome {T = Exponent} (cond b (exponent_of (behind is_mark l)) (Some no_exponent)) (λ x. x.size ≤ 20)
    go true = exponent_range (behind is_mark l)
    go false = lit≤ tt

-- ---- together

pub joined_range : (minus : Bool) (m : Mantissa) (x : Exponent) → (m.digits < 10 ^ 17) × (m.places ≤ 17) → x.size ≤ 20 → Ranged (joined_of minus m x)
unfolding joined_of
joined_range minus m x d s = go x.negative (leb m.places x.size) refl
  where
    go : (b c : Bool) → leb m.places x.size ≡ c → Ranged (cond b (record { minus = minus; digits = m.digits; negative = true; size = x.size + m.places }) (cond c (record { minus = minus; digits = m.digits; negative = false; size = x.size - m.places }) (record { minus = minus; digits = m.digits; negative = true; size = m.places - x.size })))
    go true c e = record { digits = d.0; places = omega (arith, d.1); whole = λ f. absurd (false≢true (sym f)) }
    go false true e = record { digits = d.0; places = omega (arith, d.1); whole = λ f. omega arith }
    go false false e = record { digits = d.0; places = omega (arith, d.1); whole = λ f. absurd (false≢true (sym f)) }

abbrev unsigned_at : List ℕ → ℕ → List ℕ
unsigned_at w k = take (length w - k) (drop k w)

module _ (w : List ℕ) {k n : ℕ} {m : Option Mantissa} (k_is : k ≡ sign_length w) (n_is : n ≡ stretch is_mark (unsigned_at w k)) (m_is : m ≡ mantissa_of (take n (unsigned_at w k))) where
  mantissa-is : m ≡ mantissa_of (before is_mark (unsigned w))
  mantissa-is = m_is ∙ ap (λ (i : ℕ). mantissa_of (take i (unsigned_at w k))) n_is ∙ ap (λ (u : List ℕ). mantissa_of (before is_mark u)) (unsigned_is w k_is)

  pub without_mantissa : m ≡ None → None ≡ written_of w
  unfolding written_of
  without_mantissa e = sym (rw (sym mantissa-is ∙ e))

  module _ {x : Option Exponent} (x_is : x ≡ exponent_in (unsigned_at w k)) {q : Mantissa} (some : m ≡ Some q) where
    exponent-is : x ≡ exponent_in (unsigned w)
    exponent-is = x_is ∙ ap exponent_in (unsigned_is w k_is)

    pub without_exponent : x ≡ None → None ≡ written_of w
    unfolding written_of
    without_exponent e = sym (rw (sym mantissa-is ∙ some, sym exponent-is ∙ e))

    pub with_exponent : {p : Exponent} {b : Bool} {v : Written} → x ≡ Some p → b ≡ negated w → v ≡ joined_of b q p → Some v ≡ written_of w
    unfolding written_of
    with_exponent e f g = rw (g, f) (sym (rw (sym mantissa-is ∙ some, sym exponent-is ∙ e)))

-- what is written is in the range of decimals
pub in_range : (w : List ℕ) → IfSome {T = Written} (written_of w) Ranged
unfolding written_of
in_range w = go (mantissa_of (before is_mark (unsigned w))) (exponent_in (unsigned w)) (mantissa_range (before is_mark (unsigned w))) (exponent-in-range (unsigned w))
  where
    go : (m : Option Mantissa) (x : Option Exponent) → IfSome {T = Mantissa} m (λ m. (m.digits < 10 ^ 17) × (m.places ≤ 17)) → IfSome {T = Exponent} x (λ x. x.size ≤ 20) → IfSome {T = Written} (both_of (negated w) m x) Ranged
    go None x d s = tt
    go (Some m) None d s = tt
    go (Some m) (Some x) d s = joined_range (negated w) m x d s
