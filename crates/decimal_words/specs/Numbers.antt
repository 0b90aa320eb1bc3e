-- A number as a word: a sign or none; digits with a point among them or none; then, or not, an E with a sign or none and digits. Definitions only.
use Rattle.std.specs.Prelude.{ℕ, suc, ◌+◌, ◌-◌, ◌*◌, Bool, true, false, cond, ◌&&◌, ◌||◌, List, [], ◌∷◌, ◌++◌, eqb, ltb, leb, length, take, drop, Option, Some, None, Float}
use Rattle.std.specs.Float.{binary64}
use Rattle.std.specs.Float.Ieee.{of_bits, neg}
use Rattle.lines.specs.Lines.{stretch}
use Rattle.decimals.specs.Decimal.{decimal_bits, InRange}
use Rattle.decimal_words.specs.declared.written.Written.{Written}
use Rattle.decimal_words.specs.declared.written.Mantissa.{Mantissa}
use Rattle.decimal_words.specs.declared.written.Exponent.{Exponent}

-- ---- bytes: "0" is 48, "." 46, "E" 69, "e" 101, "+" 43, "-" 45

unfoldable pub is_digit : ℕ → Bool
is_digit c = leb 48 c && leb c 57

unfoldable pub is_point : ℕ → Bool
is_point c = eqb c 46

unfoldable pub is_mark : ℕ → Bool
is_mark c = eqb c 69 || eqb c 101

-- ---- a sign, which may stand first

unfoldable pub sign_length : List ℕ → ℕ
sign_length [] = 0
sign_length (c ∷ cs) = cond {A = ℕ} (eqb c 43 || eqb c 45) 1 0

unfoldable pub negated : List ℕ → Bool
negated [] = false
negated (c ∷ cs) = eqb c 45

abbrev pub unsigned : List ℕ → List ℕ
unsigned l = drop (sign_length l) l

-- ---- digits

unfoldable pub all_digits : List ℕ → Bool
all_digits [] = true
all_digits (c ∷ cs) = is_digit c && all_digits cs

-- the number of some digits behind those whose number is n
unfoldable pub value_from : ℕ → List ℕ → ℕ
value_from n [] = n
value_from n (c ∷ cs) = value_from (n * 10 + (c - 48)) cs

abbrev pub value_of : List ℕ → ℕ
value_of l = value_from 0 l

-- ---- what stands before the first byte that a test holds of, and what behind it

abbrev pub before : (ℕ → Bool) → List ℕ → List ℕ
before test l = take (stretch test l) l

abbrev pub behind : (ℕ → Bool) → List ℕ → List ℕ
behind test l = drop (suc (stretch test l)) l

-- ---- the parts of a number

-- one digit at least, and 17 at most, as they are written
abbrev pub few_digits : List ℕ → Bool
few_digits l = all_digits l && ltb 0 (length l) && leb (length l) 17

unfoldable pub mantissa_of : List ℕ → Option Mantissa
mantissa_of l =
    cond (few_digits (before is_point l ++ behind is_point l))
    (Some (record { digits = value_of (before is_point l ++ behind is_point l); places = length (behind is_point l) }))
    None

-- one digit at least, and no more than 20
unfoldable pub exponent_of : List ℕ → Option Exponent
exponent_of l =
    cond (all_digits (unsigned l) && ltb 0 (length (unsigned l)) && leb (value_of (unsigned l)) 20)
    (Some (record { negative = negated l; size = value_of (unsigned l) }))
    None

abbrev pub no_exponent : Exponent
no_exponent = record { negative = false; size = 0 }

unfoldable pub exponent_in : List ℕ → Option Exponent
exponent_in l = cond (ltb (stretch is_mark l) (length l)) (exponent_of (behind is_mark l)) (Some no_exponent)

-- ---- together: the places behind the point count against the exponent

unfoldable pub joined_of : Bool → Mantissa → Exponent → Written
joined_of minus m x =
    cond x.negative
    (record { minus = minus; digits = m.digits; negative = true; size = x.size + m.places })
    (cond (leb m.places x.size)
    (record { minus = minus; digits = m.digits; negative = false; size = x.size - m.places })
    (record { minus = minus; digits = m.digits; negative = true; size = m.places - x.size }))

-- nothing where a part is none
abbrev pub both_of : Bool → Option Mantissa → Option Exponent → Option Written
both_of minus None x = None
both_of minus (Some m) None = None
both_of minus (Some m) (Some x) = Some (joined_of minus m x)

unfoldable pub written_of : List ℕ → Option Written
written_of w = both_of (negated w) (mantissa_of (before is_mark (unsigned w))) (exponent_in (unsigned w))

-- in the range of decimals, as every number that a word spells is
abbrev pub Ranged : Written → Type 0
Ranged w = InRange w.digits w.negative w.size

-- the nearest f64; -0.0 for "-0"
unfoldable pub worth_of : Written → Float
worth_of w =
    let x = of_bits binary64 (decimal_bits w.digits w.negative w.size) in
    cond w.minus (neg x) x
