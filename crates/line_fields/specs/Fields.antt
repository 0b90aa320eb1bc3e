-- The words of a line by their number, from 0, and what a line is refused with. Definitions only.
use Rattle.std.specs.Prelude.{ℕ, Bool, cond, not, ◌||◌, List, [], ◌∷◌, ltb, leb, length, get_or, Float, ⊤, Option, Some, None, is_some, Result, Ok, Err}
use Rattle.std.specs.Float.{binary64}
use Rattle.std.specs.Float.Ieee.{of_bits}
use Rattle.spelled.specs.Spelled.{spelled_as}
use Rattle.decimal_words.specs.declared.written.Written.{Written}
use Rattle.decimal_words.specs.Numbers.{written_of, worth_of}
use Rattle.line_fields.specs.declared.LineFault.{LineFault}
use Rattle.line_fields.specs.declared.LineFault.TheVariants.{Unreadable, Unknown, Section}

-- word k, which is nothing where there is none
abbrev pub word_in : List (List ℕ) → ℕ → List ℕ
word_in ws k = get_or ws k []

abbrev pub has_word : List (List ℕ) → ℕ → Bool
has_word ws k = ltb k (length ws)

-- a name has at most 31 bytes
unfoldable pub name_at : List (List ℕ) → ℕ → Bool
name_at ws k = leb (length (word_in ws k)) 31

unfoldable pub number_at : List (List ℕ) → ℕ → Bool
number_at ws k = is_some (written_of (word_in ws k))

unfoldable pub number_or_none : List (List ℕ) → ℕ → Bool
number_or_none ws k = not (has_word ws k) || number_at ws k

abbrev pub worth_or_zero : Option Written → Float
worth_or_zero None = of_bits binary64 0
worth_or_zero (Some w) = worth_of w

-- the f64 nearest to the number that word k spells, and +0.0 where it spells none
unfoldable pub value_at : List (List ℕ) → ℕ → Float
value_at ws k = worth_or_zero (written_of (word_in ws k))

unfoldable pub value_or_zero : List (List ℕ) → ℕ → Float
value_or_zero ws k = cond (has_word ws k) (value_at ws k) (of_bits binary64 0)

unfoldable pub keyword_at : List (List ℕ) → ℕ → List ℕ → Bool
keyword_at ws k keyword = spelled_as (word_in ws k) keyword

-- a line that cannot be read is not asked for names
unfoldable pub fault_of : Bool → Bool → Result ⊤ LineFault
fault_of good unknown = cond good (cond unknown (Err Unknown) (Ok tt)) (Err Unreadable)

-- the number that a text is refused with for such a line
abbrev pub number_of : LineFault → ℕ
number_of Unreadable = 10
number_of Unknown = 11
number_of Section = 12

-- of several that may be meant the first whose test holds, else another
unfoldable pub first_of : {A : Type 0} → List (Bool × A) → A → A
first_of [] other = other
first_of (e ∷ es) other = cond e.0 e.1 (first_of es other)
