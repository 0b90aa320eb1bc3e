-- What an option may be set to, besides a number: a flow unit and a count. Definitions only.
use Rattle.std.specs.Prelude.{ℕ, Bool, cond, ◌&&◌, List, [], ◌∷◌, leb, Option, Some, None, is_some}
use Rattle.spelled.specs.Texts.{bytes_of}
use Rattle.spelled.specs.Spelled.{spelled_as}
use Rattle.decimal_words.specs.Numbers.{few_digits, value_of}
use Rattle.line_fields.specs.Fields.{first_of}

-- the codes of a sheet
unfoldable pub flow_units : List ℕ → List (Bool × Option ℕ)
flow_units w =
    (spelled_as w (bytes_of "CFS"), Some 0)
    ∷ (spelled_as w (bytes_of "GPM"), Some 1)
    ∷ (spelled_as w (bytes_of "MGD"), Some 2)
    ∷ (spelled_as w (bytes_of "IMGD"), Some 3)
    ∷ (spelled_as w (bytes_of "AFD"), Some 4)
    ∷ (spelled_as w (bytes_of "LPS"), Some 5)
    ∷ (spelled_as w (bytes_of "LPM"), Some 6)
    ∷ (spelled_as w (bytes_of "MLD"), Some 7)
    ∷ (spelled_as w (bytes_of "CMS"), Some 8)
    ∷ (spelled_as w (bytes_of "CMH"), Some 9)
    ∷ (spelled_as w (bytes_of "CMD"), Some 10)
    ∷ []

unfoldable pub unit_of : List ℕ → Option ℕ
unit_of w = first_of (flow_units w) None

unfoldable pub is_unit : List ℕ → Bool
is_unit w = is_some (unit_of w)

-- one digit to 17, without sign, point or exponent, and what a sheet can hold
unfoldable pub is_count : List ℕ → Bool
is_count w = few_digits w && leb (value_of w) 65535

unfoldable pub count_of : List ℕ → Option ℕ
count_of w = cond (is_count w) (Some (value_of w)) None
