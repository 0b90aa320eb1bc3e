-- Worked examples: the definitions compute. Assumes nothing.
use mathlib.Core.Path.{◌≡◌, refl}
use mathlib.Core.Bool.{true, false}
use Rattle.spelled.specs.Texts.{bytes_of}
use Rattle.spelled.specs.Spelled.{agree, capital_of, spelled_as}

-- the byte past "z" stays as it is
examples : (spelled_as (bytes_of "pRv") (bytes_of "PRV") ≡ true) × (spelled_as (bytes_of "prx") (bytes_of "PRV") ≡ false) × (spelled_as (bytes_of "pr") (bytes_of "PRV") ≡ false) × (capital_of 123 ≡ 123)
unfolding spelled_as agree capital_of bytes_of
examples = (refl, refl, refl, refl)
