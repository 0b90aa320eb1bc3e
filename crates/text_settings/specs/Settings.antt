-- What the options of a text come to where it says nothing. Definitions only.
use Rattle.std.specs.Prelude.{false, List, [], ◌∷◌, Float}
use Rattle.std.specs.Float.{binary64}
use Rattle.std.specs.Float.Ieee.{of_bits}
use Rattle.constants.specs.Constants.{zero, one, tenth, Decimal, decimal}
use Rattle.text_settings.specs.declared.Settings.{Settings}

abbrev pub thousandth : Float
thousandth = of_bits binary64 0x3f50_624d_d2f1_a9fc

-- proofs/Decimals.antt shows that each is the f64 nearest to its fraction
unfoldable pub decimals : List Decimal
decimals = decimal 1 1_000 thousandth ∷ decimal 1 10 tenth ∷ []

-- GPM; 0.001; a required pressure of 0.1 in the text's unit
unfoldable pub default_settings : Settings
default_settings =
    record { unit = 1; trials = 200; accuracy = thousandth; damping = zero; change = zero; multiplier = one; bends = false; minimum = zero; required = tenth }
