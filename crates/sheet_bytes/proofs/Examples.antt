-- Worked example: the definitions compute. Assumes nothing.
use Prim.Native.Nat.{ℕ}
use mathlib.Core.Path.{◌≡◌, refl}
use mathlib.Core.Bool.{true, false}
use mathlib.Core.List.{[], ◌∷◌}
use lib.Count.{count_trailing_zeros}
use lib.Ieee.{Float, binary64, of_bits, of_fields, odd, to_bits, size, span, climb}
use Rattle.codes.specs.Codes.{node_code}
use Rattle.codes.specs.declared.NodeKind.TheVariants.{Tank}
use Rattle.records.specs.declared.records.Node.{Node}
use Rattle.spelled.specs.Texts.{bytes_of}
use Rattle.sheet_bytes.specs.Bytes.{number_bytes, float_bytes, flag_byte, node_bytes}

-- an f64 by its pattern
abbrev bits : ℕ → Float
bits p = of_bits binary64 p

-- a tank in service: elevation 100, demand 0, head 110, levels 20.5 and 1.5; it may overflow
abbrev tank : Node
tank =
    record {
      kind = Tank;
      disabled = false;
      elevation = bits 0x4059_0000_0000_0000;
      demand = bits 0;
      head = bits 0x405b_8000_0000_0000;
      highest = bits 0x4034_8000_0000_0000;
      lowest = bits 0x3ff8_0000_0000_0000;
      overflow = true;
    }

node : node_bytes tank ≡ 78 ∷ 68 ∷ 2 ∷ 0 ∷ 0 ∷ 0 ∷ 0 ∷ 0 ∷ 0 ∷ 0 ∷ 89 ∷ 64 ∷ 0 ∷ 0 ∷ 0 ∷ 0 ∷ 0 ∷ 0 ∷ 0 ∷ 0 ∷ 0 ∷ 0 ∷ 0 ∷ 0 ∷ 0 ∷ 128 ∷ 91 ∷ 64 ∷ 0 ∷ 0 ∷ 0 ∷ 0 ∷ 0 ∷ 128 ∷ 52 ∷ 64 ∷ 0 ∷ 0 ∷ 0 ∷ 0 ∷ 0 ∷ 0 ∷ 248 ∷ 63 ∷ 1 ∷ []
unfolding node_bytes node_code flag_byte float_bytes number_bytes bytes_of of_bits of_fields odd count_trailing_zeros to_bits size span climb
node = refl
