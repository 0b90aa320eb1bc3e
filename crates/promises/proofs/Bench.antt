-- The bench cases marked P hold: the definitions compute. Assumes nothing.
use mathlib.Core.Path.{refl}
use lib.Count.{count_leading_zeros, count_trailing_zeros}
use lib.Ieee.{lt, eq, neg, add, sum, mul, div, round, units, odd, size, span, climb, of_bits, of_fields, to_bits, is_nan}
use Rattle.float.specs.Sign.{abs_of}
use Rattle.float.specs.Order.{larger_of, smaller_of}
use Rattle.roots.specs.Root.{whole_root_in, whole_root, moved, exponent, scaled, root_bits, root_of}
use Rattle.coefficient.specs.Link.{no_addition, simple_of}
use Rattle.valves.specs.Valve.{valve_coefficients}
use Rattle.damping.specs.Damping.{damped_of}
use Rattle.promises.specs.Bench.{Bench}

pub bench : Bench
unfolding damped_of larger_of smaller_of valve_coefficients no_addition simple_of abs_of root_of root_bits scaled exponent moved whole_root whole_root_in count_leading_zeros lt eq neg add sum mul div round units odd size span climb of_bits of_fields count_trailing_zeros to_bits is_nan
bench =
    record {
      damping_0 = refl;
      damping_1 = refl;
      damping_2 = refl;
      damping_3 = refl;
      damping_4 = refl;
      damping_5 = refl;
      damping_6 = refl;
      loss_0 = refl;
      loss_1 = refl;
      loss_2 = refl;
      root = refl;
    }
