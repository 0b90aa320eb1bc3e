-- The numbers of causes and of what is told. Assumes nothing.
use Prim.Native.Nat.{ℕ, ◌+◌, ◌*◌, ◌%◌, ◌≤◌}
use mathlib.Core.Path.{◌≡◌, ap}
use native.Mathlib.Omega.{arith}
use Rattle.causes.specs.declared.Cause.{Cause}
use Rattle.causes.specs.declared.Cause.TheVariants as cause
use Rattle.links.specs.declared.LinkIndex.{LinkIndex}
use Rattle.causes.specs.Causes.{cause_code, flip_number, Flip}
use Rattle.std.specs.Prelude.{Some}

pub cause_small : (c : Cause) → cause_code c ≤ 4
unfolding cause_code
cause_small cause.None = omega arith
cause_small cause.ReverseFlow = omega arith
cause_small cause.InletTooLow = omega arith
cause_small cause.OutletTooHigh = omega arith
cause_small cause.Reopened = omega arith

-- the link's number may be cut to its low byte before 1 is added
pub number_of : (flip : Flip) (i : LinkIndex) (c : Cause) (code : ℕ) → flip ≡ Some (i, c) → code ≡ cause_code c → (i.0 % 256 + 1) % 256 + 256 * code ≡ flip_number flip
unfolding flip_number
number_of flip i c code h e =
    let low : (i.0 % 256 + 1) % 256 ≡ (i.0 + 1) % 256 = omega arith in
    rw (h, e, low)
