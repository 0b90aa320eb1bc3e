-- What the code takes from the bits of x, from 2 ^ -64 up to but not including 2 ^ 64, are the m, e, i and t of document 01. Assumes nothing.
use mathlib.Core.Path.{◌≡◌, ap, ◌∙◌, subst}
use mathlib.Core.Bool.{false}
use mathlib.Core.List.{List}
use Prim.Native.Nat.{ℕ, ◌+◌, ◌-◌, ◌*◌, ◌/◌, ◌%◌, ◌^◌, ◌≤◌, ◌<◌}
use native.Mathlib.Omega.{arith}
use lib.Dec.{T}
use lib.Ieee.{Float, binary64, fits, to_bits}
use lib.Ieee.Exact.{HasValue}
use Rattle.nearest.specs.Nearest.{units}
use Rattle.nearest.proofs.Units.{units_to}
use Rattle.nearest.proofs.Values.{plain, number}
use Rattle.power.specs.Power.{power_by, between}
use Rattle.power.specs.Parts.{Split, Steps}
use Rattle.power.proofs.Part.{exact}
use Rattle.power.proofs.Cases.{middle}

module _ (x : Float) (held : T (fits binary64 x)) (low : 959 * 2 ^ 52 ≤ to_bits binary64 x) (high : to_bits binary64 x < 1087 * 2 ^ 52) where
  abbrev p : ℕ
  p = to_bits binary64 x

  abbrev w : ℕ
  w = 2 ^ 52 + p % 2 ^ 52

  abbrev f : ℕ
  f = p / 2 ^ 52

  pub split : Split x w f
  split =
      record {
        value = subst (λ (u : ℕ). HasValue x false u (2 ^ 1074)) units-is (number x held (record { above = omega arith; below = omega arith }));
        from_one = omega arith;
        below_two = omega arith;
        from_less_64 = omega arith;
        to_63 = omega arith;
      }
    where
      whole : p ≡ (f - 1) * 2 ^ 52 + w
      whole = omega arith

      units-is : units p ≡ w * 2 ^ (f - 1)
      units-is = ap units whole ∙ units_to (f - 1) w (omega arith) (omega arith)

  pub steps : Steps w f (p / 2 ^ 42 % 1024) (p % 2 ^ 42) (1086 - f)
  steps =
      record {
        sum = omega arith;
        below_one = omega arith;
        rest = exact (p % 2 ^ 42) (omega arith);
        index = omega arith;
        place = omega arith;
      }

  -- and the power is the one that these give
  pub power_of_lem : (t : List ℕ) → power_by t x ≡ between t (p / 2 ^ 42 % 1024) (p % 2 ^ 42) (1086 - f)
  unfolding power_by
  power_of_lem t = simp (plain x (omega arith)) (middle t p low high)
