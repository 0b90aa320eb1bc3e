-- Document 02 [12]: for every argument from 2 ^ -64 up to but not including 2 ^ 64 the routine is within a relative 2 ^ -25 of the exact x ^ (213 / 250),
-- said as an inequality between 250th powers of the result and 213th powers of the argument as whole-number fractions. Definitions only.
use Rattle.std.specs.Prelude.{false, ℕ, ◌+◌, ◌-◌, ◌*◌, ◌^◌, ◌≤◌, T, pos, negsuc, Float}
use Rattle.std.specs.Float.{fin, binary64}
use Rattle.std.specs.Float.Ieee.{fits, le, lt}
use Rattle.std.specs.Float.Ieee.Exact.{HasValue}
use Rattle.power.specs.Power.{power_of}
use Rattle.power.proofs.power.Reads.{Learnt}

-- 2 ^ -64 and 2 ^ 64
abbrev pub least : Float
least = fin false 1 (negsuc 63)

abbrev pub limit : Float
limit = fin false 1 (pos 64)

-- an f64 from 2 ^ -64 up to but not including 2 ^ 64
pub record Argument (x : Float) : Type 0 where
  pub held : T (fits binary64 x)
  pub from_least : T (le least x)
  pub below_limit : T (lt x limit)

-- a / b is at most c / d
abbrev pub AtMost : ℕ → ℕ → ℕ → ℕ → Type 0
AtMost a b c d = a * d ≤ c * b

-- Every finite f64 is a whole number over this.
abbrev pub unit : ℕ
unit = 2 ^ 1074

-- x is of / unit and r is to / unit, and r is from 1 - 2 ^ -p to 1 + 2 ^ -q times the exact x ^ (213 / 250). Both sides stand to the 250th power:
-- ((2 ^ p - 1) / 2 ^ p) ^ 250 * x ^ 213 is at most r ^ 250, and that at most ((2 ^ q + 1) / 2 ^ q) ^ 250 * x ^ 213.
pub record Within (p q : ℕ) (x r : Float) : Type 0 where
  pub of : ℕ
  pub to : ℕ
  pub argument : HasValue x false of unit
  pub result : HasValue r false to unit
  pub from_below : AtMost ((2 ^ p - 1) ^ 250 * of ^ 213) ((2 ^ p) ^ 250 * unit ^ 213) (to ^ 250) (unit ^ 250)
  pub from_above : AtMost (to ^ 250) (unit ^ 250) ((2 ^ q + 1) ^ 250 * of ^ 213) ((2 ^ q) ^ 250 * unit ^ 213)

-- ---- the sentence: within a relative 2 ^ -25
abbrev pub Close : Type 0
Close = (x : Float) → Argument x → Within 25 25 x (power_of x)

-- ---- what is more: from above within 2 ^ -51
abbrev pub Closer : Type 0
Closer = (x : Float) → Argument x → Within 25 51 x (power_of x)

-- ---- the function `power` (power/src/recipe.rt) by its contract: `Learnt` is what a call's result r is known to be, and x is the first of what the call was given
abbrev pub Called : Type 0
Called = (tables : _) (call : _) (r : Float) (after : _) → Learnt tables call r after → Argument call.0 → Within 25 51 call.0 r
