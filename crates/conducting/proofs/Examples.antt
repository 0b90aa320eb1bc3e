-- Worked examples: the definitions compute. Assumes nothing.
use mathlib.Core.Path.{◌≡◌, refl}
use mathlib.Core.Bool.{Bool, true, false}
use lib.Ieee.{lt, le, eq, neg, odd, of_bits, of_fields}
use lib.Count.{count_trailing_zeros}
use Rattle.codes.specs.declared.LinkKind.{LinkKind}
use Rattle.codes.specs.declared.LinkKind.TheVariants.{Pipe, Prv, Psv, Fcv}
use Rattle.codes.specs.declared.Status.TheVariants.{Closed, Open, Active, FixedClosed, XPressure}
use Rattle.constants.specs.Constants.{zero, q_zero, quarter, half, one}
use Rattle.records.specs.declared.records.Link.{Link}
use Rattle.conducting.specs.Conducting.{pressed, pipe_conducts, controlled, valve_conducts, conducts_of, held_by, holds_of}
use Rattle.status.specs.Rules.{is_active}
use Rattle.std.specs.Prelude.{None, Some}

-- a link from node 1 to node 2, set to a half
abbrev link : LinkKind → Bool → Link
link kind check = record { kind = kind; check = check; status = Open; start = 1; end = 2; setting = half; minor = zero; diameter = one; resistance = one; flow = zero }

pipes : (conducts_of (link Pipe false) Closed one ≡ false) × (conducts_of (link Pipe false) FixedClosed one ≡ true)
unfolding conducts_of pipe_conducts pressed
pipes = (refl, refl)

-- the flow presses on a check valve from -Q_ZERO down
checks : (conducts_of (link Pipe true) Open zero ≡ true) × (conducts_of (link Pipe true) Open (neg q_zero) ≡ false)
unfolding conducts_of pipe_conducts pressed lt le eq neg odd of_bits of_fields count_trailing_zeros
checks = (refl, refl)

-- an FCV conducts below its setting
limits : (conducts_of (link Fcv false) Active quarter ≡ true) × (conducts_of (link Fcv false) Active half ≡ false)
unfolding conducts_of valve_conducts controlled lt odd of_bits of_fields count_trailing_zeros
limits = (refl, refl)

-- an Active PRV holds its end and an Active PSV its start; a freed one conducts, and holds nothing
regulators : (holds_of (link Prv false) Active ≡ Some 2) × (holds_of (link Psv false) Active ≡ Some 1) × (holds_of (link Prv false) XPressure ≡ None)
unfolding holds_of held_by is_active
regulators = (refl, refl, refl)

freed : (conducts_of (link Prv false) Active one ≡ false) × (conducts_of (link Prv false) XPressure one ≡ true)
unfolding conducts_of valve_conducts controlled
freed = (refl, refl)
