-- `entries::damping_start` meets its contract: 1 over 0 is infinite. Assumes nothing.
use mathlib.Core.Path.{refl}
use lib.Count.{count_trailing_zeros}
use lib.Ieee.{div, of_bits, of_fields, round, units, odd, size, span, climb}
use borrow.Author.Rules.{rules}
use Rattle.entries.specs.Entries.{damping_start}
use Rattle.entries.proofs.damping_start.Goals as goal

pub returns : goal.returns
unfolding damping_start div of_bits of_fields
returns c = refl
