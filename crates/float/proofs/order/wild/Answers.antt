-- `float::order::wild` meets its contract. Assumes nothing.
use mathlib.Core.Path.{◌∙◌, ap}
use mathlib.Core.Bool.{not}
use lib.Count.{count_trailing_zeros}
use lib.Ieee.{Float, of_bits, of_fields, odd, lt}
use borrow.Author.Rules.{rules}
use Rattle.float.proofs.Signs.{far, not_below_far}
use Rattle.float.proofs.order.wild.Goals as goal

pub returns : goal.returns
unfolding of_bits of_fields odd count_trailing_zeros
returns c = ap (λ (y : Float). not (lt y far)) c.abs.ensures ∙ not_below_far _
