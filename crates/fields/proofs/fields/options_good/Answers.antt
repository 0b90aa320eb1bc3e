-- `fields::fields::options_good` meets its contract. Assumes nothing.
use native.Mathlib.Omega.{arith}
use borrow.Author.Rules.{rules}
use Rattle.fields.proofs.Made.{options_good_lem}
use Rattle.fields.proofs.fields.options_good.Goals as goal

pub overflow_cast-result : goal.overflow_cast-result
overflow_cast-result c = omega (arith, c.shared_slice_known-2-1.given 28)

pub returns : goal.returns
returns c = options_good_lem c.args.sheet.now c.args.b _ _ _ _ _ c.all_within.ensures c.from_bytes.ensures c.from_bytes-2.ensures c.from_bytes-3.ensures c.pair_at-trials.ensures
