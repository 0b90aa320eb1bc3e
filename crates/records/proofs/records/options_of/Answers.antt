-- `records::records::options_of` meets its contract. Assumes nothing.
use native.Mathlib.Omega.{arith}
use borrow.Author.Rules.{rules}
use Rattle.records.proofs.Laws.{options}
use Rattle.records.proofs.records.options_of.Goals as goal

pub overflow_cast-result : goal.overflow_cast-result
overflow_cast-result c = omega (arith, c.shared_slice_known-2-1.given 28)

pub returns : goal.returns
returns c = options c.args.sheet.now _ _ _ _ c.from_bytes.ensures c.from_bytes-2.ensures c.from_bytes-3.ensures c.pair_at.ensures
