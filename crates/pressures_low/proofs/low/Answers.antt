-- `pressures_low::low` meets its contract: the closure tests what the definition does. Assumes nothing.
use Rattle.std.proofs.Common.{rules}
use Rattle.pressures_low.specs.Low.{low_at, low_of}
use Rattle.pressures_low.proofs.low.Goals as goal

pub returns : goal.returns
unfolding low_of
returns c = c.first_where.ensures (low_at c.args.sheet.now c.args.l c.args.heads.now c.args.lowest) (λ i b h p. search rules)
