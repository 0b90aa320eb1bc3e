-- `search::first_where` meets its contract: what is left to search answers for the whole. Assumes nothing.
use Rattle.std.proofs.Common.{◌≡◌, ◌-◌, arith}
use Rattle.found.proofs.Firsts.{first_start, first_end, first-here, first_on}
use Rattle.search.proofs.first_where.Goals as goal

pub loop-i-init : goal.loop-i-init
loop-i-init g c t h = first_start t c.args.n (c.args.n - 0) (omega arith)

pub returns-then-test : goal.returns-then-test
returns-then-test g c t h =
    first-here t c.args.n c.loop-i.i _ (c.loop-i.invariant t h) c.test.result (h _ _ c.loop-i-test.true c.test.ensures) c.loop-i-test.true c.if-test.true

pub loop-i-preserved : goal.loop-i-preserved
loop-i-preserved g c t h =
    first_on t c.args.n c.loop-i.i _ (c.loop-i.invariant t h) c.test.result (h _ _ c.loop-i-test.true c.test.ensures) c.loop-i-test.true c.if-test.false

pub returns : goal.returns
returns g c t h = first_end t c.args.n c.loop-i.i _ (c.loop-i.invariant t h) c.loop-i-test.false
