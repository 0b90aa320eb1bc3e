-- `balance::supplied` meets its contract. Assumes nothing.
use Rattle.balance.proofs.Turns.{less_fixed, less_free, start_fixed, start_free}
use Rattle.balance.proofs.supplied.Goals as goal
use Rattle.balance.proofs.supplied.Goals.{then-fixed_end, else-fixed_end}

pub returns-then-fixed_start : goal.returns-then-fixed_start
returns-then-fixed_start c = start_fixed c.args.fixed_start c.args.fixed_end c.args.q c.args.supply c.if-fixed_end.t c.if-fixed_start.true (elim c.if-fixed_end.branch [ then-fixed_end w ↦ less_fixed _ _ _ _ w.if-fixed_end.true w.t-is | else-fixed_end w ↦ less_free _ _ _ _ w.if-fixed_end.false w.t-is ])

pub returns-else-fixed_start : goal.returns-else-fixed_start
returns-else-fixed_start c = start_free c.args.fixed_start c.args.fixed_end c.args.q c.args.supply c.if-fixed_end.t c.if-fixed_start.false (elim c.if-fixed_end.branch [ then-fixed_end w ↦ less_fixed _ _ _ _ w.if-fixed_end.true w.t-is | else-fixed_end w ↦ less_free _ _ _ _ w.if-fixed_end.false w.t-is ])
