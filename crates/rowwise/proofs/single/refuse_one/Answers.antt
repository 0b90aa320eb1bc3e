-- `rowwise::single::refuse_one` meets its contract. Assumes nothing.
use native.Mathlib.Omega.{arith}
use borrow.Author.Rules.{rules}
use Rattle.rowwise.proofs.Laws.{wide, wide_by, refused_off, refused_by, refused_totals}
use Rattle.rowwise.proofs.single.refuse_one.Goals as goal

pub put_counts-requires : goal.put_counts-requires
put_counts-requires c = omega (arith, c.requires.0, wide c.args.judging)

pub put_verdict-requires : goal.put_verdict-requires
put_verdict-requires c = omega (arith, c.requires.0, c.put_counts.auto.counts, wide_by c.args.judging _ c.in-Some.is)

pub returns-in-Some-clause-counts_after : goal.returns-in-Some-clause-counts_after
returns-in-Some-clause-counts_after c = refused_by c.args.judging c.args.place _ c.refuse-a.ensures _ _ _ _ c.in-Some.is c.put_counts.ensures c.put_verdict.ensures

pub returns-in-Some-clause-totals_after : goal.returns-in-Some-clause-totals_after
returns-in-Some-clause-totals_after c = refused_totals c.args.judging c.args.place _ c.refuse-a.ensures _ _ c.put_totals.ensures

pub returns-in_default-clause-counts_after : goal.returns-in_default-clause-counts_after
returns-in_default-clause-counts_after c = refused_off c.args.judging c.args.place _ c.refuse-a.ensures _ _ c.in_default.is c.put_counts.ensures

pub returns-in_default-clause-totals_after : goal.returns-in_default-clause-totals_after
returns-in_default-clause-totals_after c = refused_totals c.args.judging c.args.place _ c.refuse-a.ensures _ _ c.put_totals.ensures
