-- `survey::read_lines` meets its contract: a turn takes the first of the lines that are left, and the place goes on. Assumes nothing.
use Rattle.std.proofs.Common.{arith, sym, ◌∙◌}
use Rattle.survey.proofs.Laws.{begun, first, refused, words_are, name_is, done, onward}
use Rattle.survey.proofs.read_lines.Goals as goal

pub loop-fault-init : goal.loop-fault-init
loop-fault-init c = begun _ _ c.requires

pub slice_bounds-bytes-count : goal.slice_bounds-bytes-count
slice_bounds-bytes-count c = (first c.loop-fault.invariant _ c.line_at-l.ensures).from

pub slice_bounds-bytes-start : goal.slice_bounds-bytes-start
slice_bounds-bytes-start c = (first c.loop-fault.invariant _ c.line_at-l.ensures).from

pub slice_bounds-bytes-end : goal.slice_bounds-bytes-end
slice_bounds-bytes-end c = let here = first c.loop-fault.invariant _ c.line_at-l.ensures in omega (arith, here.from, here.within)

pub returns-in-Err-clause-told : goal.returns-in-Err-clause-told
returns-in-Err-clause-told c = refused c.loop-fault.invariant _ c.line_at-l.ensures c.behind-words.ensures _ (sym c.line_fault.ensures ∙ c.in-Err.is)

pub take_named-requires-clause-words : goal.take_named-requires-clause-words
take_named-requires-clause-words c = words_are c.loop-fault.invariant _ c.line_at-l.ensures c.behind-words.ensures

pub take_named-requires-clause-name : goal.take_named-requires-clause-name
take_named-requires-clause-name c = name_is c.loop-fault.invariant _ c.line_at-l.ensures c.next_word-name.ensures

pub returns-in_default-next-clause-told : goal.returns-in_default-next-clause-told
returns-in_default-next-clause-told c =
    done c.loop-fault.invariant _ c.line_at-l.ensures c.behind-words.ensures (sym c.line_fault.ensures ∙ c.in_default.is) c.take_named.ensures c.in_default-next.is

pub loop-fault-smaller : goal.loop-fault-smaller
loop-fault-smaller c = omega (arith, (first c.loop-fault.invariant _ c.line_at-l.ensures).further c.in-Some.next c.in-Some.is)

pub loop-fault-preserved : goal.loop-fault-preserved
loop-fault-preserved c =
    onward c.loop-fault.invariant _ c.line_at-l.ensures c.behind-words.ensures (sym c.line_fault.ensures ∙ c.in_default.is) c.take_named.ensures c.in-Some.next c.in-Some.is
