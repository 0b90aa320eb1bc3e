-- `named_lines::Table::position` meets its contract: none of the first i lines has the name. Assumes nothing.
use Rattle.std.proofs.Common.{arith, sym, ap, ◌∙◌, List, ℕ}
use Rattle.spelled.specs.Spelled.{same_bytes}
use Rattle.named_lines.proofs.Laws.{none_first, other, found, nowhere}
use Rattle.named_lines.proofs.Table.position.Goals as goal

pub loop-i-init : goal.loop-i-init
loop-i-init c = (omega arith, none_first _)

pub returns-then-same_bytes : goal.returns-then-same_bytes
returns-then-same_bytes c =
    found _ _ _ c.loop-i.invariant.1 (omega (arith, c.loop-i-test.true, c.len-i-end.ensures.lines)) (ap (λ (x : List ℕ). same_bytes x c.args.word.now) (sym c.name.ensures) ∙ sym c.same_bytes.ensures ∙ c.if-same_bytes.true)

pub loop-i-preserved : goal.loop-i-preserved
loop-i-preserved c =
    (omega (arith, c.loop-i-test.true, c.len-i-end.ensures.lines), other _ _ _ c.loop-i.invariant.1 (omega (arith, c.loop-i-test.true, c.len-i-end.ensures.lines)) (ap (λ (x : List ℕ). same_bytes x c.args.word.now) (sym c.name.ensures) ∙ sym c.same_bytes.ensures ∙ c.if-same_bytes.false))

pub returns : goal.returns
returns c = nowhere _ _ _ c.loop-i.invariant.1 (omega (arith, c.loop-i-test.false, c.len-i-end.ensures.lines))
