-- `conducting::held_by` meets its contract. Assumes nothing.
use borrow.Enum.Refused.{opened}
use borrow.Author.Rules.{rules}
use Rattle.conducting.specs.Conducting.{held_by}
use Rattle.conducting.proofs.Made.{holds_none}
use Rattle.conducting.proofs.held_by.Goals as goal

pub returns-in-Prv : goal.returns-in-Prv
unfolding held_by
returns-in-Prv c = simp c.in-Prv.is

pub returns-in-Psv : goal.returns-in-Psv
unfolding held_by
returns-in-Psv c = simp c.in-Psv.is

pub returns-in_default : goal.returns-in_default
returns-in_default c = holds_none _ _ _ (opened c.in_default.in_default-own.keys3)
