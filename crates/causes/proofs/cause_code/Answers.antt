-- `causes::cause_code` meets its contract. Assumes nothing.
use borrow.Author.Rules.{rules}
use Rattle.causes.specs.Causes.{cause_code}
use Rattle.causes.proofs.cause_code.Goals as goal

pub returns-in-None : goal.returns-in-None
unfolding cause_code
returns-in-None c = search rules

pub returns-in-ReverseFlow : goal.returns-in-ReverseFlow
unfolding cause_code
returns-in-ReverseFlow c = search rules

pub returns-in-InletTooLow : goal.returns-in-InletTooLow
unfolding cause_code
returns-in-InletTooLow c = search rules

pub returns-in-OutletTooHigh : goal.returns-in-OutletTooHigh
unfolding cause_code
returns-in-OutletTooHigh c = search rules

pub returns-in-Reopened : goal.returns-in-Reopened
unfolding cause_code
returns-in-Reopened c = search rules
