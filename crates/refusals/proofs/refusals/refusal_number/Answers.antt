-- `refusals::refusals::refusal_number` meets its contract. Assumes nothing.
use borrow.Author.Rules.{rules}
use Rattle.refusals.specs.Refusals.{number_of}
use Rattle.refusals.proofs.refusals.refusal_number.Goals as goal

pub returns-in-Unreadable : goal.returns-in-Unreadable
unfolding number_of
returns-in-Unreadable c = search rules

pub returns-in-NodeCount : goal.returns-in-NodeCount
unfolding number_of
returns-in-NodeCount c = search rules

pub returns-in-LinkCount : goal.returns-in-LinkCount
unfolding number_of
returns-in-LinkCount c = search rules

pub returns-in-Field : goal.returns-in-Field
unfolding number_of
returns-in-Field c = search rules

pub returns-in-Ends : goal.returns-in-Ends
unfolding number_of
returns-in-Ends c = search rules
