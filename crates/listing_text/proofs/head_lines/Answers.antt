-- `listing_text::head_lines` meets its contract: one text behind the other. Assumes nothing.
use native.Mathlib.Omega.{arith}
use borrow.Author.Rules.{rules}
use Rattle.words.proofs.Laws.{then}
use Rattle.text.proofs.LineLaws.{answer_length, records_length}
use Rattle.listing_text.specs.Listing.{head_lines}
use Rattle.listing_text.proofs.head_lines.Goals as goal

pub record_lines-requires : goal.record_lines-requires
record_lines-requires c = omega (arith, c.answer_line-at.ensures.end, answer_length c.args.a.number c.args.a.place c.args.a.trials c.args.a.freed c.args.a.grounded)

pub returns-clause-put : goal.returns-clause-put
unfolding head_lines
returns-clause-put c = then (record { bytes = c.answer_line-at.ensures.text; next = c.answer_line-at.ensures.end }) (record { bytes = c.record_lines.ensures.text; next = c.record_lines.ensures.end })

pub returns-clause-upper_bound : goal.returns-clause-upper_bound
unfolding head_lines
returns-clause-upper_bound c = omega (arith, c.answer_line-at.ensures.end, c.record_lines.ensures.end, answer_length c.args.a.number c.args.a.place c.args.a.trials c.args.a.freed c.args.a.grounded, records_length c.args.entries.now c.args.a.trials)
