-- `update::move_link` meets its contract. Assumes nothing.
use Rattle.update.proofs.Made.{moved_of}
use Rattle.update.specs.Update.{basis}
use borrow.Author.Rules.{rules}
use Rattle.update.proofs.move_link.Goals as goal

pub returns : goal.returns
returns c = moved_of c.args.sheet.now c.args.l (basis c.args.heads.now c.args.g.now c.args.y.now c.args.factor) c.args.k c.args.j c.args.flows.now c.args.statuses.now _ c.args.u _ _ _ _ _ _ c.flow_change-dq.ensures c.change_at-change.ensures c.recode.ensures c.from.ensures c.change_counts.ensures c.note-noted.ensures c.tell.ensures
