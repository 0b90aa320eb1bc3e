-- `update::note` meets its contract. Assumes nothing.
use Rattle.update.proofs.Made.{noted_of, greater, smaller}
use borrow.Author.Rules.{rules}
use Rattle.update.proofs.note.Goals as goal
use Rattle.update.proofs.note.Goals.{then-size-largest, else-size-largest}

pub returns : goal.returns
returns c =
    noted_of _ _ _ _ _ _ _ c.abs-size.ensures c.abs.ensures
    (elim c.if-size-largest.branch [
      | then-size-largest w ↦ greater _ _ _ w.largest-is w.if-size-largest.true
      | else-size-largest w ↦ smaller _ _ _ w.largest-is w.if-size-largest.false
    ])
