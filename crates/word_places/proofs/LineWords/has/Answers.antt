-- `word_places::LineWords::has` meets its contract. Assumes nothing.
use Rattle.word_places.proofs.Filling.{has}
use Rattle.word_places.proofs.LineWords.has.Goals as goal

pub returns : goal.returns
returns c = rw (← c.self.view_is) (has c.self.invariant _ c.requires)
