-- `word_places::LineWords::behind` meets its contract. Assumes nothing.
use Rattle.word_places.proofs.Filling.{NoneBehind}
use Rattle.word_places.proofs.LineWords.behind.Given as goal

abbrev pub invariant-loop-k : goal.invariant-loop-k
invariant-loop-k l = NoneBehind l.line l.places l.at l.k
