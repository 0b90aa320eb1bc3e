-- `word_places::LineWords::behind` meets its contract. Assumes nothing.
use Rattle.word_places.proofs.Filling.{first_behind, at_within, next_behind, no_more}
use Rattle.word_places.proofs.LineWords.behind.Goals as goal

pub loop-k-init : goal.loop-k-init
loop-k-init c = first_behind _ _ c.requires

pub invariant_of-result : goal.invariant_of-result
invariant_of-result c = no_more c.loop-k.invariant c.if-at-line.true

pub next_word-found-requires : goal.next_word-found-requires
next_word-found-requires c = at_within c.loop-k.invariant.filled

pub loop-k-preserved : goal.loop-k-preserved
loop-k-preserved c = next_behind c.loop-k.invariant c.loop-k-test.true c.next_word-found.result c.next_word-found.ensures
