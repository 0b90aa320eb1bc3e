-- `word_vectors::show_words` ends: each word ends behind the one before it. Assumes nothing.
use Prim.Native.Nat.{◌-◌, ◌≤◌}
use lib.ListN.{length}
use Rattle.word_vectors.proofs.show_words.Given as goal

abbrev pub invariant-loop-w : goal.invariant-loop-w
invariant-loop-w g l = l.at ≤ length l.line

abbrev pub decreases-loop-w : goal.decreases-loop-w
decreases-loop-w g l = length l.line - l.at
