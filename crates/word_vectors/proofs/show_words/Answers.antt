-- `word_vectors::show_words` ends: each word ends behind the one before it. Assumes nothing.
use mathlib.Core.Path.{◌≡◌, sym, subst}
use mathlib.Core.List.{List}
use Prim.Native.Nat.{ℕ, ◌≤◌}
use native.Mathlib.Omega.{arith}
use lib.ListN.{length}
use Rattle.line_words.specs.Words.{word_from}
use Rattle.line_words.specs.declared.Word.{Word}
use Rattle.line_words.proofs.Words.{Next, word_next}
use Rattle.word_vectors.proofs.show_words.Goals as goal

found : (line : List ℕ) (at : ℕ) (w : Word) → at ≤ length line → w ≡ word_from line at → Next line at w
found line at w h e = subst (Next line at) (sym e) (word_next line at h)

pub slice_bounds-show-count : goal.slice_bounds-show-count
slice_bounds-show-count g c = omega (arith, found _ _ _ c.loop-w.invariant c.next_word-w.ensures)

pub slice_bounds-show-start : goal.slice_bounds-show-start
slice_bounds-show-start g c = omega (arith, found _ _ _ c.loop-w.invariant c.next_word-w.ensures)

pub slice_bounds-show-end : goal.slice_bounds-show-end
slice_bounds-show-end g c = omega (arith, found _ _ _ c.loop-w.invariant c.next_word-w.ensures)

pub loop-w-smaller : goal.loop-w-smaller
loop-w-smaller g c = omega (arith, found _ _ _ c.loop-w.invariant c.next_word-w.ensures, c.if-w.false)

pub loop-w-preserved : goal.loop-w-preserved
loop-w-preserved g c = (found _ _ _ c.loop-w.invariant c.next_word-w.ensures).within
