-- `word_vectors::show_lines` ends: each line begins behind the one before it. Assumes nothing.
use mathlib.Core.Path.{◌≡◌, sym, subst}
use mathlib.Core.List.{List}
use Prim.Native.Nat.{ℕ, ◌≤◌}
use native.Mathlib.Omega.{arith}
use lib.ListN.{length}
use Rattle.lines.specs.Lines.{line_at}
use Rattle.lines.specs.declared.Line.{Line}
use Rattle.lines.proofs.Lines.{First, line_first}
use Rattle.word_vectors.proofs.show_lines.Goals as goal

found : (text : List ℕ) (at : ℕ) (l : Line) (h : at ≤ length text) → l ≡ line_at text at → First text at h l
found text at l h e = subst (First text at h) (sym e) (line_first text at h)

pub slice_bounds-show_words-count : goal.slice_bounds-show_words-count
slice_bounds-show_words-count g c = omega (arith, found _ _ _ c.loop-writer.invariant c.line_at-l.ensures)

pub slice_bounds-show_words-start : goal.slice_bounds-show_words-start
slice_bounds-show_words-start g c = omega (arith, found _ _ _ c.loop-writer.invariant c.line_at-l.ensures)

pub slice_bounds-show_words-end : goal.slice_bounds-show_words-end
slice_bounds-show_words-end g c = omega (arith, found _ _ _ c.loop-writer.invariant c.line_at-l.ensures)

pub loop-writer-smaller : goal.loop-writer-smaller
loop-writer-smaller g c =
    let line = found _ _ _ c.loop-writer.invariant c.line_at-l.ensures in
    omega (arith, line.further c.in-Some.next c.in-Some.is)

pub loop-writer-preserved : goal.loop-writer-preserved
loop-writer-preserved g c = ((found _ _ _ c.loop-writer.invariant c.line_at-l.ensures).further c.in-Some.next c.in-Some.is).1
