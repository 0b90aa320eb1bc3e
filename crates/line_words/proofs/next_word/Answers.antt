-- `line_words::next_word` meets its contract. Assumes nothing.
use mathlib.Core.Path.{◌≡◌, ap, ◌∙◌}
use mathlib.Core.List.{List}
use Prim.Native.Nat.{ℕ, ◌+◌}
use native.Mathlib.Omega.{arith}
use lib.ListN.{get_or, drop}
use Rattle.lines.specs.Lines.{stretch}
use Rattle.lines.proofs.Stretches.{rest}
use Rattle.line_words.specs.Words.{not_blank, ends_word}
use Rattle.line_words.proofs.Words.{at_comment, at_word, none_past, past_the_end}
use Rattle.line_words.proofs.next_word.Goals.{else-start-line-via-then-start-line+else-line-start-eq59, else-start-line-via-else-start-line}
use Rattle.line_words.proofs.next_word.Goals as goal

pub returns-then-at-line : goal.returns-then-at-line
returns-then-at-line c = past_the_end c.args.line.now c.args.at (omega arith)

pub returns-then-line-start-eq59 : goal.returns-then-line-start-eq59
returns-then-line-start-eq59 c =
    let l : List ℕ = c.args.line.now in
    let at : ℕ = c.args.at in
    let start_is : at + c.blanks.result ≡ at + stretch not_blank (drop at l) = ap (λ (n : ℕ). at + n) c.blanks.ensures.0 ∙ ap (λ (s : List ℕ). at + stretch not_blank s) (rest at l) in
    at_comment l at _ start_is c.if-line-start-eq59.true

pub returns : goal.returns
returns c =
    let l : List ℕ = c.args.line.now in
    let at : ℕ = c.args.at in
    let start : ℕ = at + c.blanks.result in
    let start_is : start ≡ at + stretch not_blank (drop at l) = ap (λ (n : ℕ). at + n) c.blanks.ensures.0 ∙ ap (λ (s : List ℕ). at + stretch not_blank s) (rest at l) in
    let none : get_or l start 0 ≡ 59 → ⊥ =
    elim c.else-start-line.branch [
      | else-start-line-via-then-start-line+else-line-start-eq59 w ↦ w.if-line-start-eq59.false
      | else-start-line-via-else-start-line w ↦ none_past l start (omega (arith, w.if-start-line.false))
    ] in
    let end_is : start + c.word_length.result ≡ start + stretch ends_word (drop start l) = ap (λ (n : ℕ). start + n) c.word_length.ensures.0 ∙ ap (λ (s : List ℕ). start + stretch ends_word s) (rest start l) in
    at_word l at start start_is _ none end_is
