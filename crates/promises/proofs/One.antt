-- Exactly one answer: two results that meet a contract are equal. Assumes nothing.
use mathlib.Core.Path.{◌≡◌, sym, ap, ◌∙◌}
use Rattle.answers.specs.Answers.{Solved}
use Rattle.promises.specs.Statements.{OneAnswer}

-- Where a contract says that a result is what a definition gives, two results that meet it are equal.
pub one : {A : Type 0} {meaning x y : A} → x ≡ meaning → y ≡ meaning → x ≡ y
one p q = p ∙ sym q

-- Two answers that meet the contract of `solve`, each with the six buffers that it leaves, are equal, and so are the buffers.
pub one_answer : OneAnswer
one_answer s b a a' x x' p q = let e = one p q in (ap (λ (o : Solved). o.answer) e, ap (λ (o : Solved). o.lent) e)
