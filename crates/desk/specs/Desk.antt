-- The answer as the caller gets it: five counts and three totals; and a verdict: its number and place. Definitions only.
use Rattle.std.specs.Prelude.{ℕ, List, [], ◌∷◌, Float}
use Rattle.answers.specs.declared.Answer.{Answer}
use Rattle.sale.specs.declared.judging.Verdict.{Verdict}

unfoldable pub counts_of : Answer → List ℕ
counts_of a = a.number ∷ a.place ∷ a.trials ∷ a.freed ∷ a.grounded ∷ []

unfoldable pub totals_of : Answer → List Float
totals_of a = a.demand ∷ a.supply ∷ a.error ∷ []

unfoldable pub place_of : Verdict → List ℕ
place_of v = v.number ∷ v.place ∷ []
