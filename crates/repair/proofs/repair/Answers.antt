-- `repair::repair` meets its contract: one of the three ways. Assumes nothing.
use native.Mathlib.Omega.{arith}
use mathlib.Core.Path.{◌≡◌, sym, ◌∙◌}
use Rattle.repair.proofs.Laws.{regulator_below, repair-frees, repair-singular, repair-grounds}
use Rattle.codes.specs.Codes.{status_code}
use Rattle.repair.proofs.repair.Goals as goal

pub bounds-statuses-j : goal.bounds-statuses-j
bounds-statuses-j c = omega (arith, c.requires, regulator_below _ _ _ _ _ (sym c.regulator_at.ensures ∙ c.in-Some.is))

pub returns-in-Some : goal.returns-in-Some
unfolding status_code
returns-in-Some c =
    let freed : c.from.result ≡ 6 = c.from.ensures in
    rw freed (repair-frees _ _ _ _ _ _ (sym c.regulator_at.ensures ∙ c.in-Some.is))

pub returns-then-grounded-i : goal.returns-then-grounded-i
returns-then-grounded-i c = repair-singular _ _ _ _ _ (sym c.regulator_at.ensures ∙ c.in-None.is) c.if-grounded-i.true

pub returns-else-grounded-i : goal.returns-else-grounded-i
returns-else-grounded-i c = repair-grounds _ _ _ _ _ (sym c.regulator_at.ensures ∙ c.in-None.is) c.if-grounded-i.false
