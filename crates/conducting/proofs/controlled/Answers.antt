-- `conducting::controlled` meets its contract. Assumes nothing.
use borrow.Author.Rules.{rules}
use Rattle.conducting.specs.Conducting.{controlled}
use Rattle.conducting.proofs.Made.{regulator_conducts, other_conducts}
use Rattle.conducting.proofs.controlled.Goals as goal

pub returns-in-Prv : goal.returns-in-Prv
returns-in-Prv c = regulator_conducts _ _ _ _ c.in-Prv.in-Prv-own.keys1

pub returns-in-Fcv : goal.returns-in-Fcv
unfolding controlled
returns-in-Fcv c = simp c.in-Fcv.is

pub returns-in-Pcv : goal.returns-in-Pcv
unfolding controlled
returns-in-Pcv c = simp c.in-Pcv.is

pub returns-in_default : goal.returns-in_default
returns-in_default c = other_conducts _ _ _ _ c.in_default.in_default-own.keys4
