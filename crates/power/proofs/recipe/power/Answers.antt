-- `power::recipe::power` meets its contract. Assumes nothing.
use mathlib.Core.Path.{sym, subst}
use mathlib.Core.List.{List}
use Prim.Native.Nat.{ℕ}
use lib.Dec.{T}
use Rattle.tables.specs.Entries.{nan_free}
use Rattle.tables.specs.Tables.{power_table}
use Rattle.tables.proofs.Exponents.{nan_free_852}
use Rattle.power.specs.Power.{power_of}
use Rattle.power.proofs.Cases.{by_equal}
use Rattle.power.proofs.recipe.power.Goals as goal

pub power_by-requires : goal.power_by-requires
power_by-requires c = subst (λ (l : List ℕ). T (nan_free l)) (sym c.args.table.now.right) nan_free_852

pub returns : goal.returns
unfolding power_of
returns c = by_equal power_table _ c.args.x _ c.args.table.now.right c.power_by.ensures
