-- `power::recipe::power_871` meets its contract. Assumes nothing.
use mathlib.Core.Path.{sym, subst}
use mathlib.Core.List.{List}
use Prim.Native.Nat.{ℕ}
use lib.Dec.{T}
use Rattle.tables.specs.Entries.{nan_free}
use Rattle.tables.specs.Tables871.{power_table871}
use Rattle.tables.proofs.Exponents.{nan_free_871}
use Rattle.power.specs.Power.{power871}
use Rattle.power.proofs.Cases.{by_equal}
use Rattle.power.proofs.recipe.power_871.Goals as goal

pub power_by-requires : goal.power_by-requires
power_by-requires c = subst (λ (l : List ℕ). T (nan_free l)) (sym c.args.table.now.right) nan_free_871

pub returns : goal.returns
unfolding power871
returns c = by_equal power_table871 _ c.args.x _ c.args.table.now.right c.power_by.ensures
