-- `tables::tables::power_table` meets its contract: the table of the source is the table of the specification. Assumes nothing.
use mathlib.Core.Path.{refl}
use Rattle.tables.specs.Tables.{table_a, table_b, power_table}
use Rattle.tables.proofs.tables.power_table.Goals as goal

pub invariant_of-result : goal.invariant_of-result
unfolding power_table table_a table_b
invariant_of-result c = record { right = refl }
