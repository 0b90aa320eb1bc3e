-- `tables::tables_871::power_table_871` meets its contract: the table of the source is the table of the specification. Assumes nothing.
use mathlib.Core.Path.{refl}
use Rattle.tables.specs.Tables871.{table_a871, table_b871, power_table871}
use Rattle.tables.proofs.tables_871.power_table_871.Goals as goal

pub invariant_of-result : goal.invariant_of-result
unfolding power_table871 table_a871 table_b871
invariant_of-result c = record { right = refl }
