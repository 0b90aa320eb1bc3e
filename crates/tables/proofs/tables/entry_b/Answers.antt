-- `tables::tables::entry_b` meets its contract. Assumes nothing.
use mathlib.Core.Path.{refl}
use borrow.Author.Rules.{rules}
use Rattle.tables.proofs.NanFree.{nan_free_at}
use Rattle.tables.proofs.tables.entry_b.Goals as goal

pub float_from_bits-result : goal.float_from_bits-result
float_from_bits-result c = nan_free_at _ c.requires.0 _

pub returns : goal.returns
returns c = refl
