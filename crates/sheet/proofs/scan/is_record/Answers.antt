-- `sheet::scan::is_record` meets its contract. Assumes nothing.
use native.Mathlib.Omega.{arith}
use mathlib.Core.Path.{sym}
use borrow.Author.Rules.{rules}
use Rattle.sheet.proofs.Laws.{too_short_lem, long_enough}
use Rattle.sheet.proofs.scan.is_record.Goals as goal

pub returns-then-sheet-at : goal.returns-then-sheet-at
returns-then-sheet-at c = sym (too_short_lem _ _ c.args.size c.args.sheet.now c.args.at (omega arith))

pub returns : goal.returns
returns c = sym (long_enough c.args.first c.args.second c.args.size c.args.sheet.now c.args.at (omega arith))
