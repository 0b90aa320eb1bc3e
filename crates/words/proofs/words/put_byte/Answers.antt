-- `words::words::put_byte` meets its contract. Assumes nothing.
use borrow.Author.Rules.{rules}
use mathlib.Core.Path.{refl}
use Rattle.words.proofs.Laws.{byte}
use Rattle.words.proofs.words.put_byte.Goals as goal

pub returns-clause-put : goal.returns-clause-put
returns-clause-put c = byte _ _ _

pub returns-clause-value : goal.returns-clause-value
returns-clause-value c = refl
