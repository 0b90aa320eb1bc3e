-- `spelled::same_bytes` meets its contract. Assumes nothing.
use mathlib.Core.Path.{◌∙◌}
use Rattle.spelled.proofs.Agree.{same_is_eq}
use Rattle.spelled.proofs.same_bytes.Goals as goal

pub returns : goal.returns
returns c = c.eq.ensures ∙ same_is_eq c.args.word.now c.args.other.now
