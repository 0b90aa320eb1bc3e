-- `tanks::shut_link` meets its contract. Assumes nothing.
use Rattle.tanks.proofs.Turns.{shut_on, shut_off}
use mathlib.Core.Path.{◌≡◌}
use Rattle.codes.specs.Codes.{status_code}
use Rattle.tanks.proofs.shut_link.Goals as goal

pub returns-then-above-q : goal.returns-then-above-q
unfolding status_code
returns-then-above-q c =
    let closed : c.from.result ≡ 3 = c.from.ensures in
    rw closed (shut_on _ _ _ _ _ c.if-above-q.true)

pub returns-else-above-q : goal.returns-else-above-q
returns-else-above-q c = shut_off _ _ _ _ _ c.if-above-q.false
