use mathlib.Core.Path.{◌≡◌, refl}
use Rattle.codes.specs.Codes.{status_code}
use Rattle.repair.proofs.regulates.Goals as goal

pub returns : goal.returns
unfolding status_code
returns c =
    let active : c.from.result ≡ 2 = c.from.ensures in
    rw (active, c.is_regulator.ensures) refl
