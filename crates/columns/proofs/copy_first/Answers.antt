-- `columns::copy_first` meets its contract. Assumes nothing.
use native.Mathlib.Omega.{arith}
use mathlib.Core.Path.{◌≡◌, refl}
use lib.ListN.{length-set}
use Rattle.columns.specs.Columns.{copied}
use Rattle.columns.proofs.Laws.{copy_next}
use Rattle.columns.proofs.copy_first.Goals as goal

pub loop-i-init : goal.loop-i-init
unfolding copied
loop-i-init g c = (omega arith, omega arith, refl)

pub loop-i-preserved : goal.loop-i-preserved
loop-i-preserved g c =
    (simp length-set (omega arith), omega arith, rw c.index-from-i.is (copy_next _ _ _ _ _ (omega arith) (omega arith) c.loop-i.invariant.2))

pub returns : goal.returns
returns g c =
    let p : c.loop-i.i ≡ c.args.n = omega arith in
    rw (← p) c.loop-i.invariant.2
