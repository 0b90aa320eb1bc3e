-- The same by the bytes of the record. Assumes nothing.
use Prim.Native.Nat.{◌+◌}
use mathlib.Core.Path.{sym, ap, ◌∙◌}
use native.Mathlib.Omega.{arith}
use lib.ListN.{get_or, drop, length-drop}
use lib.Seq.{get_or-drop}
use Rattle.entries.specs.Entries.{no_entry}
use Rattle.solver.specs.Solve.{solve_of}
use Rattle.promises.specs.Repairs.{fails}
use Rattle.promises.specs.Trials.{run_in}
use Rattle.promises.proofs.Counts.{entry_shown, trials_are}
use Rattle.promises.proofs.Shown.{fails_shown, failing_least}
use Rattle.repairs_bound.specs.RepairsBound.{RepairsBoundShown}
use Rattle.repairs_bound.proofs.Bound.{solve_repairs_bound}

-- No more than V + U entries with the letters VF, GN or SG stand one behind the other in a record.
pub repairs_bound_shown : RepairsBoundShown
repairs_bound_shown s x l w i c h f =
    let es = (run_in s l).entries in
    let n = trials_are s x l w in
    let most = solve_repairs_bound s l w.read i in
    let least = failing_least (drop i es) c (omega (arith, length-drop i es, h, n))
    (λ j z. ap fails (get_or-drop i es j no_entry) ∙ sym (fails_shown (solve_of s x).lent.entries (i + j) (get_or es (i + j) no_entry) (entry_shown s x l w (i + j) (omega (arith, z, h, n)))) ∙ f j z) in
    omega (arith, most, least)
