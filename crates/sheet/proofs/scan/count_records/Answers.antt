-- `sheet::scan::count_records` meets its contract: what is counted and what is left to count are the whole run. Assumes nothing.
use mathlib.Core.List.{List}
use mathlib.Core.Path.{◌≡◌, sym, ap, ◌∙◌}
use Prim.Native.Nat.{ℕ, ◌+◌, ◌-◌, ◌≤◌}
use mathlib.Core.Bool.{true}
use native.Mathlib.Omega.{arith}
use lib.ListN.{length}
use Rattle.sheet.specs.Scan.{readable, records_from}
use Rattle.sheet.proofs.Laws.{fits, run_turn, run_end}
use Rattle.sheet.proofs.scan.count_records.Goals as goal

pub loop-at-init : goal.loop-at-init
loop-at-init c =
    let n = length c.args.sheet.now in
    let e : n - 0 ≡ n = omega arith in
    record { inside = c.requires.0; passed = omega arith; total = omega (arith, ap (λ (k : ℕ). records_from c.args.first c.args.second c.args.size k c.args.sheet.now c.args.from) e) }

pub overflow_add-at : goal.overflow_add-at
overflow_add-at c =
    let found : readable c.args.first c.args.second c.args.size c.args.sheet.now c.loop-at.at ≡ true = sym c.is_record.ensures ∙ c.loop-at-test.true in
    let ends : c.loop-at.at + c.args.size ≤ length c.args.sheet.now = fits c.args.first c.args.second c.args.size c.args.sheet.now c.loop-at.at found in
    omega (arith, ends)

pub overflow_add-n : goal.overflow_add-n
overflow_add-n c =
    let found : readable c.args.first c.args.second c.args.size c.args.sheet.now c.loop-at.at ≡ true = sym c.is_record.ensures ∙ c.loop-at-test.true in
    let ends : c.loop-at.at + c.args.size ≤ length c.args.sheet.now = fits c.args.first c.args.second c.args.size c.args.sheet.now c.loop-at.at found in
    omega (arith, ends)

pub loop-at-smaller : goal.loop-at-smaller
loop-at-smaller c =
    let found : readable c.args.first c.args.second c.args.size c.args.sheet.now c.loop-at.at ≡ true = sym c.is_record.ensures ∙ c.loop-at-test.true in
    let ends : c.loop-at.at + c.args.size ≤ length c.args.sheet.now = fits c.args.first c.args.second c.args.size c.args.sheet.now c.loop-at.at found in
    omega (arith, ends)

pub loop-at-preserved : goal.loop-at-preserved
loop-at-preserved c =
    let found : readable c.args.first c.args.second c.args.size c.args.sheet.now c.loop-at.at ≡ true = sym c.is_record.ensures ∙ c.loop-at-test.true in
    let ends : c.loop-at.at + c.args.size ≤ length c.args.sheet.now = fits c.args.first c.args.second c.args.size c.args.sheet.now c.loop-at.at found in
    record { inside = ends; passed = omega arith; total = run_turn c.args.first c.args.second c.args.size c.loop-at.n c.args.sheet.now c.loop-at.at _ c.loop-at.invariant.total found (omega (arith, ends)) }

pub returns : goal.returns
returns c = omega (arith, c.loop-at.invariant.total, run_end c.args.first c.args.second c.args.size (length c.args.sheet.now - c.loop-at.n) c.args.sheet.now c.loop-at.at (sym c.is_record.ensures ∙ c.loop-at-test.false))
