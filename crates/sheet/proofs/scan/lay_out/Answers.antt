-- `sheet::scan::lay_out` meets its contract. Assumes nothing.
use Prim.Native.Nat.{◌+◌, ◌*◌, ◌≤◌}
use native.Mathlib.Omega.{arith}
use mathlib.Core.Path.{refl}
use lib.ListN.{length}
use borrow.Author.Rules.{rules}
use Rattle.sheet.proofs.Readings.{heading_inside, run_inside, layout_of_lem}
use Rattle.sheet.proofs.scan.lay_out.Goals as goal

pub count_records-nodes-requires : goal.count_records-nodes-requires
count_records-nodes-requires c =
    let start : c.heading-node0.result ≤ length c.args.sheet.now = omega (arith, c.heading-node0.ensures, heading_inside c.args.sheet.now c.is_record-pressures.result c.requires c.is_record-pressures.ensures) in
    (start, omega arith)

pub overflow_mul-link0 : goal.overflow_mul-link0
overflow_mul-link0 c =
    let start : c.heading-node0.result ≤ length c.args.sheet.now = omega (arith, c.heading-node0.ensures, heading_inside c.args.sheet.now c.is_record-pressures.result c.requires c.is_record-pressures.ensures) in
    let behind : c.heading-node0.result + 45 * c.count_records-nodes.result ≤ length c.args.sheet.now = run_inside c.args.sheet.now 78 68 45 c.heading-node0.result c.count_records-nodes.result start c.count_records-nodes.ensures in
    record { fits = omega (arith, behind) }

pub overflow_add-link0 : goal.overflow_add-link0
overflow_add-link0 c =
    let start : c.heading-node0.result ≤ length c.args.sheet.now = omega (arith, c.heading-node0.ensures, heading_inside c.args.sheet.now c.is_record-pressures.result c.requires c.is_record-pressures.ensures) in
    let behind : c.heading-node0.result + 45 * c.count_records-nodes.result ≤ length c.args.sheet.now = run_inside c.args.sheet.now 78 68 45 c.heading-node0.result c.count_records-nodes.result start c.count_records-nodes.ensures in
    record { fits = omega (arith, behind) }

pub count_records-links-requires : goal.count_records-links-requires
count_records-links-requires c =
    let start : c.heading-node0.result ≤ length c.args.sheet.now = omega (arith, c.heading-node0.ensures, heading_inside c.args.sheet.now c.is_record-pressures.result c.requires c.is_record-pressures.ensures) in
    let behind : c.heading-node0.result + 45 * c.count_records-nodes.result ≤ length c.args.sheet.now = run_inside c.args.sheet.now 78 68 45 c.heading-node0.result c.count_records-nodes.result start c.count_records-nodes.ensures in
    (behind, omega arith)

pub returns : goal.returns
returns c = layout_of_lem _ _ _ _ _ _ c.is_record-pressures.ensures c.heading-node0.ensures c.count_records-nodes.ensures refl c.count_records-links.ensures
