-- `row_sheet::bad_demand` meets its contract: the closure tests what the definition does. Assumes nothing.
use Rattle.std.proofs.Common.{rules, arith, sym, ap}
use Rattle.fields.specs.Fields.{within}
use Rattle.found.proofs.Firsts.{first_is}
use Rattle.row_sheet.specs.RowSheet.{outside, node_found, bad_demand}
use Rattle.row_sheet.proofs.bad_demand.Goals as goal

pub returns-in_err-i : goal.returns-in_err-i
unfolding bad_demand outside within
returns-in_err-i c =
    let found = ap (node_found c.args.l) (c.in_err-i.ensures (outside c.args.l c.args.table.now c.args.r) (λ i b h p. search rules)) in
    search rules

pub node_place-requires : goal.node_place-requires
unfolding outside within
node_place-requires c =
    let found = first_is _ _ _ (sym (c.in_ok-i.ensures (outside c.args.l c.args.table.now c.args.r) (λ i b h p. search rules))) in
    omega (arith, found.below, c.requires.nodes_bound)

pub returns : goal.returns
unfolding bad_demand outside within
returns c =
    let found = ap (node_found c.args.l) (c.in_ok-i.ensures (outside c.args.l c.args.table.now c.args.r) (λ i b h p. search rules)) in
    search rules
