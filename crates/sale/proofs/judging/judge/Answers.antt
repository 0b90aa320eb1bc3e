-- `sale::judging::judge` meets its contract: the lines before the one that holds found nothing. Assumes nothing.
use Rattle.std.proofs.Common.{sym, ◌∙◌}
use Rattle.columns.specs.Columns.{zeros}
use Rattle.sale.proofs.Laws.{line_2, line_3, line_4, line_5, line_6, line_7, line_8, no_line, unbalanced_told, unsettled_told}
use Rattle.sale.proofs.judging.judge.Goals as goal

pub returns-in-Some : goal.returns-in-Some
returns-in-Some c =
    line_2 c.args.sheet.now c.args.l c.args.limits c.args.trials c.args.heads.now c.args.demands.now c.args.flows.now c.args.statuses.now c.args.entries.now _ _
    (sym c.repair_shown.ensures ∙ c.in-Some.is)
    c.holds.ensures

pub returns-in-Some-undetermined : goal.returns-in-Some-undetermined
returns-in-Some-undetermined c =
    line_3 c.args.sheet.now c.args.l c.args.limits c.args.trials c.args.heads.now c.args.demands.now c.args.flows.now c.args.statuses.now c.args.entries.now _ _
    (sym c.repair_shown.ensures ∙ c.in_default.is)
    (sym c.undetermined.ensures ∙ c.in-Some-undetermined.is)
    c.holds-in-Some-undetermined.ensures

pub returns-in-Some-unbalanced : goal.returns-in-Some-unbalanced
unfolding zeros
returns-in-Some-unbalanced c =
    line_4 c.args.sheet.now c.args.l c.args.limits c.args.trials c.args.heads.now c.args.demands.now c.args.flows.now c.args.statuses.now c.args.entries.now _ _
    (sym c.repair_shown.ensures ∙ c.in_default.is)
    (sym c.undetermined.ensures ∙ c.in_default-undetermined.is)
    (unbalanced_told c.args.sheet.now c.args.l c.args.limits c.args.heads.now c.args.demands.now c.args.flows.now c.args.statuses.now _ _ c.in-Some-unbalanced.is _ c.imbalance.ensures c.unbalanced.ensures)
    c.holds-in-Some-unbalanced.ensures

pub returns-in-Some-unsettled : goal.returns-in-Some-unsettled
unfolding zeros
returns-in-Some-unsettled c =
    line_5 c.args.sheet.now c.args.l c.args.limits c.args.trials c.args.heads.now c.args.demands.now c.args.flows.now c.args.statuses.now c.args.entries.now _ _
    (sym c.repair_shown.ensures ∙ c.in_default.is)
    (sym c.undetermined.ensures ∙ c.in_default-undetermined.is)
    (unbalanced_told c.args.sheet.now c.args.l c.args.limits c.args.heads.now c.args.demands.now c.args.flows.now c.args.statuses.now _ _ c.in_default-unbalanced.is _ c.imbalance.ensures c.unbalanced.ensures)
    (unsettled_told c.args.sheet.now c.args.l c.args.limits c.args.heads.now c.args.demands.now c.args.flows.now c.args.statuses.now _ _ c.in-Some-unsettled.is _ c.excess_flows.ensures c.unsettled.ensures)
    c.holds-in-Some-unsettled.ensures

pub returns-in-Some-unheld : goal.returns-in-Some-unheld
unfolding zeros
returns-in-Some-unheld c =
    line_6 c.args.sheet.now c.args.l c.args.limits c.args.trials c.args.heads.now c.args.demands.now c.args.flows.now c.args.statuses.now c.args.entries.now _ _
    (sym c.repair_shown.ensures ∙ c.in_default.is)
    (sym c.undetermined.ensures ∙ c.in_default-undetermined.is)
    (unbalanced_told c.args.sheet.now c.args.l c.args.limits c.args.heads.now c.args.demands.now c.args.flows.now c.args.statuses.now _ _ c.in_default-unbalanced.is _ c.imbalance.ensures c.unbalanced.ensures)
    (unsettled_told c.args.sheet.now c.args.l c.args.limits c.args.heads.now c.args.demands.now c.args.flows.now c.args.statuses.now _ _ c.in_default-unsettled.is _ c.excess_flows.ensures c.unsettled.ensures)
    (sym c.unheld.ensures ∙ c.in-Some-unheld.is)
    c.holds-in-Some-unheld.ensures

pub returns-in-Some-ill_drawn : goal.returns-in-Some-ill_drawn
unfolding zeros
returns-in-Some-ill_drawn c =
    line_7 c.args.sheet.now c.args.l c.args.limits c.args.trials c.args.heads.now c.args.demands.now c.args.flows.now c.args.statuses.now c.args.entries.now _ _
    (sym c.repair_shown.ensures ∙ c.in_default.is)
    (sym c.undetermined.ensures ∙ c.in_default-undetermined.is)
    (unbalanced_told c.args.sheet.now c.args.l c.args.limits c.args.heads.now c.args.demands.now c.args.flows.now c.args.statuses.now _ _ c.in_default-unbalanced.is _ c.imbalance.ensures c.unbalanced.ensures)
    (unsettled_told c.args.sheet.now c.args.l c.args.limits c.args.heads.now c.args.demands.now c.args.flows.now c.args.statuses.now _ _ c.in_default-unsettled.is _ c.excess_flows.ensures c.unsettled.ensures)
    (sym c.unheld.ensures ∙ c.in_default-unheld.is)
    (sym c.ill_drawn.ensures ∙ c.in-Some-ill_drawn.is)
    c.holds-in-Some-ill_drawn.ensures

pub returns-in-Some-low : goal.returns-in-Some-low
unfolding zeros
returns-in-Some-low c =
    line_8 c.args.sheet.now c.args.l c.args.limits c.args.trials c.args.heads.now c.args.demands.now c.args.flows.now c.args.statuses.now c.args.entries.now _ _
    (sym c.repair_shown.ensures ∙ c.in_default.is)
    (sym c.undetermined.ensures ∙ c.in_default-undetermined.is)
    (unbalanced_told c.args.sheet.now c.args.l c.args.limits c.args.heads.now c.args.demands.now c.args.flows.now c.args.statuses.now _ _ c.in_default-unbalanced.is _ c.imbalance.ensures c.unbalanced.ensures)
    (unsettled_told c.args.sheet.now c.args.l c.args.limits c.args.heads.now c.args.demands.now c.args.flows.now c.args.statuses.now _ _ c.in_default-unsettled.is _ c.excess_flows.ensures c.unsettled.ensures)
    (sym c.unheld.ensures ∙ c.in_default-unheld.is)
    (sym c.ill_drawn.ensures ∙ c.in_default-ill_drawn.is)
    (sym c.low.ensures ∙ c.in-Some-low.is)
    c.holds-in-Some-low.ensures

pub returns : goal.returns
unfolding zeros
returns c =
    no_line c.args.sheet.now c.args.l c.args.limits c.args.trials c.args.heads.now c.args.demands.now c.args.flows.now c.args.statuses.now c.args.entries.now _ 0
    (sym c.repair_shown.ensures ∙ c.in_default.is)
    (sym c.undetermined.ensures ∙ c.in_default-undetermined.is)
    (unbalanced_told c.args.sheet.now c.args.l c.args.limits c.args.heads.now c.args.demands.now c.args.flows.now c.args.statuses.now _ _ c.in_default-unbalanced.is _ c.imbalance.ensures c.unbalanced.ensures)
    (unsettled_told c.args.sheet.now c.args.l c.args.limits c.args.heads.now c.args.demands.now c.args.flows.now c.args.statuses.now _ _ c.in_default-unsettled.is _ c.excess_flows.ensures c.unsettled.ensures)
    (sym c.unheld.ensures ∙ c.in_default-unheld.is)
    (sym c.ill_drawn.ensures ∙ c.in_default-ill_drawn.is)
    (sym c.low.ensures ∙ c.in_default-low.is)
    c.holds-2.ensures
