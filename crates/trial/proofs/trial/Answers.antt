-- `trial::trial` meets its contract: the calls in their order, put together by one law. Assumes nothing.
use Prim.Native.Nat.{◌≤◌}
use native.Mathlib.Omega.{arith}
use mathlib.Core.Path.{◌≡◌, sym, ap, subst, ◌∙◌}
use mathlib.Core.List.{List}
use lib.ListN.{length}
use lib.Ieee.{Float}
use Rattle.drawing.proofs.Laws.{counting_long}
use borrow.Author.Rules.{rules}
use Rattle.numbering.proofs.Numbers.{at_most}
use Rattle.columns.specs.Columns.{zeros}
use Rattle.columns.proofs.Laws.{zeros_long}
use Rattle.assembly.specs.Assembly.{System, system}
use Rattle.state.specs.State.{State, state}
use Rattle.trial.specs.Trial.{outcome, repair_of, system_of, factors_of}
use Rattle.trial.proofs.Laws.{system_of_lem, trial_stops, trial_steps, factors_left, failing_below, repair_of_lem}
use Rattle.trial.proofs.trial.Goals as goal

all-long : {x : List Float} → x ≡ zeros 4096 → length x ≡ 4096
all-long h = ap length h ∙ zeros_long 4096

pub excess_flows-requires-clause-laid : goal.excess_flows-requires-clause-laid
excess_flows-requires-clause-laid c = c.requires.network.laid

pub excess_flows-requires-clause-ends_in : goal.excess_flows-requires-clause-ends_in
excess_flows-requires-clause-ends_in c = c.requires.network.ends

pub excess_flows-requires-clause-nodes_in_bounds : goal.excess_flows-requires-clause-nodes_in_bounds
excess_flows-requires-clause-nodes_in_bounds c = (
  subst (λ (x : List Float). c.args.l.nodes ≤ length x) (sym c.counts-counted.ensures) (counting_long _ _ _ _ c.requires.room.drawn c.requires.room.demands),
  omega (arith, c.requires.network.nodes, c.requires.room.flows),
)

pub assemble-requires-clause-given : goal.assemble-requires-clause-given
assemble-requires-clause-given c =
    record {
      laid = c.requires.network.laid;
      few = c.requires.network.nodes;
      links = c.requires.network.links;
      numbers = c.requires.nodes_in_bounds.0;
      heads = c.requires.room.heads;
      excess = omega (arith, c.requires.network.nodes, c.excess_flows.auto);
      flows = c.requires.room.flows;
      statuses = c.requires.room.statuses;
      ends = c.requires.network.ends;
      rows = c.requires.nodes_in_bounds.1;
    }

pub assemble-requires-clause-sized : goal.assemble-requires-clause-sized
assemble-requires-clause-sized c =
    record { matrix = all-long c.requires.scratch_value; rhs = omega arith; g = omega (arith, c.requires.network.links); y = omega (arith, c.requires.network.links) }

pub assemble-requires-clause-matrix_value : goal.assemble-requires-clause-matrix_value
assemble-requires-clause-matrix_value c = c.requires.scratch_value

pub assemble-requires-clause-nodes_in_bounds : goal.assemble-requires-clause-nodes_in_bounds
assemble-requires-clause-nodes_in_bounds c = (c.requires.room.demands, (c.requires.room.drawn, c.requires.room.grounded))

pub factor-requires : goal.factor-requires
factor-requires c =
    let few : c.args.l.unknowns ≤ 64 = omega (arith, c.requires.network.nodes, c.requires.network.unknowns, at_most c.args.sheet.now c.args.l c.args.l.nodes) in
    let long : length c.args.scratch.now ≡ 4096 = all-long c.requires.scratch_value in
    omega (arith, few, long, c.assemble.auto)

pub node_of-node-requires-clause-nodes_in_bounds : goal.node_of-node-requires-clause-nodes_in_bounds
node_of-node-requires-clause-nodes_in_bounds c =
    (c.requires.nodes_in_bounds).0

pub node_of-node-requires-clause-rows_right : goal.node_of-node-requires-clause-rows_right
node_of-node-requires-clause-rows_right c =
    (c.requires.nodes_in_bounds).1

pub repair-requires-clause-laid : goal.repair-requires-clause-laid
repair-requires-clause-laid c =
    let below = failing_below c.args.sheet.now c.args.l _ _ _ _ c.requires.network.unknowns c.factor.ensures.answer c.in-Err.is c.node_of-node.ensures in
    c.requires.network.laid

pub repair-requires-clause-links_at : goal.repair-requires-clause-links_at
repair-requires-clause-links_at c =
    let below = failing_below c.args.sheet.now c.args.l _ _ _ _ c.requires.network.unknowns c.factor.ensures.answer c.in-Err.is c.node_of-node.ensures in
    c.requires.links_at

pub repair-requires-clause-node_lt_nodes : goal.repair-requires-clause-node_lt_nodes
repair-requires-clause-node_lt_nodes c =
    let below = failing_below c.args.sheet.now c.args.l _ _ _ _ c.requires.network.unknowns c.factor.ensures.answer c.in-Err.is c.node_of-node.ensures in
    (below, (c.requires.room.statuses, omega (arith, c.requires.room.grounded, below)))

pub substitute-requires : goal.substitute-requires
substitute-requires c =
    let few : c.args.l.unknowns ≤ 64 = omega (arith, c.requires.network.nodes, c.requires.network.unknowns, at_most c.args.sheet.now c.args.l c.args.l.nodes) in
    let long : length c.args.scratch.now ≡ 4096 = all-long c.requires.scratch_value in
    omega (arith, few, long, c.assemble.auto, c.factor.auto.a)

pub step-requires-clause-network : goal.step-requires-clause-network
step-requires-clause-network c = c.requires.network

pub step-requires-clause-links_at : goal.step-requires-clause-links_at
step-requires-clause-links_at c = c.requires.links_at

pub step-requires-clause-nodes_in_bounds : goal.step-requires-clause-nodes_in_bounds
step-requires-clause-nodes_in_bounds c = c.requires.nodes_in_bounds

pub step-requires-clause-links_in_bounds : goal.step-requires-clause-links_in_bounds
step-requires-clause-links_in_bounds c = omega (arith, c.requires.network.links, c.assemble.auto, c.substitute.auto.x)

pub step-requires-clause-room : goal.step-requires-clause-room
step-requires-clause-room c = c.requires.room

pub returns-in-Err-clause-state : goal.returns-in-Err-clause-state
unfolding zeros
returns-in-Err-clause-state c =
    let filled : System = system c.assemble.new.matrix c.assemble.new.rhs c.assemble.new.g c.assemble.new.y in
    let was : State = state c.args.heads.now c.args.demands.now c.args.drawn.now c.args.flows.now c.args.statuses.now c.args.grounded.now in
    let long : length c.args.scratch.now ≡ 4096 = all-long c.requires.scratch_value in
    let assembled : filled ≡ system_of c.args.sheet.now c.args.l was = system_of_lem c.args.sheet.now c.args.l was c.args.scratch.now _ c.excess_flows.new.excess filled.matrix filled.rhs filled.g filled.y (long) c.counts-counted.ensures c.excess_flows.ensures c.assemble.ensures in
    let factors : c.factor.new.a ≡ factors_of c.args.sheet.now c.args.l was = factors_left c.args.sheet.now c.args.l was filled.matrix filled.rhs filled.g filled.y c.factor.new.a assembled c.factor.ensures.matrix in
    let m = filled in
    trial_stops repair_of c.args.sheet.now c.args.l c.args.d was m.matrix m.rhs m.g m.y c.factor.new.a c.factor.result (outcome c.repair.result (state c.args.heads.now c.args.demands.now c.args.drawn.now c.args.flows.now c.repair.new.statuses c.repair.new.grounded)) assembled c.factor.ensures.matrix c.factor.ensures.answer _ c.in-Err.is (repair_of_lem c.args.sheet.now c.args.l was _ _ c.repair.result c.repair.new.statuses c.repair.new.grounded c.node_of-node.ensures c.repair.ensures)

pub returns-in-Err-clause-factors : goal.returns-in-Err-clause-factors
unfolding zeros
returns-in-Err-clause-factors c =
    let filled : System = system c.assemble.new.matrix c.assemble.new.rhs c.assemble.new.g c.assemble.new.y in
    let was : State = state c.args.heads.now c.args.demands.now c.args.drawn.now c.args.flows.now c.args.statuses.now c.args.grounded.now in
    let long : length c.args.scratch.now ≡ 4096 = all-long c.requires.scratch_value in
    let assembled : filled ≡ system_of c.args.sheet.now c.args.l was = system_of_lem c.args.sheet.now c.args.l was c.args.scratch.now _ c.excess_flows.new.excess filled.matrix filled.rhs filled.g filled.y (long) c.counts-counted.ensures c.excess_flows.ensures c.assemble.ensures in
    let factors : c.factor.new.a ≡ factors_of c.args.sheet.now c.args.l was = factors_left c.args.sheet.now c.args.l was filled.matrix filled.rhs filled.g filled.y c.factor.new.a assembled c.factor.ensures.matrix in
    let m = filled in
    factors

pub shape_of-scratch-in-Ok : goal.shape_of-scratch-in-Ok
shape_of-scratch-in-Ok c = c.factor.auto.a ∙ c.assemble.auto.matrix

pub returns-in-Ok-clause-state : goal.returns-in-Ok-clause-state
unfolding zeros
returns-in-Ok-clause-state c =
    let filled : System = system c.assemble.new.matrix c.assemble.new.rhs c.assemble.new.g c.assemble.new.y in
    let was : State = state c.args.heads.now c.args.demands.now c.args.drawn.now c.args.flows.now c.args.statuses.now c.args.grounded.now in
    let long : length c.args.scratch.now ≡ 4096 = all-long c.requires.scratch_value in
    let assembled : filled ≡ system_of c.args.sheet.now c.args.l was = system_of_lem c.args.sheet.now c.args.l was c.args.scratch.now _ c.excess_flows.new.excess filled.matrix filled.rhs filled.g filled.y (long) c.counts-counted.ensures c.excess_flows.ensures c.assemble.ensures in
    let factors : c.factor.new.a ≡ factors_of c.args.sheet.now c.args.l was = factors_left c.args.sheet.now c.args.l was filled.matrix filled.rhs filled.g filled.y c.factor.new.a assembled c.factor.ensures.matrix in
    let m = filled in
    trial_steps repair_of c.args.sheet.now c.args.l c.args.d was m.matrix m.rhs m.g m.y c.factor.new.a c.factor.result (outcome c.step.result (state c.step.new.heads c.step.new.demands c.step.new.drawn c.step.new.flows c.step.new.statuses c.args.grounded.now)) assembled c.factor.ensures.matrix c.factor.ensures.answer _ c.in-Ok.is c.substitute.ensures c.step.ensures

pub returns-in-Ok-clause-factors : goal.returns-in-Ok-clause-factors
unfolding zeros
returns-in-Ok-clause-factors c =
    let filled : System = system c.assemble.new.matrix c.assemble.new.rhs c.assemble.new.g c.assemble.new.y in
    let was : State = state c.args.heads.now c.args.demands.now c.args.drawn.now c.args.flows.now c.args.statuses.now c.args.grounded.now in
    let long : length c.args.scratch.now ≡ 4096 = all-long c.requires.scratch_value in
    let assembled : filled ≡ system_of c.args.sheet.now c.args.l was = system_of_lem c.args.sheet.now c.args.l was c.args.scratch.now _ c.excess_flows.new.excess filled.matrix filled.rhs filled.g filled.y (long) c.counts-counted.ensures c.excess_flows.ensures c.assemble.ensures in
    let factors : c.factor.new.a ≡ factors_of c.args.sheet.now c.args.l was = factors_left c.args.sheet.now c.args.l was filled.matrix filled.rhs filled.g filled.y c.factor.new.a assembled c.factor.ensures.matrix in
    let m = filled in
    factors
