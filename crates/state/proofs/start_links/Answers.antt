-- `state::start_links` meets its contract. Assumes nothing.
use Rattle.state.proofs.Turns.{no_links, next_link}
use Rattle.state.specs.State.{flows_from, codes_from}
use native.Mathlib.Omega.{arith}
use Prim.Native.Nat.{ℕ}
use mathlib.Core.Path.{◌≡◌, ap, ◌∙◌}
use Rattle.state.proofs.start_links.Goals as goal

pub loop-j-init : goal.loop-j-init
loop-j-init c = no_links _ _ _ _

pub link-k-requires-clause-laid : goal.link-k-requires-clause-laid
link-k-requires-clause-laid c = c.requires.laid

pub link-k-requires-clause-j_lt_links : goal.link-k-requires-clause-j_lt_links
link-k-requires-clause-j_lt_links c = c.loop-j-test.true

pub link_status-requires-clause-laid : goal.link_status-requires-clause-laid
link_status-requires-clause-laid c = c.requires.laid

pub link_status-requires-clause-j_lt_links : goal.link_status-requires-clause-j_lt_links
link_status-requires-clause-j_lt_links c = c.loop-j-test.true

pub loop-j-preserved : goal.loop-j-preserved
loop-j-preserved c = next_link _ _ _ _ _ _ _ c.loop-j.invariant c.loop-j-test.true _ _ c.link-k.ensures c.link_status.ensures

pub shape_of-flows : goal.shape_of-flows
shape_of-flows c = c.loop-j.invariant.flows_kept

pub shape_of-statuses : goal.shape_of-statuses
shape_of-statuses c = c.loop-j.invariant.codes_kept

pub returns-clause-flows : goal.returns-clause-flows
returns-clause-flows c =
    let e : c.loop-j.j ≡ c.args.l.links = omega (arith, c.loop-j.invariant.upto, c.loop-j-test.false) in
    c.loop-j.invariant.flows ∙ ap (λ (k : ℕ). flows_from c.args.sheet.now c.args.l k c.args.flows.now) e

pub returns-clause-statuses : goal.returns-clause-statuses
returns-clause-statuses c =
    let e : c.loop-j.j ≡ c.args.l.links = omega (arith, c.loop-j.invariant.upto, c.loop-j-test.false) in
    c.loop-j.invariant.codes ∙ ap (λ (k : ℕ). codes_from c.args.sheet.now c.args.l k c.args.statuses.now) e
