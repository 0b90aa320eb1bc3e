-- `balance::total_supply` meets its contract. Assumes nothing.
use Rattle.balance.specs.Balance.{supply_of}
use Rattle.balance.proofs.Turns.{no_supply, next_supply}
use native.Mathlib.Omega.{arith}
use Prim.Native.Nat.{ℕ, ◌-◌, ◌≤◌, ◌<◌}
use mathlib.Core.Path.{◌≡◌, sym, ap, subst, ◌∙◌}
use Rattle.balance.proofs.total_supply.Goals as goal

pub loop-j-init : goal.loop-j-init
loop-j-init c = (omega arith, no_supply _ _ _)

pub link_start-start-requires-clause-laid : goal.link_start-start-requires-clause-laid
link_start-start-requires-clause-laid c = c.requires.laid

pub link_start-start-requires-clause-j_lt_links : goal.link_start-start-requires-clause-j_lt_links
link_start-start-requires-clause-j_lt_links c = c.loop-j-test.true

pub link_end-end-requires-clause-laid : goal.link_end-end-requires-clause-laid
link_end-end-requires-clause-laid c = c.requires.laid

pub link_end-end-requires-clause-j_lt_links : goal.link_end-end-requires-clause-j_lt_links
link_end-end-requires-clause-j_lt_links c = c.loop-j-test.true

pub is_fixed-fixed_start-requires-clause-laid : goal.is_fixed-fixed_start-requires-clause-laid
is_fixed-fixed_start-requires-clause-laid c = c.requires.laid

pub is_fixed-fixed_start-requires-clause-i_lt_nodes : goal.is_fixed-fixed_start-requires-clause-i_lt_nodes
is_fixed-fixed_start-requires-clause-i_lt_nodes c = subst (λ (k : ℕ). k < c.args.l.nodes) (sym c.link_start-start.ensures) (c.requires.ends_in.start _ c.loop-j-test.true)

pub is_fixed-fixed_end-requires-clause-laid : goal.is_fixed-fixed_end-requires-clause-laid
is_fixed-fixed_end-requires-clause-laid c = c.requires.laid

pub is_fixed-fixed_end-requires-clause-i_lt_nodes : goal.is_fixed-fixed_end-requires-clause-i_lt_nodes
is_fixed-fixed_end-requires-clause-i_lt_nodes c = subst (λ (k : ℕ). k < c.args.l.nodes) (sym c.link_end-end.ensures) (c.requires.ends_in.end _ c.loop-j-test.true)

pub supplied-supply-requires : goal.supplied-supply-requires
supplied-supply-requires c = tt

pub loop-j-preserved : goal.loop-j-preserved
loop-j-preserved c = (omega (arith, c.loop-j-test.true), next_supply _ _ _ _ _ _ _ _ _ _ c.link_start-start.ensures c.link_end-end.ensures c.is_fixed-fixed_start.ensures c.is_fixed-fixed_end.ensures c.loop-j.invariant.1 c.supplied-supply.ensures)

pub returns : goal.returns
returns c =
    let e : c.loop-j.j ≡ c.args.l.links = omega (arith, c.loop-j.invariant.0, c.loop-j-test.false) in
    c.loop-j.invariant.1 ∙ ap (supply_of c.args.sheet.now c.args.l c.args.flows.now) e
