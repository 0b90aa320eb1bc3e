-- `held_heads::holds` meets its contract. Assumes nothing.
use mathlib.Core.Path.{◌≡◌, sym, subst}
use Prim.Native.Nat.{ℕ, ◌<◌}
use Rattle.held_heads.proofs.Laws.{holds_of}
use Rattle.codes.specs.Codes.{status_code}
use Rattle.held_heads.proofs.holds.Goals as goal

pub is_enabled-requires-clause-laid : goal.is_enabled-requires-clause-laid
is_enabled-requires-clause-laid c = c.requires.laid

pub is_enabled-requires-clause-i_lt_nodes : goal.is_enabled-requires-clause-i_lt_nodes
is_enabled-requires-clause-i_lt_nodes c = subst (λ (k : ℕ). k < c.args.l.nodes) (sym c.link_start-start.ensures) (c.requires.ends_in.start _ c.requires.j_lt_links.0)

pub is_enabled-requires-2-clause-laid : goal.is_enabled-requires-2-clause-laid
is_enabled-requires-2-clause-laid c = c.requires.laid

pub is_enabled-requires-2-clause-i_lt_nodes : goal.is_enabled-requires-2-clause-i_lt_nodes
is_enabled-requires-2-clause-i_lt_nodes c = subst (λ (k : ℕ). k < c.args.l.nodes) (sym c.link_end-end.ensures) (c.requires.ends_in.end _ c.requires.j_lt_links.0)

pub returns : goal.returns
unfolding status_code
returns c =
    let active : c.from.result ≡ 2 = c.from.ensures in
    rw active (holds_of _ _ _ _ _ _ _ _ _ c.link_start-start.ensures c.link_end-end.ensures c.is_enabled.ensures c.is_enabled-2.ensures c.is_regulator.ensures)
