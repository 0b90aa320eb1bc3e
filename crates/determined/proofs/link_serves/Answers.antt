-- `determined::link_serves` meets its contract. Assumes nothing.
use mathlib.Core.Path.{sym, subst}
use Prim.Native.Nat.{ℕ, ◌<◌}
use borrow.Author.Rules.{rules}
use Rattle.determined.proofs.Laws.{serves_of}
use Rattle.determined.proofs.link_serves.Goals as goal

pub is_enabled-requires-clause-laid : goal.is_enabled-requires-clause-laid
is_enabled-requires-clause-laid c = c.requires.laid

pub is_enabled-requires-clause-i_lt_nodes : goal.is_enabled-requires-clause-i_lt_nodes
is_enabled-requires-clause-i_lt_nodes c = subst (λ (x : ℕ). x < c.args.l.nodes) (sym c.link_start-start.ensures) (c.requires.ends_in.start _ c.requires.j_lt_links)

pub is_enabled-requires-2-clause-laid : goal.is_enabled-requires-2-clause-laid
is_enabled-requires-2-clause-laid c = c.requires.laid

pub is_enabled-requires-2-clause-i_lt_nodes : goal.is_enabled-requires-2-clause-i_lt_nodes
is_enabled-requires-2-clause-i_lt_nodes c = subst (λ (x : ℕ). x < c.args.l.nodes) (sym c.link_end-end.ensures) (c.requires.ends_in.end _ c.requires.j_lt_links)

pub returns : goal.returns
returns c = serves_of _ _ _ _ _ _ _ c.link_start-start.ensures c.link_end-end.ensures c.is_enabled.ensures c.is_enabled-2.ensures
