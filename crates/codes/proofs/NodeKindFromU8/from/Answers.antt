-- `codes::NodeKindFromU8::from` gives what it says. Assumes nothing.
use Prim.Native.Nat.{zero-le}
use mathlib.Core.Path.{sym}
use Rattle.codes.specs.Codes.{node_kinds, node_kind_of}
use Rattle.codes.proofs.Laws.{past, not_at}
use Rattle.codes.proofs.NodeKindFromU8.from.Goals as goal

pub returns-in_default : goal.returns-in_default
unfolding node_kind_of
returns-in_default c = sym (past node_kinds c.args.code _ (not_at (not_at zero-le c.in_default.in_default-own.rest.0.1) c.in_default.in_default-own.rest.1))
