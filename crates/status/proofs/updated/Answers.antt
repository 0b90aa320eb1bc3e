-- `status::updated` meets its contract. Assumes nothing.
use mathlib.Core.Path.{◌≡◌, refl}
use mathlib.Core.List.{[], ◌∷◌}
use Rattle.status.specs.Rules.{updated_of}
use Rattle.codes.specs.Codes.{link_kind_of}
use Rattle.codes.specs.declared.LinkKind.{LinkKind}
use Rattle.status.proofs.Cases.{of_kind}
use borrow.Author.Rules.{rules}
use Rattle.status.proofs.updated.Goals as goal
use Rattle.std.specs.Prelude.{None}

pub returns-in-Pipe : goal.returns-in-Pipe
unfolding updated_of
returns-in-Pipe c = simp (c.pipe_status.ensures, c.in-Pipe.is)

pub returns-in-Prv : goal.returns-in-Prv
unfolding updated_of
returns-in-Prv c = simp (c.prv_status.ensures, c.in-Prv.is)

pub returns-in-Psv : goal.returns-in-Psv
unfolding updated_of
returns-in-Psv c = simp (c.psv_status.ensures, c.in-Psv.is)

pub returns-in_default : goal.returns-in_default
unfolding updated_of link_kind_of
returns-in_default c = search rules
