-- `named_lines::Table::settle` meets its contract. Assumes nothing.
use Rattle.named_lines.proofs.Laws.{in_text, below, settled_kept, settled_names}
use Rattle.named_lines.specs.Table.{row_settled}
use Rattle.named_lines.proofs.Table.settle.Goals as goal

pub invariant_of-self : goal.invariant_of-self
unfolding row_settled
invariant_of-self c =
    rw (c.settle.ensures) (settled_kept _ _ _ c.self.invariant c.args.j c.args.at (below _ _ _ c.self.invariant _ c.self.view_is _ c.requires.1) (in_text _ _ _ c.self.invariant _ c.self.view_is _ c.requires.0))

pub returns : goal.returns
unfolding row_settled
returns c = rw (c.settle.ensures) (settled_names _ _ _ c.self.invariant _ c.self.view_is c.args.j c.args.at (below _ _ _ c.self.invariant _ c.self.view_is _ c.requires.1))
