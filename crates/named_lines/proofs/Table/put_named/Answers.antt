-- `named_lines::Table::put_named` meets its contract. Assumes nothing.
use Rattle.std.proofs.Common.{arith, refl}
use Rattle.named_lines.proofs.Laws.{in_text, first_in, has_room, name_in_text, row_there, put_kept, put_names}
use Rattle.named_lines.specs.Table.{row_put}
use Rattle.named_lines.proofs.Table.put_named.Goals as goal

pub overflow_add-at : goal.overflow_add-at
overflow_add-at c =
    let at = in_text _ _ _ c.self.invariant _ c.self.view_is _ c.requires.room.0 in
    let name = first_in _ _ _ c.self.invariant _ c.self.view_is _ _ c.requires.name in
    omega (arith, (row_there _ _ at _ refl _ name c.args.kind).order, name_in_text _ _ at _ refl _ name, c.self.told)

pub overflow_add-at-2 : goal.overflow_add-at-2
overflow_add-at-2 c =
    let at = in_text _ _ _ c.self.invariant _ c.self.view_is _ c.requires.room.0 in
    let name = first_in _ _ _ c.self.invariant _ c.self.view_is _ _ c.requires.name in
    omega (arith, name_in_text _ _ at _ refl _ name, c.self.told)

pub put_row-requires : goal.put_row-requires
put_row-requires c = has_room _ _ _ c.self.invariant _ c.self.view_is c.requires.room.1

pub invariant_of-self : goal.invariant_of-self
unfolding row_put
invariant_of-self c =
    let at = in_text _ _ _ c.self.invariant _ c.self.view_is _ c.requires.room.0 in
    let name = first_in _ _ _ c.self.invariant _ c.self.view_is _ _ c.requires.name in
    rw (c.put_row.ensures) (put_kept _ _ _ c.self.invariant _ (has_room _ _ _ c.self.invariant _ c.self.view_is c.requires.room.1) (row_there _ _ at _ refl _ name c.args.kind))

pub returns : goal.returns
unfolding row_put
returns c = rw (c.put_row.ensures) (put_names _ _ _ c.self.invariant _ c.self.view_is c.args.at c.args.kind _ _ (has_room _ _ _ c.self.invariant _ c.self.view_is c.requires.room.1))
