-- `from_text::names_fit` meets its contract. Assumes nothing.
use Rattle.std.proofs.Common.{sym, ap, ◌∙◌, leb, length}
use Rattle.std.specs.Option.{is_some}
use Rattle.known.specs.Known.{Reading}
use Rattle.known.specs.Knowledge.{reading}
use Rattle.text_sheet.specs.Sheet.{names_of}
use Rattle.text_sheet.proofs.Sizes.{nodes_over, links_fit}
use Rattle.from_text.proofs.names_fit.Goals as goal

pub returns-in-Some : goal.returns-in-Some
returns-in-Some c =
    c.is_some.ensures
    ∙ ap is_some c.room_behind-in-Some.ensures
    ∙ links_fit (reading c.known.inside).known c.args.room c.in-Some.left (sym c.room_behind.ensures ∙ c.in-Some.is)
    ∙ ap (λ (y : Reading). leb (length (names_of y.known)) c.args.room) c.known.view_is

pub returns-in-None : goal.returns-in-None
returns-in-None c =
    nodes_over (reading c.known.inside).known c.args.room (sym c.room_behind.ensures ∙ c.in-None.is)
    ∙ ap (λ (y : Reading). leb (length (names_of y.known)) c.args.room) c.known.view_is
