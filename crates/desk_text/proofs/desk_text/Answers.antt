-- `desk_text::desk_text` meets its contract, for any text and any buffers. Assumes nothing.
use Rattle.desk_text.specs.Told.{told_of}
use Rattle.desk_text.proofs.desk_text.Goals as goal

pub returns : goal.returns
unfolding told_of
returns c = rw (← c.from_text-t.ensures, c.counts_of.ensures)
