-- The lines of STATUS as the EPANET 2.2 manual lays them out, what each is refused with by its words alone, and what it says. Definitions only.
use Rattle.std.specs.Prelude.{ℕ, Bool, false, cond, not, ◌&&◌, ◌||◌, List, ⊤, Result}
use Rattle.spelled.specs.Texts.{bytes_of}
use Rattle.line_fields.specs.declared.LineFault.{LineFault}
use Rattle.line_fields.specs.Fields.{has_word, name_at, number_at, keyword_at, fault_of}
use Rattle.status_lines.specs.declared.Said.{Said}
use Rattle.status_lines.specs.declared.Said.TheVariants.{Closed, Open, Number}

-- ---- STATUS: 0 the link's name, 1 its status or setting

unfoldable pub status_good : List (List ℕ) → Bool
status_good ws = keyword_at ws 1 (bytes_of "OPEN") || keyword_at ws 1 (bytes_of "CLOSED") || number_at ws 1

unfoldable pub status_fault : List (List ℕ) → Result ⊤ LineFault
status_fault ws = fault_of (has_word ws 1 && not (has_word ws 2) && name_at ws 0 && status_good ws) false

-- a number where it is neither keyword
unfoldable pub said_of : List (List ℕ) → Said
said_of ws = cond (keyword_at ws 1 (bytes_of "CLOSED")) Closed (cond (keyword_at ws 1 (bytes_of "OPEN")) Open Number)
