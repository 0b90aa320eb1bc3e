-- The lines of JUNCTIONS, RESERVOIRS and TANKS as the EPANET 2.2 manual lays them out, and what each is refused with by its words alone. Definitions only.
use Rattle.std.specs.Prelude.{ℕ, Bool, not, ◌&&◌, ◌||◌, List, ⊤, Result}
use Rattle.spelled.specs.Texts.{bytes_of}
use Rattle.line_fields.specs.declared.LineFault.{LineFault}
use Rattle.line_fields.specs.Fields.{has_word, name_at, number_at, number_or_none, keyword_at, fault_of}

-- A pattern and a curve are not carried, so that each is a name that is not known: 11, and 10 where it is too long for a name.

-- 0 name, 1 elevation, 2 base demand or none, 3 pattern or none
unfoldable pub junction_fault : List (List ℕ) → Result ⊤ LineFault
junction_fault ws = fault_of (has_word ws 1 && not (has_word ws 4) && name_at ws 0 && number_at ws 1 && number_or_none ws 2 && name_at ws 3) (has_word ws 3)

-- 0 name, 1 head, 2 pattern or none
unfoldable pub reservoir_fault : List (List ℕ) → Result ⊤ LineFault
reservoir_fault ws = fault_of (has_word ws 1 && not (has_word ws 3) && name_at ws 0 && number_at ws 1 && name_at ws 2) (has_word ws 2)

-- 0 name, 1 elevation, 2 initial level, 3 min level, 4 max level, 5 diameter, 6 smallest volume, 7 volume curve, a star or none, 8 overflow or none
unfoldable pub tank_numbers : List (List ℕ) → Bool
tank_numbers ws = number_at ws 1 && number_at ws 2 && number_at ws 3 && number_at ws 4 && number_at ws 5 && number_at ws 6

unfoldable pub overflow_good : List (List ℕ) → Bool
overflow_good ws = not (has_word ws 8) || keyword_at ws 8 (bytes_of "YES") || keyword_at ws 8 (bytes_of "NO")

unfoldable pub tank_fault : List (List ℕ) → Result ⊤ LineFault
tank_fault ws = fault_of (has_word ws 6 && not (has_word ws 9) && name_at ws 0 && tank_numbers ws && name_at ws 7 && overflow_good ws) (has_word ws 7 && not (keyword_at ws 7 (bytes_of "*")))
