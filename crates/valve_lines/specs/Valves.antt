-- The lines of VALVES as the EPANET 2.2 manual lays them out, what each is refused with by its words alone, and its kind. Definitions only.
use Rattle.std.specs.Prelude.{ℕ, Bool, not, ◌&&◌, ◌||◌, List, [], ◌∷◌, ⊤, Result}
use Rattle.codes.specs.declared.LinkKind.{LinkKind}
use Rattle.codes.specs.declared.LinkKind.TheVariants.{Prv, Psv, Pbv, Fcv, Tcv, Pcv}
use Rattle.spelled.specs.Texts.{bytes_of}
use Rattle.line_fields.specs.declared.LineFault.{LineFault}
use Rattle.line_fields.specs.Fields.{has_word, name_at, number_at, keyword_at, fault_of, first_of}
use Rattle.first_words.specs.First.{names_good}

-- ---- VALVES: 3 diameter, 4 type, 5 setting, 6 minor loss. The setting of a GPV is the name of a curve, and no curve is carried.

unfoldable pub by_number : List (List ℕ) → Bool
by_number ws =
    (keyword_at ws 4 (bytes_of "PRV") || keyword_at ws 4 (bytes_of "PSV") || keyword_at ws 4 (bytes_of "PBV") || keyword_at ws 4 (bytes_of "FCV") || keyword_at ws 4 (bytes_of "TCV"))
    && number_at ws 5

unfoldable pub by_curve : List (List ℕ) → Bool
by_curve ws = keyword_at ws 4 (bytes_of "GPV") && name_at ws 5

unfoldable pub valve_fault : List (List ℕ) → Result ⊤ LineFault
valve_fault ws =
    fault_of
    (has_word ws 6 && not (has_word ws 7)
    && names_good ws
    && (number_at ws 3 && number_at ws 6)
    && (by_number ws || by_curve ws))
    (by_curve ws)

unfoldable pub valve_kinds : List (List ℕ) → List (Bool × LinkKind)
valve_kinds ws =
    (keyword_at ws 4 (bytes_of "PRV"), Prv)
    ∷ (keyword_at ws 4 (bytes_of "PSV"), Psv)
    ∷ (keyword_at ws 4 (bytes_of "PBV"), Pbv)
    ∷ (keyword_at ws 4 (bytes_of "FCV"), Fcv)
    ∷ (keyword_at ws 4 (bytes_of "TCV"), Tcv)
    ∷ []

-- PCV for every other word
unfoldable pub valve_kind_of : List (List ℕ) → LinkKind
valve_kind_of ws = first_of (valve_kinds ws) Pcv
