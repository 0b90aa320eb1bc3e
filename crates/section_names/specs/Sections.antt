-- The sections of a text: which are carried, which are passed over. Definitions only.
use Rattle.std.specs.Prelude.{ℕ, Bool, false, cond, ◌||◌, List, [], ◌∷◌, eqb}
use Rattle.spelled.specs.Texts.{bytes_of}
use Rattle.spelled.specs.Spelled.{spelled_as}
use Rattle.section_names.specs.declared.Section.{Section}
use Rattle.section_names.specs.declared.Section.TheVariants.{Junctions, Reservoirs, Tanks, Pipes, Valves, Status, Options, Passed, Other}

-- "[" is 91
unfoldable pub is_header : List ℕ → Bool
is_header [] = false
is_header (c ∷ cs) = eqb c 91

unfoldable pub passed_over : List ℕ → Bool
passed_over w = spelled_as w (bytes_of "[TITLE]") || spelled_as w (bytes_of "[COORDINATES]") || spelled_as w (bytes_of "[VERTICES]")

unfoldable pub section_of : List ℕ → Section
section_of w =
    cond (spelled_as w (bytes_of "[JUNCTIONS]")) Junctions
    (cond (spelled_as w (bytes_of "[RESERVOIRS]")) Reservoirs
    (cond (spelled_as w (bytes_of "[TANKS]")) Tanks
    (cond (spelled_as w (bytes_of "[PIPES]")) Pipes
    (cond (spelled_as w (bytes_of "[VALVES]")) Valves
    (cond (spelled_as w (bytes_of "[STATUS]")) Status
    (cond (spelled_as w (bytes_of "[OPTIONS]")) Options
    (cond (passed_over w) Passed
    Other)))))))
