-- An EPANET text made into a sheet and a list of names (document 02, [1]): its answer, and what is lent afterwards. Definitions only.
use Rattle.std.specs.Prelude.{ℕ, cond, ◌||◌, List, ⊤, Result, Ok, Err, ltb, length}
use Rattle.words.specs.Buffer.{placed}
use Rattle.known.specs.Known.{Known, survey_of}
use Rattle.known.specs.declared.Refused.{Refused}
use Rattle.line_fields.specs.Fields.{number_of}
use Rattle.text_sheet.specs.Sheet.{sheet_of, names_of}
use Rattle.from_text.specs.declared.Taken.{Taken}

-- what is told, and the two lent buffers
pub record FromText : Type 0 where
  pub taken : Taken
  pub sheet : List ℕ
  pub names : List ℕ

abbrev pub refused : ℕ → ℕ → Taken
refused number place = record { number = number; place = place; nodes = 0; links = 0; bytes = 0; names = 0 }

-- 5 at 6 where the sheet or the list of names is too short; else both are put at the start of their buffers
unfoldable pub put_of : Known → List ℕ → List ℕ → FromText
put_of x sheet names =
    cond (ltb (length sheet) (length (sheet_of x)) || ltb (length names) (length (names_of x)))
    (record { taken = refused 5 6; sheet = sheet; names = names })
    (record {
      taken = record { number = 0; place = 0; nodes = length x.nodes; links = length x.links; bytes = length (sheet_of x); names = length (names_of x) };
      sheet = placed sheet 0 (sheet_of x);
      names = placed names 0 (names_of x);
    })

-- a line that is refused, with its number
unfoldable pub after_survey : Result ⊤ Refused → Known → List ℕ → List ℕ → FromText
unfolding put_of
after_survey (Ok d) x sheet names = put_of x sheet names
after_survey (Err r) x sheet names = record { taken = refused (number_of r.fault) r.line; sheet = sheet; names = names }

-- the first line that is refused, with 10, 11 or 12; then 5; else the sheet and the names
unfoldable pub from_text : List ℕ → List ℕ → List ℕ → FromText
unfolding after_survey
from_text t sheet names = after_survey (survey_of t).told (survey_of t).known sheet names
