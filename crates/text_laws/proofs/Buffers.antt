-- A refused text changes nothing lent, and a taken one nothing behind what is put. Assumes nothing.
use Prim.Native.Nat.{ℕ, ◌+◌, ◌≤◌}
use mathlib.Core.Path.{◌≡◌, refl, ap, ◌∙◌}
use mathlib.Core.Bool.{Bool, true, false, cond, ◌||◌}
use mathlib.Core.List.{List}
use native.Mathlib.Nat.{zero-add}
use native.Mathlib.Omega.{arith}
use lib.Dec.{ltb}
use Rattle.std.specs.Prelude.{⊤, Result, Ok, Err}
use lib.ListN.{length, drop}
use lib.Seq.{drop-append_seam}
use Rattle.words.specs.Buffer.{placed}
use Rattle.words.proofs.Laws.{placed_parts}
use Rattle.known.specs.Known.{Known, survey_of}
use Rattle.known.specs.declared.Refused.{Refused}
use Rattle.text_sheet.specs.Sheet.{sheet_of, names_of}
use Rattle.from_text.specs.FromText.{refused, put_of, after_survey, from_text}
use Rattle.from_text.proofs.Laws.{room_for}
use Rattle.text_laws.specs.TextLaws.{Stays, Lent}

-- what stands behind a text that was put at the start
behind : (out text : List ℕ) → length text ≤ length out → drop (length text) (placed out 0 text) ≡ drop (length text) out
behind out text h =
    ap (drop (length text)) (placed_parts out 0 text (omega arith))
    ∙ drop-append_seam text (drop (0 + length text) out)
    ∙ ap (λ (k : ℕ). drop k out) (zero-add (length text))

-- what is known, put or not
put_stays : (x : Known) (sheet names : List ℕ) → Stays sheet names (put_of x sheet names)
unfolding put_of
put_stays x sheet names = go (ltb (length sheet) (length (sheet_of x)) || ltb (length names) (length (names_of x))) refl
  where
    go : (b : Bool) → (ltb (length sheet) (length (sheet_of x)) || ltb (length names) (length (names_of x))) ≡ b
        → Stays sheet names (cond b (record { taken = refused 5 6; sheet = sheet; names = names })
        (record {
          taken = record { number = 0; place = 0; nodes = length x.nodes; links = length x.links; bytes = length (sheet_of x); names = length (names_of x) };
          sheet = placed sheet 0 (sheet_of x);
          names = placed names 0 (names_of x);
        }))
    go true e = record { refused = λ z. (refl, refl); sheet_behind = λ z. refl; names_behind = λ z. refl }
    go false e =
        let r = room_for x (length sheet) (length names) e in
        record {
          refused = λ z. absurd (z refl);
          sheet_behind = λ z. behind sheet (sheet_of x) r.0;
          names_behind = λ z. behind names (names_of x) r.1;
        }

survey_stays : (v : Result ⊤ Refused) (x : Known) (sheet names : List ℕ) → Stays sheet names (after_survey v x sheet names)
unfolding after_survey
survey_stays (Ok d) x sheet names = put_stays x sheet names
survey_stays (Err r) x sheet names = record { refused = λ z. (refl, refl); sheet_behind = λ z. refl; names_behind = λ z. refl }

pub lent : Lent
unfolding from_text
lent = record { stays = λ t sheet names. survey_stays (survey_of t).told (survey_of t).known sheet names }
