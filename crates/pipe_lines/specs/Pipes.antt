-- The lines of PIPES as the EPANET 2.2 manual lays them out, what each is refused with by its words alone, and what it says. Definitions only.
use Rattle.std.specs.Prelude.{ℕ, Bool, false, cond, not, ◌&&◌, ◌||◌, List, Float, ⊤, Result}
use Rattle.std.specs.Float.{binary64}
use Rattle.std.specs.Float.Ieee.{of_bits}
use Rattle.spelled.specs.Texts.{bytes_of}
use Rattle.line_fields.specs.declared.LineFault.{LineFault}
use Rattle.line_fields.specs.Fields.{has_word, number_at, value_or_zero, keyword_at, fault_of}
use Rattle.first_words.specs.First.{names_good}
use Rattle.pipe_lines.specs.declared.PipeStatus.{PipeStatus}
use Rattle.pipe_lines.specs.declared.PipeStatus.TheVariants.{Closed, Open, Checked}

-- ---- PIPES: 3 length, 4 diameter, 5 roughness; then nothing, a minor loss, a status, or first a minor loss and then a status

unfoldable pub status_at : List (List ℕ) → ℕ → Bool
status_at ws k = keyword_at ws k (bytes_of "OPEN") || keyword_at ws k (bytes_of "CLOSED") || keyword_at ws k (bytes_of "CV")

unfoldable pub pipe_end_good : List (List ℕ) → Bool
pipe_end_good ws = cond (has_word ws 7) (number_at ws 6 && status_at ws 7) (not (has_word ws 6) || status_at ws 6 || number_at ws 6)

unfoldable pub pipe_fault : List (List ℕ) → Result ⊤ LineFault
pipe_fault ws =
    fault_of
    (has_word ws 5 && not (has_word ws 8)
    && names_good ws
    && (number_at ws 3 && number_at ws 4 && number_at ws 5)
    && pipe_end_good ws)
    false

-- ---- what a pipe's line without a fault says

-- the status is the last of the words behind the sixth
unfoldable pub status_place : List (List ℕ) → ℕ
status_place ws = cond {A = ℕ} (has_word ws 7) 7 6

-- open too where there is no status
unfoldable pub pipe_status_of : List (List ℕ) → PipeStatus
pipe_status_of ws = cond (keyword_at ws (status_place ws) (bytes_of "CLOSED")) Closed (cond (keyword_at ws (status_place ws) (bytes_of "CV")) Checked Open)

-- the minor loss, and 0 where there is none
unfoldable pub pipe_loss_of : List (List ℕ) → Float
pipe_loss_of ws = cond (status_at ws 6) (of_bits binary64 0) (value_or_zero ws 6)
