-- The lines of a text that define a name. Definitions only.
use Rattle.std.specs.Prelude.{ℕ, suc, cond, List, [], ◌∷◌, ◌++◌, Option, Some, None, ltb, length, get_or, set}
use Rattle.lines.specs.Lines.{passage, line_at}
use Rattle.line_words.specs.declared.Word.{Word}
use Rattle.line_words.specs.Words.{words_of, word_from}
use Rattle.spelled.specs.Spelled.{same_bytes}
use Rattle.named_lines.specs.declared.Kind.{Kind}
use Rattle.named_lines.specs.declared.Kind.TheVariants.{Junction}

-- ---- what is known of a name: its kind, the words of its own line, and those of the line that settled its status last, which is its own at first

pub record Named : Type 0 where
  pub kind : Kind
  pub words : List (List ℕ)
  pub said : List (List ℕ)

abbrev pub nameless : Named
nameless = record { kind = Junction; words = []; said = [] }

abbrev pub named : Kind → List (List ℕ) → Named
named kind ws = record { kind = kind; words = ws; said = ws }

abbrev pub name_of : Named → List ℕ
name_of x = get_or x.words 0 []

-- the number of the first whose name is w, or how many there are
unfoldable pub position_of : List ℕ → List Named → ℕ
position_of w [] = 0
position_of w (x ∷ xs) = cond {A = ℕ} (same_bytes (name_of x) w) 0 (suc (position_of w xs))

-- the number of the first whose name is w, where there is one
unfoldable pub found_at : List ℕ → List Named → Option ℕ
found_at w xs = cond (ltb (position_of w xs) (length xs)) (Some (position_of w xs)) None

-- number j with its status settled by the words of a line
unfoldable pub settled_by : ℕ → List (List ℕ) → List Named → List Named
settled_by j ws xs = set xs j (record { kind = (get_or xs j nameless).kind; words = (get_or xs j nameless).words; said = ws })

-- ---- a text, how many of its lines may be kept, and those of them that are

pub record Names : Type 0 where
  pub text : List ℕ
  pub room : ℕ
  pub lines : List Named

-- the words of the line that begins at a place of the text
unfoldable pub words_from : List ℕ → ℕ → List (List ℕ)
words_from t at = words_of (passage at (line_at t at).end t)

-- where its first word stands in it
unfoldable pub first_from : List ℕ → ℕ → Word
first_from t at = word_from (passage at (line_at t at).end t) 0

abbrev pub no_names : List ℕ → ℕ → Names
no_names t room = record { text = t; room = room; lines = [] }

unfoldable pub with_line : Names → ℕ → Kind → Names
with_line x at kind = record { text = x.text; room = x.room; lines = x.lines ++ (named kind (words_from x.text at) ∷ []) }

unfoldable pub with_settled : Names → ℕ → ℕ → Names
with_settled x j at = record { text = x.text; room = x.room; lines = settled_by j (words_from x.text at) x.lines }
