-- The table of a text's lines that define a name, by their places. Definitions only.
use Rattle.std.specs.Prelude.{ℕ, ◌≤◌, ◌<◌, ◌≡◌, List, length, get_or, set, map}
use Rattle.lines.specs.Lines.{passage}
use Rattle.named_lines.specs.Named.{Named, name_of, words_from}
use Rattle.named_lines.specs.declared.Kind.{Kind}
use Rattle.named_lines.specs.declared.Kind.TheVariants.{Junction}
use Rattle.named_lines.specs.declared.NamedLine.{NamedLine}

unfoldable pub row_of : List ℕ → NamedLine → Named
row_of t r = record { kind = r.kind; words = words_from t r.at; said = words_from t r.settled }

abbrev pub rows_of : List ℕ → List NamedLine → List Named
rows_of t rs = map (row_of t) rs

abbrev pub no_line : NamedLine
no_line = record { at = 0; from = 0; to = 0; kind = Junction; settled = 0 }

-- lent rows with row n put, and with row j settled by the line at a place
unfoldable pub row_put : List NamedLine → ℕ → ℕ → ℕ → ℕ → Kind → List NamedLine
row_put rows n at from to kind = set rows n (record { at = at; from = from; to = to; kind = kind; settled = at })

unfoldable pub row_settled : List NamedLine → ℕ → ℕ → List NamedLine
row_settled rows j at =
    let was = get_or rows j no_line in
    set rows j (record { at = was.at; from = was.from; to = was.to; kind = was.kind; settled = at })

-- every place is one of the text, and the name is where the table has it
pub record Row (t : List ℕ) (r : NamedLine) : Type 0 where
  pub line : r.at ≤ length t
  pub said : r.settled ≤ length t
  pub order : r.from ≤ r.to
  pub within : r.to ≤ length t
  pub name : passage r.from r.to t ≡ name_of (row_of t r)

-- the first n rows are lines of the text
pub record Kept (t : List ℕ) (rows : List NamedLine) (n : ℕ) : Type 0 where
  pub room : n ≤ length rows
  pub row : (i : ℕ) → i < n → Row t (get_or rows i no_line)
