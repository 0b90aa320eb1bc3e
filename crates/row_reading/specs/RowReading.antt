-- What a good sheet reads as once a row of demands stands in it: only a demand can have become bad. Definitions only.
use Rattle.std.specs.Prelude.{ℕ, ◌≡◌, List, T, get_or, Float, Ok, Option}
use Rattle.std.specs.Float.{nan, binary64}
use Rattle.std.specs.Float.Ieee.{fits}
use Rattle.layout.specs.declared.places.Layout.{Layout}
use Rattle.refusals.specs.declared.refusals.Refusal.TheVariants.{Field}
use Rattle.sheet.specs.Read.{unless, read_of, Reading}
use Rattle.row_sheet.specs.RowSheet.{row_sheet, bad_demand}

-- refusal 3 at a bad demand that was found, else the sheet's own layout
unfoldable pub unless_bad : Option ℕ → Layout → Reading
unless_bad f l = unless f Field (Ok l)

-- by the first demand of row r that is not within bounds
unfoldable pub row_reading : Layout → List Float → ℕ → Reading
unfolding unless_bad
row_reading l table r = unless_bad (bad_demand l table r) l

-- the entries of a table are f64s, as those of every program are
abbrev pub AllFit : List Float → Type 0
AllFit table = (i : ℕ) → T (fits binary64 (get_or table i nan))

abbrev pub RowReads : Type 0
RowReads = (s : List ℕ) (l : Layout) (table : List Float) (r : ℕ) → read_of s ≡ Ok l → AllFit table → read_of (row_sheet s l table r) ≡ row_reading l table r
