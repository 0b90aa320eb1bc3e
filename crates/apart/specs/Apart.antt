-- What is promised of an evening: each row of it is a single solve. Definitions and statements only.
use Rattle.std.specs.Prelude.{ℕ, ◌*◌, ◌<◌, ◌≡◌, List, [], ◌∷◌, length, drop, Float, None, Ok, Option, Some}
use Rattle.layout.specs.declared.places.Layout.{Layout}
use Rattle.sheet.specs.Read.{read_of}
use Rattle.tolerance.specs.declared.Limits.{Limits}
use Rattle.solver.specs.Solve.{trials_of, solve_of}
use Rattle.sale.specs.Sale.{sale_of}
use Rattle.row_sheet.specs.RowSheet.{row_sheet}
use Rattle.rowwise.specs.Rooms.{Lends, lent_of, room_of}
use Rattle.rowwise.specs.Evening.{width_of, row_of, evening_of}

-- what a row leaves for the caller: the row's part of every buffer; the scratch is no one's
pub record Shown : Type 0 where
  pub heads : List Float
  pub demands : List Float
  pub flows : List Float
  pub statuses : List ℕ
  pub entries : List ℕ
  pub counts : List ℕ
  pub totals : List Float

unfoldable pub shown : Lends → Shown
shown b = record { heads = b.heads; demands = b.demands; flows = b.flows; statuses = b.statuses; entries = b.entries; counts = b.counts; totals = b.totals }

-- of a call that is not refused: each row's room is what the single solve of the sheet with the row's demands leaves in that room, as it was before the call
abbrev pub EachRow : Type 0
EachRow =
    (j : Option Limits) (s : List ℕ) (rows : ℕ) (table : List Float) (b : Lends) (l : Layout) (r : ℕ) → read_of s ≡ Ok l → (evening_of j s rows table b).called.number ≡ 0 → r < rows
    → shown (room_of l (trials_of s) (width_of j) r (evening_of j s rows table b).lends) ≡ shown (row_of j (row_sheet s l table r) (room_of l (trials_of s) (width_of j) r b))

-- its counts are then the single solve's number, place, trials, freed and grounded, its totals demand, supply and error; where it is judged, the verdict's number and place follow
abbrev pub Told : Type 0
Told =
    (s : List ℕ) (b : Lends) → length b.counts ≡ 5 → length b.totals ≡ 3
    → let a = (solve_of s (lent_of b)).answer in
    ((row_of None s b).counts ≡ a.number ∷ a.place ∷ a.trials ∷ a.freed ∷ a.grounded ∷ []) × ((row_of None s b).totals ≡ a.demand ∷ a.supply ∷ a.error ∷ [])

abbrev pub ToldBy : Type 0
ToldBy =
    (limits : Limits) (s : List ℕ) (b : Lends) → length b.counts ≡ 7 → length b.totals ≡ 3
    → let o = sale_of s limits (lent_of b) in
    let a = o.answer in
    ((row_of (Some limits) s b).counts ≡ a.number ∷ a.place ∷ a.trials ∷ a.freed ∷ a.grounded ∷ o.verdict.number ∷ o.verdict.place ∷ [])
    × ((row_of (Some limits) s b).totals ≡ a.demand ∷ a.supply ∷ a.error ∷ [])

-- entries past the rows' rooms stay, and every buffer is as long as it was
pub record Later (l : Layout) (trials width rows : ℕ) (b c : Lends) : Type 0 where
  pub heads : drop (rows * l.nodes) c.heads ≡ drop (rows * l.nodes) b.heads
  pub demands : drop (rows * l.nodes) c.demands ≡ drop (rows * l.nodes) b.demands
  pub flows : drop (rows * l.links) c.flows ≡ drop (rows * l.links) b.flows
  pub statuses : drop (rows * l.links) c.statuses ≡ drop (rows * l.links) b.statuses
  pub entries : drop (rows * (4 * trials)) c.entries ≡ drop (rows * (4 * trials)) b.entries
  pub counts : drop (rows * width) c.counts ≡ drop (rows * width) b.counts
  pub totals : drop (rows * 3) c.totals ≡ drop (rows * 3) b.totals

abbrev pub PastRows : Type 0
PastRows =
    (j : Option Limits) (s : List ℕ) (rows : ℕ) (table : List Float) (b : Lends) (l : Layout) → read_of s ≡ Ok l → (evening_of j s rows table b).called.number ≡ 0
    → Later l (trials_of s) (width_of j) rows b (evening_of j s rows table b).lends

-- a refused call changes nothing
abbrev pub RefusedCall : Type 0
RefusedCall =
    (j : Option Limits) (s : List ℕ) (rows : ℕ) (table : List Float) (b : Lends) → ((evening_of j s rows table b).called.number ≡ 0 → ⊥) → (evening_of j s rows table b).lends ≡ b
