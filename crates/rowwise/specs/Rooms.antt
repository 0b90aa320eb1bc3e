-- The room of each row: which part of every lent buffer is whose. Definitions only.
use Rattle.std.specs.Prelude.{ℕ, ◌*◌, ◌≤◌, List, ◌++◌, length, take, drop, Float}
use Rattle.layout.specs.declared.places.Layout.{Layout}
use Rattle.answers.specs.Answers.{Lent, lent}
use Rattle.rowwise.specs.declared.admitting.Lengths.{Lengths}

-- what the caller lends for the results; of a row: the row's part of each, and the whole scratch
pub record Lends : Type 0 where
  pub heads : List Float
  pub demands : List Float
  pub flows : List Float
  pub statuses : List ℕ
  pub entries : List ℕ
  pub counts : List ℕ
  pub totals : List Float
  pub scratch : List Float

abbrev pub lends : List Float → List Float → List Float → List ℕ → List ℕ → List ℕ → List Float → List Float → Lends
lends h d q c r n t x = record { heads = h; demands = d; flows = q; statuses = c; entries = r; counts = n; totals = t; scratch = x }

-- the six buffers of a single solve
abbrev pub lent_of : Lends → Lent
lent_of b = lent b.heads b.demands b.flows b.statuses b.entries b.scratch

abbrev pub lengths_of : List Float → Lends → Lengths
lengths_of table b =
    record {
      table = length table;
      heads = length b.heads;
      demands = length b.demands;
      flows = length b.flows;
      statuses = length b.statuses;
      entries = length b.entries;
      counts = length b.counts;
      totals = length b.totals;
      scratch = length b.scratch;
    }

-- row r of a buffer whose rows are n entries long, and the buffer with that row exchanged for y
unfoldable pub row_in : {A : Type 0} → ℕ → ℕ → List A → List A
row_in n r x = take n (drop (r * n) x)

unfoldable pub row_put : {A : Type 0} → ℕ → ℕ → List A → List A → List A
row_put n r y x = take (r * n) x ++ (y ++ drop n (drop (r * n) x))

-- the room of row r, where a row has so many trials and so many counts; and all rooms with that one exchanged for y
unfoldable pub room_of : Layout → ℕ → ℕ → ℕ → Lends → Lends
unfolding row_in
room_of l trials width r b =
    lends (row_in l.nodes r b.heads) (row_in l.nodes r b.demands) (row_in l.links r b.flows) (row_in l.links r b.statuses)
    (row_in (4 * trials) r b.entries) (row_in width r b.counts) (row_in 3 r b.totals) b.scratch

unfoldable pub room_put : Layout → ℕ → ℕ → ℕ → Lends → Lends → Lends
unfolding row_put
room_put l trials width r y b =
    lends (row_put l.nodes r y.heads b.heads) (row_put l.nodes r y.demands b.demands) (row_put l.links r y.flows b.flows)
    (row_put l.links r y.statuses b.statuses) (row_put (4 * trials) r y.entries b.entries) (row_put width r y.counts b.counts)
    (row_put 3 r y.totals b.totals) y.scratch

-- so many rows have their rooms, and there are no more than 32
pub record Fits (l : Layout) (trials width rows : ℕ) (n : Lengths) : Type 0 where
  pub few : rows ≤ 32
  pub table : rows * l.nodes ≤ n.table
  pub heads : rows * l.nodes ≤ n.heads
  pub demands : rows * l.nodes ≤ n.demands
  pub flows : rows * l.links ≤ n.flows
  pub statuses : rows * l.links ≤ n.statuses
  pub entries : rows * (4 * trials) ≤ n.entries
  pub counts : rows * width ≤ n.counts
  pub totals : rows * 3 ≤ n.totals
