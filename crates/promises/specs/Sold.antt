-- What a verdict means: when an hour may be sold, and why it may not. Definitions only.
use Rattle.std.specs.Prelude.{ℕ, ◌≤◌, ◌<◌, ◌≡◌, true, false, List, get_or, Float, Ok}
use Rattle.std.specs.Float.{nan}
use Rattle.std.specs.Float.Ieee.{lt, le}
use Rattle.found.specs.Searches.{First}
use Rattle.layout.specs.declared.places.Layout.{Layout}
use Rattle.records.specs.Records.{pressures_of}
use Rattle.constants.specs.Arithmetic.{minus}
use Rattle.constants.specs.Constants as constant
use Rattle.nodes.specs.Nodes.{node_of, enabled, in_service}
use Rattle.links.specs.Links.{link_of, link_start, link_end}
use Rattle.drawing.specs.Drawing.{gives_way}
use Rattle.columns.specs.Columns.{zeros}
use Rattle.excess.specs.Excess.{imbalance_of, excess_of}
use Rattle.coefficient.specs.declared.Coefficients.{Coefficients}
use Rattle.link_rows.specs.LinkRows.{View, view, coefficients_at}
use Rattle.sheet.specs.Read.{read_of}
use Rattle.entries.specs.Entries.{no_entry}
use Rattle.entries.specs.declared.Entry.TheVariants.{Freed, Grounded}
use Rattle.links.specs.declared.LinkIndex.{LinkIndex}
use Rattle.nodes.specs.declared.NodeIndex.{NodeIndex}
use Rattle.answers.specs.Answers.{Lent}
use Rattle.trial.specs.Trial.{no_repair}
use Rattle.solver.specs.Solve.{solve_with}
use Rattle.tolerance.specs.declared.Limits.{Limits}
use Rattle.tolerance.specs.Within.{within_of}
use Rattle.determined.specs.Joins.{Joins, Undetermined, Determined}
use Rattle.balances.specs.Balances.{leaks}
use Rattle.link_laws.specs.LinkLaws.{change_by, slight, moves}
use Rattle.held_heads.specs.Held.{holds_at, miss_of, misses_at}
use Rattle.drawn_laws.specs.DrawnLaws.{surplus_at, ill_at}
use Rattle.pressures_low.specs.Low.{low_at}
use Rattle.sale.specs.Sale.{Sale}
use Rattle.promises.specs.Trials.{run_in}
use Rattle.promises.specs.Mended.{mended}

-- ---- what the sentences speak of, by the buffers that a solve leaves

-- what flows in at each node, less what flows out and the demand that counts
abbrev pub sums_of : List ℕ → Layout → Lent → List Float
sums_of s l b = imbalance_of s l b.demands b.flows (zeros 64)

-- what a link is read with, and its coefficients
abbrev pub view_of : List ℕ → Layout → Lent → View
view_of s l b = view b.heads b.flows b.statuses (excess_of s l b.demands b.flows (zeros 64))

abbrev pub coefficients_in : List ℕ → Layout → Lent → ℕ → Coefficients
coefficients_in s l b j = coefficients_at s l b.flows b.statuses (excess_of s l b.demands b.flows (zeros 64)) (link_of s l j) j

-- a node's head less its elevation
abbrev pub pressure_at : List ℕ → Layout → Lent → ℕ → Float
pressure_at s l b i = minus (get_or b.heads i nan) (node_of s l i).elevation

-- ---- the sentences, one a line of the rule

-- 1: the sheet is read so, and its solve's number is 0
pub record Solves (s : List ℕ) (l : Layout) (o : Sale) : Type 0 where
  pub read : read_of s ≡ Ok l
  pub number : o.answer.number ≡ 0

-- 2: no trial freed a valve or grounded a node, and what came out is what the solver gives that repairs nothing
pub record Unrepaired (s : List ℕ) (l : Layout) (x : Lent) (o : Sale) : Type 0 where
  pub trials : (i : ℕ) → i < o.answer.trials → mended s l i ≡ false
  pub answer : o.answer ≡ (solve_with no_repair s x).answer
  pub lent : o.lent ≡ (solve_with no_repair s x).lent

-- 3: a way leads to every junction in service
abbrev pub Joined : List ℕ → Layout → Lent → Type 0
Joined s l b = Determined s l b.flows b.statuses

-- 4: at every junction in service the flows add up to 0, within `flow`
pub record Balanced (s : List ℕ) (l : Layout) (limits : Limits) (b : Lent) : Type 0 where
  pub sum : (i : ℕ) → i < l.nodes → in_service s l i ≡ true → within_of (get_or (sums_of s l b) i nan) limits.flow ≡ true

-- 5: no link whose two ends are in use would be moved by its own law, but slightly
pub record Lawful (s : List ℕ) (l : Layout) (limits : Limits) (b : Lent) : Type 0 where
  pub change : (j : ℕ) → j < l.links → enabled s l (link_start s l j) ≡ true → enabled s l (link_end s l j) ≡ true
      → slight (change_by b.heads (link_of s l j) (coefficients_in s l b j)) (coefficients_in s l b j).conductance limits ≡ true

-- 6: every Active PRV and PSV in service holds its node at its set head, within `head`
pub record Holding (s : List ℕ) (l : Layout) (limits : Limits) (b : Lent) : Type 0 where
  pub miss : (j : ℕ) → j < l.links → holds_at s l b.statuses j ≡ true → within_of (miss_of s l b.heads j) limits.head ≡ true

-- 7: where a PD stands, every demand that gives way draws its share, within `flow`
pub record Drawing (s : List ℕ) (l : Layout) (limits : Limits) (b : Lent) : Type 0 where
  pub surplus : l.pressures ≡ true → (i : ℕ) → i < l.nodes → gives_way (in_service s l i) (node_of s l i).demand ≡ true
      → within_of (surplus_at s l (pressures_of s) b.heads b.demands i) limits.flow ≡ true

-- 8: the pressure at every junction in service is at least 0, and at least the lowest where the sheet has a demand above 0
pub record Pressed (s : List ℕ) (l : Layout) (limits : Limits) (b : Lent) : Type 0 where
  pub above : (i : ℕ) → i < l.nodes → in_service s l i ≡ true → le constant.zero (pressure_at s l b i) ≡ true
  pub enough : (i : ℕ) → i < l.nodes → in_service s l i ≡ true → lt constant.zero (node_of s l i).demand ≡ true → le limits.pressure (pressure_at s l b i) ≡ true

-- what is offered where an hour is sold: all of them, of a sale with the buffers x lent
pub record Offered (s : List ℕ) (l : Layout) (limits : Limits) (x : Lent) (o : Sale) : Type 0 where
  pub solves : Solves s l o
  pub unrepaired : Unrepaired s l x o
  pub joined : Joined s l o.lent
  pub balanced : Balanced s l limits o.lent
  pub lawful : Lawful s l limits o.lent
  pub holding : Holding s l limits o.lent
  pub drawing : Drawing s l limits o.lent
  pub pressed : Pressed s l limits o.lent

-- ---- June: a regulator was freed, a node was grounded, or a head hangs on nothing

pub data June (s : List ℕ) (l : Layout) (o : Sale) : Type 0 where
  freed : (i : ℕ) (j : LinkIndex) → i < o.answer.trials → get_or (run_in s l).entries i no_entry ≡ Freed j → June s l o
  grounded : (i : ℕ) (v : NodeIndex) → i < o.answer.trials → get_or (run_in s l).entries i no_entry ≡ Grounded v → June s l o
  hanging : (i : ℕ) → i < l.nodes → in_service s l i ≡ true → (Joins s l o.lent.flows o.lent.statuses i → ⊥) → June s l o

-- ---- why a verdict is told: what fails first, at its place, and nothing before it

pub data Why (s : List ℕ) (limits : Limits) (x : Lent) (o : Sale) : ℕ → ℕ → Type 0 where
  sold : (l : Layout) → Offered s l limits x o → Why s limits x o 0 0
  unsolved : 1 ≤ o.answer.number → Why s limits x o 1 o.answer.number
  repaired : (l : Layout) (p : ℕ) → Solves s l o → First (mended s l) o.answer.trials p → Why s limits x o 2 p
  undetermined : (l : Layout) (p : ℕ) → Solves s l o → Unrepaired s l x o → Undetermined s l o.lent.flows o.lent.statuses p → Why s limits x o 3 p
  unbalanced : (l : Layout) (p : ℕ) → Solves s l o → Unrepaired s l x o → Joined s l o.lent
      → First (leaks s l (sums_of s l o.lent) limits.flow) l.nodes p → Why s limits x o 4 p
  unsettled : (l : Layout) (p : ℕ) → Solves s l o → Unrepaired s l x o → Joined s l o.lent → Balanced s l limits o.lent
      → First (moves s l (view_of s l o.lent) limits) l.links p → Why s limits x o 5 p
  unheld : (l : Layout) (p : ℕ) → Solves s l o → Unrepaired s l x o → Joined s l o.lent → Balanced s l limits o.lent → Lawful s l limits o.lent
      → First (misses_at s l o.lent.heads o.lent.statuses limits.head) l.links p → Why s limits x o 6 p
  undrawn : (l : Layout) (p : ℕ) → Solves s l o → Unrepaired s l x o → Joined s l o.lent → Balanced s l limits o.lent → Lawful s l limits o.lent → Holding s l limits o.lent
      → l.pressures ≡ true → First (ill_at s l (pressures_of s) o.lent.heads o.lent.demands limits.flow) l.nodes p → Why s limits x o 7 p
  low : (l : Layout) (p : ℕ) → Solves s l o → Unrepaired s l x o → Joined s l o.lent → Balanced s l limits o.lent → Lawful s l limits o.lent → Holding s l limits o.lent → Drawing s l limits o.lent
      → First (low_at s l o.lent.heads limits.pressure) l.nodes p → Why s limits x o 8 p
