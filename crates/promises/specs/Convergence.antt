-- What 0 says of the last trial's step. Definitions only.
use Rattle.std.specs.Prelude.{ℕ, ◌<◌, ◌≡◌, true, false, List, get_or, None}
use Rattle.std.specs.Float.Ieee.{lt, eq}
use Rattle.constants.specs.Arithmetic.{times}
use Rattle.constants.specs.Constants as constant
use Rattle.records.specs.Records.{options_of}
use Rattle.records.specs.declared.records.Options.{Options}
use Rattle.layout.specs.declared.places.Layout.{Layout}
use Rattle.codes.specs.Codes.{status_of}
use Rattle.damping.specs.Damping.{relative_change}
use Rattle.damping.specs.Units.{factor_of}
use Rattle.damping.specs.declared.steps.Damping.{Damping}
use Rattle.state.specs.State.{State}
use Rattle.tanks.specs.Tanks.{tank_links_of}
use Rattle.drawn.specs.Drawn.{draws, drawn_of}
use Rattle.update.specs.Update.{counts, update_of}
use Rattle.update.specs.declared.Stats.{Stats}
use Rattle.promises.specs.Repairs.{stop_of}
use Rattle.promises.specs.Trials.{Point, run_in}
use Rattle.promises.specs.Causes.{before_last}
use Rattle.promises.specs.Flips.{basis_of, change_of}
use Rattle.promises.specs.Wilds.{NoneWild}

-- what a trial of a state whose matrix is factored measures: the sum of the changes of flows and drawn flows, the sum of these, the largest change, and whether a status changed
-- that counts
unfoldable pub stats_of : List ℕ → Layout → Damping → State → Stats
stats_of s l d t =
    let b = basis_of s l d t in
    let u = update_of s l b t.flows t.statuses in
    let w = tank_links_of s l b.heads u.flows t.demands u.codes in
    (drawn_of s l b.heads d.factor w.demands (draws t.drawn u.updated.stats)).stats

-- the relative change is below the accuracy, no status changed that counts, and the largest change, in the sheet's unit, is below the one allowed, or below BIG_VALUE where that is 0
pub record Converges (o : Options) (m : Stats) : Type 0 where
  pub relative : lt (relative_change m.moved m.total o.accuracy) o.accuracy ≡ true
  pub statuses : m.changed ≡ false
  pub largest : eq o.change constant.zero ≡ false → lt (times m.largest (factor_of o.unit)) o.change ≡ true
  pub any_change : eq o.change constant.zero ≡ true → lt (times m.largest (factor_of o.unit)) constant.big_value ≡ true

-- a trial from here has a matrix that is factored, its step converges, and its flow update changes no link's status in a way that counts
pub record TrialConverges (s : List ℕ) (l : Layout) (p : Point) : Type 0 where
  pub factored : stop_of s l p.state ≡ None
  pub converges : Converges (options_of s) (stats_of s l p.damping p.state)
  pub links : (j : ℕ) → j < l.links
      → counts (status_of (get_or p.state.statuses j 0)) (change_of s l (basis_of s l p.damping p.state) p.state.flows p.state.statuses j) ≡ false

-- so does the last trial of a solve, and nothing that it leaves is wild
pub record SolveConverges (s : List ℕ) (l : Layout) : Type 0 where
  pub last : TrialConverges s l (before_last s l)
  pub none_wild : NoneWild l (run_in s l).state
