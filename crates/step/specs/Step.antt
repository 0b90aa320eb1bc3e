-- Document 01, item 8: the step of a trial whose matrix was factored. Definitions only.
use Rattle.std.specs.Prelude.{ℕ, ◌≤◌, cond, List, length, Float, None, Option, Some}
use Rattle.records.specs.Records.{options_of}
use Rattle.records.specs.declared.records.Options.{Options}
use Rattle.damping.specs.Damping.{damped_of, relative_change, converged_of}
use Rattle.state.specs.State.{State, state, solved_heads}
use Rattle.wild.specs.Wild.{wild_place}
use Rattle.layout.specs.declared.places.Layout.{Layout}
use Rattle.update.specs.Update.{basis, update_of}
use Rattle.update.specs.declared.Stats.{Stats}
use Rattle.tanks.specs.Tanks.{tank_links_of}
use Rattle.drawn.specs.Drawn.{draws, drawn_of}
use Rattle.entries.specs.declared.Entry.{Entry}
use Rattle.entries.specs.declared.Entry.TheVariants.{Wild, Stepped, Converged}
use Rattle.damping.specs.declared.steps.Damping.{Damping}
use Rattle.causes.specs.Causes.{Flip}

-- what a trial came to, and the state that it leaves
pub record Outcome : Type 0 where
  pub entry : Entry
  pub state : State

abbrev pub outcome : Entry → State → Outcome
outcome e t = record { entry = e; state = t }

-- relative change, damping and convergence, by the sheet's options
unfoldable pub judged : Options → Damping → Stats → Flip → Entry
judged o d m flip =
    let change = relative_change m.moved m.total o.accuracy in
    cond (converged_of change o.accuracy m.changed m.largest o.unit o.change) (Converged flip)
    (Stepped (record { factor = damped_of d.factor d.previous change o.damping; previous = change }) flip)

-- the test for 7 comes first
unfoldable pub step_entry : Option ℕ → Options → Damping → Stats → Flip → Entry
unfolding judged
step_entry (Some place) o d m flip = Wild place
step_entry None o d m flip = judged o d m flip

-- a step with the solved unknowns x: heads, flows and statuses, tank links, drawn flows, then what it comes to
unfoldable pub step_of : List ℕ → Layout → Damping → State → List Float → List Float → List Float → Outcome
unfolding step_entry
step_of s l d t g y x =
    let h = solved_heads s l x l.nodes t.heads in
    let u = update_of s l (basis h g y d.factor) t.flows t.statuses in
    let w = tank_links_of s l h u.flows t.demands u.codes in
    let f = drawn_of s l h d.factor w.demands (draws t.drawn u.updated.stats) in
    outcome (step_entry (wild_place l h u.flows f.drawn) (options_of s) d f.stats u.updated.flip) (state h w.demands f.drawn u.flows w.codes t.grounded)

-- the columns are long enough for the nodes and links
pub record Room (l : Layout) (t : State) : Type 0 where
  pub heads : l.nodes ≤ length t.heads
  pub demands : l.nodes ≤ length t.demands
  pub drawn : l.nodes ≤ length t.drawn
  pub flows : l.links ≤ length t.flows
  pub statuses : l.links ≤ length t.statuses
  pub grounded : l.nodes ≤ length t.grounded
