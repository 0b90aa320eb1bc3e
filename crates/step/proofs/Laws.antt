-- One step over plain variables: what the calls leave, put together. Assumes nothing.
use Prim.Native.Nat.{ℕ}
use mathlib.Core.Path.{◌≡◌}
use mathlib.Core.List.{List}
use mathlib.Core.Bool.{Bool, true, false}
use lib.Ieee.{Float}
use Rattle.records.specs.Records.{options_of}
use Rattle.records.specs.declared.records.Options.{Options}
use Rattle.damping.specs.Damping.{damped_of, relative_change, converged_of}
use Rattle.state.specs.State.{State, state, solved_heads}
use Rattle.wild.specs.Wild.{wild_place}
use Rattle.layout.specs.declared.places.Layout.{Layout}
use Rattle.update.specs.Update.{basis, stepping, update_of}
use Rattle.update.specs.declared.Stats.{Stats}
use Rattle.update.specs.declared.Updated.{Updated}
use Rattle.tanks.specs.Tanks.{tanks, tank_links_of}
use Rattle.drawn.specs.Drawn.{draws, drawn_of}
use Rattle.damping.specs.declared.steps.Damping.{Damping}
use Rattle.entries.specs.declared.Entry.{Entry}
use Rattle.entries.specs.declared.Entry.TheVariants.{Wild, Stepped, Converged}
use Rattle.step.specs.Step.{outcome, judged, step_entry, step_of}
use Rattle.std.specs.Prelude.{None, Option, Some}
use Rattle.causes.specs.Causes.{Flip}

-- ---- what it comes to

module _ (o : Options) (d : Damping) (m : Stats) (flip : Flip) (change : Float) (moved : change ≡ relative_change m.moved m.total o.accuracy) (b : Bool)
    (tested : b ≡ converged_of change o.accuracy m.changed m.largest o.unit o.change) where
  pub judged_converged : b ≡ true → Converged flip ≡ judged o d m flip
  unfolding judged
  judged_converged t = rw (← moved, ← tested, t)

  pub judged_stepped : (factor : Float) → factor ≡ damped_of d.factor d.previous change o.damping → b ≡ false → Stepped (record { factor = factor; previous = change }) flip ≡ judged o d m flip
  unfolding judged
  judged_stepped factor f t = rw (← moved, ← tested, t, f)

module _ (o : Options) (d : Damping) (f : Option ℕ) (m : Stats) (flip : Flip) where
  pub entry_wild : (p : ℕ) → f ≡ Some p → Wild p ≡ step_entry f o d m flip
  unfolding step_entry
  entry_wild p e = rw e

  pub entry_judged : (o' : Options) (r : Entry) → f ≡ None → o' ≡ o → r ≡ judged o' d m flip → r ≡ step_entry f o d m flip
  unfolding step_entry
  entry_judged o' r e h j = rw (e, ← h) j

-- ---- the calls of a step

pub step_of_lem : (s : List ℕ) (l : Layout) (d : Damping) (t : State) (g y x h q w f : List Float) (codes codes' : List ℕ) (u : Updated) (m' : Stats) (r : Entry)
    → h ≡ solved_heads s l x l.nodes t.heads
    → stepping q codes u ≡ update_of s l (basis h g y d.factor) t.flows t.statuses
    → tanks w codes' ≡ tank_links_of s l h q t.demands codes
    → draws f m' ≡ drawn_of s l h d.factor w (draws t.drawn u.stats)
    → r ≡ step_entry (wild_place l h q f) (options_of s) d m' u.flip
    → outcome r (state h w f q codes' t.grounded) ≡ step_of s l d t g y x
unfolding step_of
step_of_lem s l d t g y x h q w f codes codes' u m' r eh eu et ef er = rw (← eh, ← eu, ← et, ← ef, er)
