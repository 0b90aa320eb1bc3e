-- The next trial, due or not, and what follows it, over plain variables. Assumes nothing.
use Prim.Native.Nat.{ℕ, ◌≤◌, ◌<◌}
use mathlib.Core.Path.{◌≡◌, refl, sym, ◌∙◌}
use mathlib.Core.List.{List}
use mathlib.Core.Bool.{Bool, true, false, cond, not, ◌&&◌}
use native.Mathlib.Omega.{arith}
use borrow.Author.Tests.{ltb-true, leb-true, lt-ltb, le-ltb, le-leb}
use lib.Dec.{ltb, leb}
use Rattle.layout.specs.declared.places.Layout.{Layout}
use Rattle.damping.specs.declared.steps.Damping.{Damping}
use Rattle.state.specs.State.{State}
use Rattle.trial.specs.Trial.{Repair}
use Rattle.entries.specs.Entries.{none, Going}
use Rattle.entries.specs.declared.Ended.{Ended}
use Rattle.entries.specs.declared.Ended.TheVariants.{Limit}
use Rattle.entries.specs.declared.Tally.{Tally}
use Rattle.runs.specs.Run.{Turned, turn_of}
use Rattle.turns.specs.Turns.{due, follows, next_turn}
use Rattle.std.proofs.Common.{Break, Continue}

pub record Due (trials : ℕ) (t : Tally) : Type 0 where
  pub more : t.trials < trials
  pub freed : t.freed ≤ t.trials
  pub grounded : t.grounded ≤ t.trials

both : (a b : Bool) → a && b ≡ true → (a ≡ true) × (b ≡ true)
both true b e = (refl, e)
both false b e = absurd (let z : ◌≡◌ {A = ℕ} 0 1 = cc in let y : ⊥ = omega arith in y)

pub due_is : (trials : ℕ) (t : Tally) → due trials t ≡ true → Due trials t
unfolding due
due_is trials t e =
    let w = both _ _ e in
    let v = both _ _ w.0 in
    record { more = ltb-true _ _ v.0; freed = leb-true _ _ v.1; grounded = leb-true _ _ w.1 }

pub is_due : (trials : ℕ) (t : Tally) → Due trials t → due trials t ≡ true
unfolding due
is_due trials t w = rw (lt-ltb _ _ w.more, le-leb _ _ w.freed, le-leb _ _ w.grounded)

-- a test that was negated
pub not_so : (b : Bool) → not b ≡ true → b ≡ false
not_so true e = sym e
not_so false e = refl

pub so : (b : Bool) → not b ≡ false → b ≡ true
so true e = refl
so false e = sym e

module _ (repair : Repair) (s : List ℕ) (l : Layout) (trials : ℕ) (d : Damping) (tally : Tally) (bytes : List ℕ) (t : State) where
  pub next_due : due trials tally ≡ true → turn_of repair s l d tally bytes t ≡ next_turn repair s l trials d tally bytes t
  unfolding next_turn
  next_due e = rw e

  pub next_none : due trials tally ≡ false
      → record { turn = record { going = Break Limit; tally = none }; bytes = bytes; state = t } ≡ next_turn repair s l trials d tally bytes t
  unfolding next_turn
  next_none e = rw e

pub follow_on : (trials : ℕ) (t : Tally) (g : Going) (d : Damping) → g ≡ Continue d → t.trials < trials → Continue d ≡ follows trials t g
unfolding follows
follow_on trials t g d e h = rw (e, lt-ltb _ _ h)

pub follow_limit : (trials : ℕ) (t : Tally) (g : Going) (d : Damping) → g ≡ Continue d → trials ≤ t.trials → Break Limit ≡ follows trials t g
unfolding follows
follow_limit trials t g d e h = rw (e, le-ltb _ _ h)

pub follow_over : (trials : ℕ) (t : Tally) (g : Going) (z : Ended) → g ≡ Break z → Break z ≡ follows trials t g
unfolding follows
follow_over trials t g z e = rw e
