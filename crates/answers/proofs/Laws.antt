-- No buffer is too short, and the answer to a refusal, over plain variables. Assumes nothing.
use Prim.Native.Nat.{ℕ, ◌≤◌}
use mathlib.Core.Path.{◌≡◌, refl}
use mathlib.Core.Bool.{Bool, true, false, cond}
use native.Mathlib.Omega.{arith}
use borrow.Author.Tests.{ltb-false}
use lib.Dec.{ltb}
use lib.ListN.{length}
use Rattle.layout.specs.declared.places.Layout.{Layout}
use Rattle.refusals.specs.Refusals.{number_of, place_of}
use Rattle.refusals.specs.declared.refusals.Refusal.{Refusal}
use Rattle.entries.specs.Entries.{none}
use Rattle.answers.specs.Answers.{Lent, too_short, failed_of, Enough}
use Rattle.answers.specs.declared.Answer.{Answer}
use Rattle.std.specs.Prelude.{None, Option, Some}

passed : (a b x : ℕ) (f : Option ℕ) → cond (ltb a b) (Some x) f ≡ None → (b ≤ a) × (f ≡ None)
passed a b x f e = go (ltb a b) refl e
  where
    go : (t : Bool) → ltb a b ≡ t → cond t (Some x) f ≡ None → (b ≤ a) × (f ≡ None)
    go true p e = absurd (let z : ◌≡◌ {A = ℕ} 0 1 = cc in let y : ⊥ = omega arith in y)
    go false p e = (ltb-false a b p, e)

pub enough : (l : Layout) (trials : ℕ) (b : Lent)
    → too_short l trials (length b.heads) (length b.demands) (length b.flows) (length b.statuses) (length b.entries) (length b.scratch) ≡ None
    → Enough l trials b
unfolding too_short
enough l trials b e =
    let h = passed _ _ _ _ e in
    let d = passed _ _ _ _ h.1 in
    let q = passed _ _ _ _ d.1 in
    let c = passed _ _ _ _ q.1 in
    let r = passed _ _ _ _ c.1 in
    let x = passed _ _ _ _ r.1 in
    record { heads = h.0; demands = d.0; flows = q.0; statuses = c.0; entries = r.0; scratch = x.0 }

pub refused_as : (a : Answer) (r : Refusal) (number place : ℕ) → number ≡ number_of r → place ≡ place_of r → a ≡ failed_of number place none → a ≡ failed_of (number_of r) (place_of r) none
refused_as a r number place en ep ea = rw (← en, ← ep) ea
