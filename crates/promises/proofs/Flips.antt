-- What the number of an ST or OK entry says (document 02, [2]). Assumes nothing.
use Prim.Native.Nat.{ℕ, zero, suc, ◌+◌, ◌*◌, ◌<◌, ◌≤◌}
use mathlib.Core.Path.{◌≡◌, refl, sym, ap, subst, ◌∙◌}
use mathlib.Core.Logic.{⊎_elim}
use mathlib.Core.Bool.{Bool, true, false, ◌&&◌, cond}
use mathlib.Core.List.{List}
use native.Mathlib.Omega.{arith}
use native.Mathlib.Nat.{eq-or-lt_of_le}
use lib.ListN.{length, get_or, set}
use lib.Seq.{get_or-set_other}
use lib.Ieee.{Float, nan, lt, le, neg}
use Rattle.layout.specs.declared.places.Layout.{Layout}
use Rattle.links.specs.Links.{link_of}
use Rattle.links.specs.declared.LinkIndex.{LinkIndex}
use Rattle.nodes.specs.Nodes.{enabled}
use Rattle.records.specs.Records.{options_of}
use Rattle.records.specs.declared.records.Options.{Options}
use Rattle.codes.specs.Codes.{status_code}
use Rattle.codes.specs.declared.Status.{Status}
use Rattle.codes.specs.declared.Status.TheVariants.{Closed, Open, Active, TempClosed, FixedClosed, FixedOpen, XPressure, Xhead}
use Rattle.codes.specs.declared.LinkKind.{LinkKind}
use Rattle.codes.specs.declared.LinkKind.TheVariants.{Pipe, Prv, Psv, Pbv, Fcv, Tcv, Pcv}
use Rattle.constants.specs.Arithmetic.{plus, minus}
use Rattle.constants.specs.Constants.{q_tol, h_tol}
use Rattle.constants.specs.Constants as constant
use Rattle.causes.specs.Causes.{cause_code, first_flip, flip_number, Flip}
use Rattle.causes.specs.declared.Cause.{Cause}
use Rattle.causes.specs.declared.Cause.TheVariants as cause
use Rattle.status.specs.Rules.{becomes_if, closed_if_negative, pipe_status, prv_status, psv_status, updated_of, Change}
use Rattle.damping.specs.declared.steps.Damping.{Damping}
use Rattle.damping.specs.Damping.{relative_change, converged_of}
use Rattle.state.specs.State.{State, solved_heads}
use Rattle.substitution.specs.Substitution.{solved}
use Rattle.wild.specs.Wild.{wild_place}
use Rattle.tanks.specs.Tanks.{tank_links_of}
use Rattle.drawn.specs.Drawn.{draws, drawn_of}
use Rattle.update.specs.declared.Stats.{Stats}
use Rattle.update.specs.Update.{still, recoded, telling, Stepping, stepping, Basis, basis, flow_change, change_at, link_set, link_moved, link_update, link_updates, update_of}
use Rattle.entries.specs.declared.Entry.{Entry}
use Rattle.entries.specs.declared.Entry.TheVariants.{Stepped, Converged}
use Rattle.trial.specs.Trial.{judged, step_entry, step_of, system_of, factors_of, trial_of}
use Rattle.promises.specs.Flips.{basis_of, change_of, Tells, Steps, Bytes, shut, target, Because}
use Rattle.marks.specs.Marks.{mark_of}
use Rattle.entries.specs.Entries.{no_entry}
use Rattle.answers.specs.Answers.{Lent}
use Rattle.solver.specs.Solve.{solve_of}
use Rattle.solver.proofs.Laws.{network_of}
use Rattle.promises.specs.Trials.{run_in, point_in}
use Rattle.promises.specs.Solves.{Runs}
use Rattle.promises.proofs.Never.{other, never}
use Rattle.promises.proofs.EachEntry.{solve_each_entry}
use Rattle.promises.proofs.Counts.{entry_shown, number_shown}
use Rattle.promises.proofs.Repairs as repairs
use Rattle.std.specs.Prelude.{None, Option, Some}

-- ---- two changes, or two flips, that are the same

abbrev first_or : {A B : Type 0} → A → Option (A × B) → A
first_or d None = d
first_or d (Some p) = p.0

abbrev second_or : {A B : Type 0} → B → Option (A × B) → B
second_or d None = d
second_or d (Some p) = p.1

pair_in : {A B : Type 0} (a a' : A) (b b' : B) → ◌≡◌ {A = Option (A × B)} (Some (a, b)) (Some (a', b')) → (a ≡ a') × (b ≡ b')
pair_in a a' b b' e = (ap (first_or a) e, ap (second_or b) e)

-- ---- a link's update leaves the others as they were

recoded_other : (c : List ℕ) (i j : ℕ) (change : Change) → (j ≡ i → ⊥) → get_or (recoded c i change) j 0 ≡ get_or c j 0
unfolding recoded
recoded_other c i j None n = refl
recoded_other c i j (Some (new, cause)) n = get_or-set_other c i j (status_code new) 0 n

-- two states of the columns agree at link j
pub record Same (w w₀ : Stepping) (j : ℕ) : Type 0 where
  pub flow : get_or w.flows j nan ≡ get_or w₀.flows j nan
  pub code : get_or w.codes j 0 ≡ get_or w₀.codes j 0

module _ (s : List ℕ) (l : Layout) (b : Basis) where
  update_other : (i j : ℕ) (w : Stepping) → (j ≡ i → ⊥) → Same (link_update s l b (link_of s l i) i w) w j
  unfolding link_update link_moved link_set
  update_other i j w n = go (enabled s l (link_of s l i).start && enabled s l (link_of s l i).end)
    where
      q : Float
      q = minus (get_or w.flows i nan) (flow_change b (link_of s l i) i)

      go : (e : Bool) → Same (cond e (link_moved s l b (link_of s l i) i w) (stepping (set w.flows i constant.zero) w.codes w.updated)) w j
      go true = record { flow = get_or-set_other w.flows i j q nan n; code = recoded_other w.codes i j (change_at s l b.heads (link_of s l i) (get_or w.codes i 0) q) n }
      go false = record { flow = get_or-set_other w.flows i j constant.zero nan n; code = refl }

  -- the first n links leave those from n on as they were
  pub later : (n j : ℕ) (w : Stepping) → n ≤ j → Same (link_updates s l b n w) w j
  unfolding link_updates
  later zero j w h = record { flow = refl; code = refl }
  later (suc n) j w h =
      let a = update_other n j (link_updates s l b n w) (λ (e : j ≡ n). omega (arith, e, h)) in
      let r = later n j w (omega (arith, h)) in
      record { flow = a.flow ∙ r.flow; code = a.code ∙ r.code }

  -- what one link's update adds to what is told
  told_next : (j : ℕ) (w w₀ : Stepping) → Same w w₀ j → (link_update s l b (link_of s l j) j w).updated.flip ≡ telling w.updated.flip j (change_of s l b w₀.flows w₀.codes j)
  unfolding link_update link_moved link_set change_of telling
  told_next j w w₀ e = go (enabled s l (link_of s l j).start && enabled s l (link_of s l j).end)
    where
      go : (on : Bool) → (cond on (link_moved s l b (link_of s l j) j w) (stepping (set w.flows j constant.zero) w.codes w.updated)).updated.flip
          ≡ telling w.updated.flip j (cond on (change_at s l b.heads (link_of s l j) (get_or w₀.codes j 0) (minus (get_or w₀.flows j nan) (flow_change b (link_of s l j) j))) None)
      go true = rw (← e.flow, ← e.code)
      go false = refl

-- ---- the first that changes is the one that is told

-- what holds below n and at n holds below the next
up_to : (n : ℕ) (f : ℕ → Change) → ((j : ℕ) → j < n → f j ≡ None) → f n ≡ None → (j : ℕ) → j < suc n → f j ≡ None
up_to n f below at j h = ⊎_elim (λ (e : j ≡ n). ap f e ∙ at) (λ (k : j < n). below j k) (eq-or-lt_of_le (omega (arith, h)))

tells_next : (n : ℕ) (f : ℕ → Change) (flip : Flip) → Tells n f flip → Tells (suc n) f (telling flip n (f n))
unfolding telling first_flip
tells_next n f flip h = go flip (f n) refl h
  where
    go : (flip : Flip) (x : Change) → f n ≡ x → Tells n f flip → Tells (suc n) f (telling flip n x)
    go None None e h = record { nothing = λ z. up_to n f (h.nothing refl) e; link = λ i c z. other (cc) }
    go None (Some (new, cause)) e h =
        record {
          nothing = λ z. other (cc);
          link = λ i c z.
              let same = pair_in _ _ _ _ z in
              let at : i.0 ≡ n = ap (λ (x : LinkIndex). x.0) (sym same.0) in
              let by : c ≡ cause = sym same.1 in
              (omega (arith, at), ((new, rw (at, by) e), λ j k. h.nothing refl j (omega (arith, k, at))));
        }
    go (Some (i, c)) None e h = record { nothing = λ z. other (cc); link = λ i' c' z. let r = h.link i' c' z in (omega (arith, r.0), r.1) }
    go (Some (i, c)) (Some (new, cause)) e h = record { nothing = λ z. other (cc); link = λ i' c' z. let r = h.link i' c' z in (omega (arith, r.0), r.1) }

module _ (s : List ℕ) (l : Layout) (b : Basis) (q : List Float) (c : List ℕ) where
  updates_tell : (n : ℕ) → Tells n (change_of s l b q c) (link_updates s l b n (stepping q c still)).updated.flip
  unfolding link_updates
  updates_tell zero = record { nothing = λ e j h. absurd (let y : ⊥ = omega arith in y); link = λ i c e. other (cc) }
  updates_tell (suc n) =
      rw (told_next s l b n (link_updates s l b n (stepping q c still)) (stepping q c still) (later s l b n n (stepping q c still) (omega arith)))
      (tells_next n (change_of s l b q c) (link_updates s l b n (stepping q c still)).updated.flip (updates_tell n))

  update_tells : Tells l.links (change_of s l b q c) (update_of s l b q c).updated.flip
  unfolding update_of
  update_tells = updates_tell l.links

-- ---- a trial

-- what a step's entry tells is what it was handed
judged_tells : (o : Options) (d : Damping) (m : Stats) (flip flip' : Flip) → Steps (judged o d m flip) flip' → flip ≡ flip'
unfolding judged
judged_tells o d m flip flip' = go (converged_of (relative_change m.moved m.total o.accuracy) o.accuracy m.changed m.largest o.unit o.change) _
  where
    go : (b : Bool) (x : Damping) → Steps (cond b (Converged flip) (Stepped x flip)) flip' → flip ≡ flip'
    go true x = ⊎_elim (λ (e : Converged flip ≡ Converged flip'). cc) (λ w. other (cc))
    go false x = ⊎_elim (λ (e : Stepped x flip ≡ Converged flip'). other (cc)) (λ w. let e = w.1 in cc)

entry_tells : (f : Option ℕ) (o : Options) (d : Damping) (m : Stats) (flip flip' : Flip) → Steps (step_entry f o d m flip) flip' → flip ≡ flip'
unfolding step_entry
entry_tells (Some p) o d m flip flip' = ⊎_elim (λ e. other (cc)) (λ w. let e = w.1 in other (cc))
entry_tells None o d m flip flip' = judged_tells o d m flip flip'

module _ (s : List ℕ) (l : Layout) (d : Damping) (t : State) (flip : Flip) where
  step_tells : (g y x : List Float) → Steps (step_of s l d t g y x).entry flip → Tells l.links (change_of s l (basis (solved_heads s l x l.nodes t.heads) g y d.factor) t.flows t.statuses) flip
  unfolding step_of
  step_tells g y x e =
      let h = solved_heads s l x l.nodes t.heads in
      let u = update_of s l (basis h g y d.factor) t.flows t.statuses in
      let f = drawn_of s l h d.factor (tank_links_of s l h u.flows t.demands u.codes).demands (draws t.drawn u.updated.stats) in
      let same : u.updated.flip ≡ flip = entry_tells (wild_place l h u.flows f.drawn) (options_of s) d f.stats u.updated.flip flip e in
      subst (Tells l.links (change_of s l (basis h g y d.factor) t.flows t.statuses)) same (update_tells s l (basis h g y d.factor) t.flows t.statuses)

  -- An ST or OK entry tells of the links that the flow update of its trial changes, from the state before it: nothing where none does, else the lowest and why.
  pub trial_tells : Steps (trial_of s l d t).entry flip → Tells l.links (change_of s l (basis_of s l d t) t.flows t.statuses) flip
  unfolding basis_of
  trial_tells =
      repairs.each_way s l d t (λ o. Steps o.entry flip → Tells l.links (change_of s l (basis_of s l d t) t.flows t.statuses) flip)
      (λ j w. ⊎_elim (λ e. other (cc)) (λ w. let e = w.1 in other (cc)))
      (λ v w. ⊎_elim (λ e. other (cc)) (λ w. let e = w.1 in other (cc)))
      (λ v w. ⊎_elim (λ e. other (cc)) (λ w. let e = w.1 in other (cc)))
      (step_tells (system_of s l t).g (system_of s l t).y (solved (factors_of s l t) l.unknowns (system_of s l t).rhs))

-- ---- the bytes

number_of_steps : (e : Entry) (flip : Flip) → Steps e flip → (mark_of e).number ≡ flip_number flip
unfolding mark_of
number_of_steps e flip = ⊎_elim (λ (h : e ≡ Converged flip). ap (λ (y : Entry). (mark_of y).number) h) (λ w. ap (λ (y : Entry). (mark_of y).number) w.1)

low_byte : (s : List ℕ) (x : Lent) (l : Layout) (w : Runs s x l) (i : ℕ) → i < length (run_in s l).entries → get_or (solve_of s x).lent.entries (4 * i + 2) 0 < 256
low_byte s x l w i h = omega (arith, (entry_shown s x l w i h).low)

-- the low byte is the link's number plus 1, or 0; the high one is the cause
bytes_tell : (flip : Flip) (n low high : ℕ) → n ≤ 128 → low + 256 * high ≡ flip_number flip → low < 256 → ((i : LinkIndex) (c : Cause) → flip ≡ Some (i, c) → i.0 < n) → Bytes flip low high
unfolding flip_number
bytes_tell None n low high m e b h = record { nothing = λ z. (omega arith, omega arith); link = λ i c z. other (cc) }
bytes_tell (Some (i, c)) n low high m e b h =
    let small = h i c refl in
    record {
      nothing = λ z. other (cc);
      link = λ i' c' z.
          let same = pair_in _ _ _ _ z in
          let p : i.0 ≡ i'.0 = ap (λ (x : LinkIndex). x.0) same.0 in
          let r : cause_code c ≡ cause_code c' = ap cause_code same.1 in
          (omega (arith, e, b, small, m, p), omega (arith, e, b, small, m, r));
    }

-- Entry i of a solve's record, if it is ST or OK: its bytes name the lowest link that the flow update of trial i changed, plus 1, and the cause; 0 and 0 where none changed.
pub solve_tells : (s : List ℕ) (x : Lent) (l : Layout) → Runs s x l → (i : ℕ) → i < length (run_in s l).entries → (flip : Flip) → Steps (get_or (run_in s l).entries i no_entry) flip
    → Tells l.links (change_of s l (basis_of s l (point_in s l i).damping (point_in s l i).state) (point_in s l i).state.flows (point_in s l i).state.statuses) flip
    × Bytes flip (get_or (solve_of s x).lent.entries (4 * i + 2) 0) (get_or (solve_of s x).lent.entries (4 * i + 3) 0)
solve_tells s x l w i h flip e =
    let p = point_in s l i in
    let t = trial_tells s l p.damping p.state flip (subst (λ (y : Entry). Steps y flip) (solve_each_entry s l i h) e) in
    (t, bytes_tell flip l.links _ _ (network_of s l w.read).links (number_shown s x l w i h ∙ number_of_steps _ flip e) (low_byte s x l w i h) (λ j c z. (t.link j c z).0))

-- ---- the cause

negative_means : (q : Float) (x : Change) (P : Cause → Type 0) → (lt q (neg q_tol) ≡ true → P cause.ReverseFlow) → ((new : Status) (c : Cause) → x ≡ Some (new, c) → P c)
    → (new : Status) (c : Cause) → closed_if_negative q x ≡ Some (new, c) → P c
unfolding closed_if_negative
negative_means q x P back rest new c = go (lt q (neg q_tol)) refl
  where
    go : (b : Bool) → lt q (neg q_tol) ≡ b → cond b (Some (Closed, cause.ReverseFlow)) x ≡ Some (new, c) → P c
    go true t e = let p : cause.ReverseFlow ≡ c = (pair_in _ _ _ _ e).1 in subst P p (back t)
    go false t e = rest new c e

if_means : (b : Bool) (status : Status) (by : Cause) (P : Cause → Type 0) → (b ≡ true → P by) → (new : Status) (c : Cause) → becomes_if b status by ≡ Some (new, c) → P c
unfolding becomes_if
if_means true status by P h new c e = let p : by ≡ c = (pair_in _ _ _ _ e).1 in subst P p (h refl)
if_means false status by P h new c e = other (cc)

-- a link that is shut: either test opens it
shut_means : (b b' : Bool) (status status' : Status) (P : Cause → Type 0) → P cause.Reopened
    → (new : Status) (c : Cause) → cond b (Some (status, cause.Reopened)) (becomes_if b' status' cause.Reopened) ≡ Some (new, c) → P c
shut_means true b' status status' P h new c e = let p : cause.Reopened ≡ c = (pair_in _ _ _ _ e).1 in subst P p h
shut_means false b' status status' P h new c e = if_means b' status' cause.Reopened P (λ t. h) new c e

module _ (k : LinkKind) (old : Status) (setting q h₁ h₂ up down : Float) where
  abbrev Why : Cause → Type 0
  Why = Because k old setting q h₁ h₂ up down

  by_reverse : shut old ≡ false → lt q (neg q_tol) ≡ true → Why cause.ReverseFlow
  by_reverse f t = record { some = λ e. other (cc); reverse = λ e. t; low = λ e. other (cc); high = λ e. other (cc); reopened = λ e. other (cc); leaves = λ e. never (sym f ∙ e) }

  by_low : shut old ≡ false → lt h₁ (minus (target k setting up down) h_tol) ≡ true → Why cause.InletTooLow
  by_low f t = record { some = λ e. other (cc); reverse = λ e. other (cc); low = λ e. t; high = λ e. other (cc); reopened = λ e. other (cc); leaves = λ e. never (sym f ∙ e) }

  by_high : shut old ≡ false → lt (plus (target k setting up down) h_tol) h₂ ≡ true → Why cause.OutletTooHigh
  by_high f t = record { some = λ e. other (cc); reverse = λ e. other (cc); low = λ e. other (cc); high = λ e. t; reopened = λ e. other (cc); leaves = λ e. never (sym f ∙ e) }

  by_leaving : shut old ≡ true → Why cause.Reopened
  by_leaving t = record { some = λ e. other (cc); reverse = λ e. other (cc); low = λ e. other (cc); high = λ e. other (cc); reopened = λ e. t; leaves = λ e. refl }

-- A change of status has a cause other than none: the flow was below minus its tolerance, the inlet below or the outlet above the set head by more than its tolerance; and it is
-- reopened just where the link leaves Closed, TempClosed or Xhead.
pub because : (k : LinkKind) (old : Status) (setting q h₁ h₂ up down : Float) (new : Status) (c : Cause) → updated_of k old setting q h₁ h₂ up down ≡ Some (new, c) → Because k old setting q h₁ h₂ up down c
unfolding updated_of pipe_status prv_status psv_status target shut
because Pipe TempClosed x q h₁ h₂ a b new c e = let p : cause.Reopened ≡ c = (pair_in _ _ _ _ e).1 in subst (Because Pipe TempClosed x q h₁ h₂ a b) p (by_leaving Pipe TempClosed x q h₁ h₂ a b refl)
because Pipe Closed x q h₁ h₂ a b new c e = other (cc)
because Pipe Open x q h₁ h₂ a b new c e = other (cc)
because Pipe Active x q h₁ h₂ a b new c e = other (cc)
because Pipe FixedClosed x q h₁ h₂ a b new c e = other (cc)
because Pipe FixedOpen x q h₁ h₂ a b new c e = other (cc)
because Pipe XPressure x q h₁ h₂ a b new c e = other (cc)
because Pipe Xhead x q h₁ h₂ a b new c e = other (cc)
because Prv Active x q h₁ h₂ a b new c e =
    negative_means q _ (Because Prv Active x q h₁ h₂ a b) (by_reverse Prv Active x q h₁ h₂ a b refl) (if_means _ _ _ (Because Prv Active x q h₁ h₂ a b) (by_low Prv Active x q h₁ h₂ a b refl)) new c e
because Prv Open x q h₁ h₂ a b new c e =
    negative_means q _ (Because Prv Open x q h₁ h₂ a b) (by_reverse Prv Open x q h₁ h₂ a b refl) (if_means _ _ _ (Because Prv Open x q h₁ h₂ a b) (by_high Prv Open x q h₁ h₂ a b refl)) new c e
because Prv Closed x q h₁ h₂ a b new c e =
    let s = plus x b in
    shut_means (le (plus s h_tol) h₁ && lt h₂ (minus s h_tol)) (lt h₁ (minus s h_tol) && lt (plus h₂ h_tol) h₁) Active Open (Because Prv Closed x q h₁ h₂ a b) (by_leaving Prv Closed x q h₁ h₂ a b refl) new c e
because Prv XPressure x q h₁ h₂ a b new c e =
    negative_means q _ (Because Prv XPressure x q h₁ h₂ a b) (by_reverse Prv XPressure x q h₁ h₂ a b refl) (λ n d z. other (cc)) new c e
because Prv TempClosed x q h₁ h₂ a b new c e = other (cc)
because Prv FixedClosed x q h₁ h₂ a b new c e = other (cc)
because Prv FixedOpen x q h₁ h₂ a b new c e = other (cc)
because Prv Xhead x q h₁ h₂ a b new c e = other (cc)
because Psv Active x q h₁ h₂ a b new c e =
    negative_means q _ (Because Psv Active x q h₁ h₂ a b) (by_reverse Psv Active x q h₁ h₂ a b refl) (if_means _ _ _ (Because Psv Active x q h₁ h₂ a b) (by_high Psv Active x q h₁ h₂ a b refl)) new c e
because Psv Open x q h₁ h₂ a b new c e =
    negative_means q _ (Because Psv Open x q h₁ h₂ a b) (by_reverse Psv Open x q h₁ h₂ a b refl) (if_means _ _ _ (Because Psv Open x q h₁ h₂ a b) (by_low Psv Open x q h₁ h₂ a b refl)) new c e
because Psv Closed x q h₁ h₂ a b new c e =
    let s = plus x a in
    shut_means (lt (plus s h_tol) h₂ && lt (plus h₂ h_tol) h₁) (lt (plus s h_tol) h₁ && lt (plus h₂ h_tol) h₁) Open Active (Because Psv Closed x q h₁ h₂ a b) (by_leaving Psv Closed x q h₁ h₂ a b refl) new c e
because Psv XPressure x q h₁ h₂ a b new c e =
    negative_means q _ (Because Psv XPressure x q h₁ h₂ a b) (by_reverse Psv XPressure x q h₁ h₂ a b refl) (λ n d z. other (cc)) new c e
because Psv TempClosed x q h₁ h₂ a b new c e = other (cc)
because Psv FixedClosed x q h₁ h₂ a b new c e = other (cc)
because Psv FixedOpen x q h₁ h₂ a b new c e = other (cc)
because Psv Xhead x q h₁ h₂ a b new c e = other (cc)
because Pbv old x q h₁ h₂ a b new c e = other (cc)
because Fcv old x q h₁ h₂ a b new c e = other (cc)
because Tcv old x q h₁ h₂ a b new c e = other (cc)
because Pcv old x q h₁ h₂ a b new c e = other (cc)
