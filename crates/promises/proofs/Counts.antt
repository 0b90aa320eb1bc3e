-- Demand 3: the trial count is the number of entries, freed and grounded are the counts of VF and GN in the record, every repair stands in it and it shows no other. Assumes nothing.
use Prim.Native.Nat.{ℕ, zero, suc, ◌+◌, ◌*◌, ◌/◌, ◌%◌, ◌≤◌, ◌<◌}
use mathlib.Core.Path.{◌≡◌, refl, sym, ap, ◌∙◌}
use mathlib.Core.List.{List, [], ◌∷◌}
use mathlib.Core.Bool.{Bool, true, false, cond, ◌&&◌}
use native.Mathlib.Omega.{arith}
use lib.Dec.{eqb}
use lib.ListN.{length, get_or, set, length-set}
use lib.Seq.{get_or-set_same, get_or-set_other}
use lib.Ieee.{Float}
use Rattle.records.specs.Records.{options_of}
use Rattle.records.specs.declared.records.Options.{Options}
use Rattle.damping.specs.Damping.{converged_of, relative_change}
use Rattle.layout.specs.declared.places.Layout.{Layout}
use Rattle.wild.specs.Wild.{wild_place}
use Rattle.wild.proofs.Wilds.{wild_below}
use Rattle.update.specs.declared.Stats.{Stats}
use Rattle.state.specs.Network.{Network}
use Rattle.state.specs.State.{State}
use Rattle.links.specs.declared.LinkIndex.{LinkIndex}
use Rattle.nodes.specs.declared.NodeIndex.{NodeIndex}
use Rattle.damping.specs.declared.steps.Damping.{Damping}
use Rattle.entries.specs.declared.Entry.{Entry}
use Rattle.causes.specs.Causes.{flip_number, Flip}
use Rattle.causes.proofs.Laws.{cause_small}
use Rattle.entries.specs.declared.Entry.TheVariants.{Freed, Grounded, Singular, Wild, Stepped, Converged}
use Rattle.trial.specs.Trial.{repair_of, judged, step_entry, step_of, trial_of}
use Rattle.entries.specs.Entries.{counted, tallied, none, no_entry}
use Rattle.marks.specs.Marks.{mark_of, put_of, written}
use Rattle.entries.specs.declared.Ended.{Ended}
use Rattle.entries.specs.declared.Ended.TheVariants.{Balanced, Failed, Strayed, Limit}
use Rattle.marks.specs.declared.Mark.{Mark}
use Rattle.entries.specs.declared.Tally.{Tally}
use Rattle.marks.proofs.Laws.{put_long}
use Rattle.runs.proofs.Laws.{tallied_trials, run_length}
use Rattle.answers.specs.Answers.{Lent, failed_of, refused_of}
use Rattle.conclusion.specs.Conclusion.{unsolved, delivered, told}
use Rattle.solver.specs.Solve.{trials_of, solve_of}
use Rattle.solver.proofs.Laws.{network_of}
use Rattle.promises.specs.Count.{count}
use Rattle.promises.specs.Trials.{start_point, run_in, point_in}
use Rattle.promises.specs.Solves.{Runs}
use Rattle.promises.specs.Marks.{marked, Counted, Shown}
use Rattle.promises.specs.Statements.{SolveCounts, TrialsAre, EntryShown, NumberShown, VfFreed, GnGrounded}
use Rattle.promises.proofs.Never.{never}
use Rattle.promises.proofs.Repairs as repairs
use Rattle.promises.proofs.EachEntry.{solve_each_entry}
use Rattle.promises.proofs.Bound.{stop_node_lem}
use Rattle.promises.proofs.Solves.{comes, ways, runs_enough, tells}
use Rattle.std.specs.Prelude.{None, Option, Some}

-- ---- an entry's four bytes

module _ (r : List ℕ) (i : ℕ) (m : Mark) where
  put_before : (p : ℕ) → p < 4 * i → get_or (put_of r i m) p 0 ≡ get_or r p 0
  unfolding put_of
  put_before p h =
      let x = set r (4 * i) m.first in
      let y = set x (4 * i + 1) m.second in
      let z = set y (4 * i + 2) (m.number % 256) in
      get_or-set_other z (4 * i + 3) p (m.number / 256 % 256) 0 (omega arith)
      ∙ get_or-set_other y (4 * i + 2) p (m.number % 256) 0 (omega arith)
      ∙ get_or-set_other x (4 * i + 1) p m.second 0 (omega arith)
      ∙ get_or-set_other r (4 * i) p m.first 0 (omega arith)

  put_past : (p : ℕ) → 4 * i + 4 ≤ p → get_or (put_of r i m) p 0 ≡ get_or r p 0
  unfolding put_of
  put_past p h =
      let x = set r (4 * i) m.first in
      let y = set x (4 * i + 1) m.second in
      let z = set y (4 * i + 2) (m.number % 256) in
      get_or-set_other z (4 * i + 3) p (m.number / 256 % 256) 0 (omega arith)
      ∙ get_or-set_other y (4 * i + 2) p (m.number % 256) 0 (omega arith)
      ∙ get_or-set_other x (4 * i + 1) p m.second 0 (omega arith)
      ∙ get_or-set_other r (4 * i) p m.first 0 (omega arith)

  module _ (long : 4 * i + 4 ≤ length r) where
    put_first : get_or (put_of r i m) (4 * i) 0 ≡ m.first
    unfolding put_of
    put_first =
        let x = set r (4 * i) m.first in
        let y = set x (4 * i + 1) m.second in
        let z = set y (4 * i + 2) (m.number % 256) in
        get_or-set_other z (4 * i + 3) (4 * i) (m.number / 256 % 256) 0 (omega arith)
        ∙ get_or-set_other y (4 * i + 2) (4 * i) (m.number % 256) 0 (omega arith)
        ∙ get_or-set_other x (4 * i + 1) (4 * i) m.second 0 (omega arith)
        ∙ get_or-set_same r (4 * i) m.first 0 (omega arith)

    put_second : get_or (put_of r i m) (4 * i + 1) 0 ≡ m.second
    unfolding put_of
    put_second =
        let x = set r (4 * i) m.first in
        let y = set x (4 * i + 1) m.second in
        let z = set y (4 * i + 2) (m.number % 256) in
        get_or-set_other z (4 * i + 3) (4 * i + 1) (m.number / 256 % 256) 0 (omega arith)
        ∙ get_or-set_other y (4 * i + 2) (4 * i + 1) (m.number % 256) 0 (omega arith)
        ∙ get_or-set_same x (4 * i + 1) m.second 0 (omega (arith, length-set r (4 * i) m.first))

    put_low : get_or (put_of r i m) (4 * i + 2) 0 ≡ m.number % 256
    unfolding put_of
    put_low =
        let x = set r (4 * i) m.first in
        let y = set x (4 * i + 1) m.second in
        let z = set y (4 * i + 2) (m.number % 256) in
        get_or-set_other z (4 * i + 3) (4 * i + 2) (m.number / 256 % 256) 0 (omega arith)
        ∙ get_or-set_same y (4 * i + 2) (m.number % 256) 0 (omega (arith, length-set r (4 * i) m.first, length-set x (4 * i + 1) m.second))

    put-high : get_or (put_of r i m) (4 * i + 3) 0 ≡ m.number / 256 % 256
    unfolding put_of
    put-high =
        let x = set r (4 * i) m.first in
        let y = set x (4 * i + 1) m.second in
        let z = set y (4 * i + 2) (m.number % 256) in
        get_or-set_same z (4 * i + 3) (m.number / 256 % 256) 0 (omega (arith, length-set r (4 * i) m.first, length-set x (4 * i + 1) m.second, length-set y (4 * i + 2) (m.number % 256)))

-- later entries leave earlier bytes, and none reaches past the last
written_before : (es : List Entry) (i : ℕ) (r : List ℕ) (p : ℕ) → p < 4 * i → get_or (written i es r) p 0 ≡ get_or r p 0
unfolding written
written_before [] i r p h = refl
written_before (e ∷ es) i r p h = written_before es (suc i) (put_of r i (mark_of e)) p (omega arith) ∙ put_before r i (mark_of e) p h

pub written_past : (es : List Entry) (i : ℕ) (r : List ℕ) (p : ℕ) → 4 * (i + length es) ≤ p → get_or (written i es r) p 0 ≡ get_or r p 0
unfolding written
written_past [] i r p h = refl
written_past (e ∷ es) i r p h = written_past es (suc i) (put_of r i (mark_of e)) p (omega arith) ∙ put_past r i (mark_of e) p (omega arith)

pub written_shows : (es : List Entry) (i : ℕ) (r : List ℕ) → 4 * (i + length es) ≤ length r → (j : ℕ) → j < length es → Shown (written i es r) (i + j) (get_or es j no_entry)
unfolding written
written_shows [] i r h j x = absurd (let y : ⊥ = omega arith in y)
written_shows (e ∷ es) i r h zero x =
    let x = put_of r i (mark_of e) in
    let p : i + 0 ≡ i = omega arith in
    let long : 4 * i + 4 ≤ length r = omega arith in
    rw p
    (record {
      first = written_before es (suc i) x (4 * i) (omega arith) ∙ put_first r i (mark_of e) long;
      second = written_before es (suc i) x (4 * i + 1) (omega arith) ∙ put_second r i (mark_of e) long;
      low = written_before es (suc i) x (4 * i + 2) (omega arith) ∙ put_low r i (mark_of e) long;
      high = written_before es (suc i) x (4 * i + 3) (omega arith) ∙ put-high r i (mark_of e) long;
    })
written_shows (e ∷ es) i r h (suc j) x =
    let p : i + suc j ≡ suc i + j = omega arith in
    rw p (written_shows es (suc i) (put_of r i (mark_of e)) (omega (arith, put_long r i (mark_of e))) j (omega arith))

-- ---- counting

unfoldable pub has : ℕ → ℕ → Entry → Bool
has a b e = eqb (mark_of e).first a && eqb (mark_of e).second b

unfoldable having : ℕ → ℕ → List Entry → ℕ
having a b [] = 0
having a b (e ∷ es) = cond {A = ℕ} (has a b e) (suc (having a b es)) (having a b es)

count_front : (n : ℕ) (f : ℕ → Bool) → count (suc n) f ≡ cond {A = ℕ} (f 0) (suc (count n (λ i. f (suc i)))) (count n (λ i. f (suc i)))
unfolding count
count_front zero f = refl
count_front (suc n) f = rw (count_front n f) (go (f (suc n)) (f 0) (count n (λ i. f (suc i))))
  where
    go : (a b : Bool) (c : ℕ) → cond {A = ℕ} a (suc (cond {A = ℕ} b (suc c) c)) (cond {A = ℕ} b (suc c) c) ≡ cond {A = ℕ} b (suc (cond {A = ℕ} a (suc c) c)) (cond {A = ℕ} a (suc c) c)
    go true true c = refl
    go true false c = refl
    go false true c = refl
    go false false c = refl

count_entries : (a b : ℕ) (es : List Entry) (f : ℕ → Bool) → ((j : ℕ) → j < length es → f j ≡ has a b (get_or es j no_entry)) → count (length es) f ≡ having a b es
unfolding having count
count_entries a b [] f h = refl
count_entries a b (e ∷ es) f h =
    count_front (length es) f ∙ rw (h 0 (omega arith), count_entries a b es (λ i. f (suc i)) (λ j x. h (suc j) (omega arith)))

count_marks : (a b : ℕ) (es : List Entry) (r : List ℕ) → 4 * length es ≤ length r → count (length es) (marked a b (written 0 es r)) ≡ having a b es
unfolding marked has
count_marks a b es r h =
    count_entries a b es (marked a b (written 0 es r))
    (λ j x.
    let p : 0 + j ≡ j = omega arith in
    let w = rw p at (written_shows es 0 r (omega arith) j x) in
    rw (w.first, w.second))

record Agrees (t : Tally) (es : List Entry) : Type 0 where
  freed : (tallied t es).freed ≡ t.freed + having 86 70 es
  grounded : (tallied t es).grounded ≡ t.grounded + having 71 78 es

agrees : (t : Tally) (es : List Entry) → Agrees t es
unfolding tallied counted having has mark_of
agrees t [] = record { freed = omega arith; grounded = omega arith }
agrees t (Freed i ∷ es) = let h = agrees (counted t (Freed i)) es in record { freed = omega arith; grounded = omega arith }
agrees t (Grounded i ∷ es) = let h = agrees (counted t (Grounded i)) es in record { freed = omega arith; grounded = omega arith }
agrees t (Singular i ∷ es) = let h = agrees (counted t (Singular i)) es in record { freed = omega arith; grounded = omega arith }
agrees t (Wild p ∷ es) = let h = agrees (counted t (Wild p)) es in record { freed = omega arith; grounded = omega arith }
agrees t (Stepped d flip ∷ es) = let h = agrees (counted t (Stepped d flip)) es in record { freed = omega arith; grounded = omega arith }
agrees t (Converged flip ∷ es) = let h = agrees (counted t (Converged flip)) es in record { freed = omega arith; grounded = omega arith }

-- ---- the whole solve

-- whatever its end, a run's tally and bytes are told
told_tally : (s : List ℕ) (l : Layout) (m : ℕ) (x : Lent) (t : State) (tally : Tally) (bytes : List ℕ) (z : Ended)
    → (P : ℕ → ℕ → ℕ → List ℕ → Type 0) → P tally.trials tally.freed tally.grounded bytes
    → P (told s l m x t tally bytes z).answer.trials (told s l m x t tally bytes z).answer.freed (told s l m x t tally bytes z).answer.grounded (told s l m x t tally bytes z).lent.entries
unfolding told delivered unsolved failed_of
told_tally s l m x t tally bytes Balanced P h = h
told_tally s l m x t tally bytes (Failed n) P h = h
told_tally s l m x t tally bytes (Strayed p) P h = h
told_tally s l m x t tally bytes Limit P h = h

refused_counts_lem : (number place : ℕ) (x : Lent) → Counted (refused_of number place x)
unfolding refused_of failed_of count
refused_counts_lem number place x = record { freed = refl; grounded = refl }

module _ (s : List ℕ) (x : Lent) where
  room : (l : Layout) → Runs s x l → 4 * length (run_in s l).entries ≤ length x.entries
  unfolding run_in start_point
  room l w = omega (arith, run_length repair_of s l (trials_of s) (start_point s l).damping (start_point s l).state, (runs_enough s x l w).entries)

  -- what holds of the run's tally and bytes holds of the solve's
  in_solve : (l : Layout) → Runs s x l → (P : ℕ → ℕ → ℕ → List ℕ → Type 0)
      → P (tallied none (run_in s l).entries).trials (tallied none (run_in s l).entries).freed (tallied none (run_in s l).entries).grounded (written 0 (run_in s l).entries x.entries)
      → P (solve_of s x).answer.trials (solve_of s x).answer.freed (solve_of s x).answer.grounded (solve_of s x).lent.entries
  in_solve l w P h =
      rw (comes repair_of s x l w, tells s l x)
      (told_tally s l (trials_of s) x (run_in s l).state (tallied none (run_in s l).entries) (written 0 (run_in s l).entries x.entries) (run_in s l).ended P h)

  run_counts : (l : Layout) → Runs s x l → Counted (solve_of s x)
  run_counts l w =
      let es = (run_in s l).entries in
      let a = agrees none es in
      let n : (tallied none es).trials ≡ length es = omega (arith, tallied_trials none es) in
      let f : (tallied none es).freed ≡ having 86 70 es = omega (arith, a.freed) in
      let g : (tallied none es).grounded ≡ having 71 78 es = omega (arith, a.grounded) in
      record {
        freed = in_solve l w (λ trials freed grounded bytes. freed ≡ count trials (marked 86 70 bytes)) (rw (n, f) (sym (count_marks 86 70 es x.entries (room l w))));
        grounded = in_solve l w (λ trials freed grounded bytes. grounded ≡ count trials (marked 71 78 bytes)) (rw (n, g) (sym (count_marks 71 78 es x.entries (room l w))));
      }

-- Demand 3: freed and grounded count the VF and GN among the entries of the record. For every sheet and all buffers.
pub solve_counts : SolveCounts
solve_counts s x =
    ways repair_of s x Counted
    (λ r e. refused_counts_lem _ _ x) (λ l place e q. refused_counts_lem 5 place x)
    (λ l w. rw (comes repair_of s x l w) at (run_counts s x l w))

-- The trial count is the number of entries.
pub trials_are : TrialsAre
trials_are s x l w = in_solve s x l w (λ trials freed grounded bytes. trials ≡ length (run_in s l).entries) (omega (arith, tallied_trials none (run_in s l).entries))

-- Every trial's entry stands in the record, in its place.
pub entry_shown : EntryShown
entry_shown s x l w i h =
    let p : 0 + i ≡ i = omega arith in
    in_solve s x l w (λ trials freed grounded bytes. Shown bytes i (get_or (run_in s l).entries i no_entry))
    (rw p at (written_shows (run_in s l).entries 0 x.entries (omega (arith, room s x l w)) i h))

-- ---- the record shows no other repair

module _ (bytes : List ℕ) (i : ℕ) (e : Entry) (w : Shown bytes i e) where
  pub shows : (a b : ℕ) → marked a b bytes i ≡ has a b e
  unfolding marked has
  shows a b = rw (w.first, w.second)

vf : (e : Entry) → has 86 70 e ≡ true → (j : LinkIndex) × (e ≡ Freed j)
unfolding has mark_of
vf (Freed j) h = (j, refl)
vf (Grounded v) h = never h
vf (Singular v) h = never h
vf (Wild p) h = never h
vf (Stepped d flip) h = never h
vf (Converged flip) h = never h

gn : (e : Entry) → has 71 78 e ≡ true → (v : NodeIndex) × (e ≡ Grounded v)
unfolding has mark_of
gn (Freed j) h = never h
gn (Grounded v) h = (v, refl)
gn (Singular v) h = never h
gn (Wild p) h = never h
gn (Stepped d flip) h = never h
gn (Converged flip) h = never h

-- An entry marked VF is that of a trial that freed a valve, and one marked GN that of a trial that grounded a node: the record shows no other repair.
pub vf_freed : VfFreed
vf_freed s x l w i h e = vf (get_or (run_in s l).entries i no_entry) (sym (shows (solve_of s x).lent.entries i (get_or (run_in s l).entries i no_entry) (entry_shown s x l w i h) 86 70) ∙ e)

pub gn_grounded : GnGrounded
gn_grounded s x l w i h e = gn (get_or (run_in s l).entries i no_entry) (sym (shows (solve_of s x).lent.entries i (get_or (run_in s l).entries i no_entry) (entry_shown s x l w i h) 71 78) ∙ e)

-- ---- the two bytes hold the number: it is below 1280

told_small : (flip : Flip) → flip_number flip < 1280
unfolding flip_number
told_small None = omega arith
told_small (Some (i, c)) = omega (arith, cause_small c)

judged_small : (o : Options) (d : Damping) (m : Stats) (flip : Flip) → (mark_of (judged o d m flip)).number < 1280
unfolding judged mark_of
judged_small o d m flip = go (converged_of (relative_change m.moved m.total o.accuracy) o.accuracy m.changed m.largest o.unit o.change) _
  where
    go : (b : Bool) (x : Damping) → (mark_of (cond b (Converged flip) (Stepped x flip))).number < 1280
    go true x = told_small flip
    go false x = told_small flip

entry_small : (f : Option ℕ) (o : Options) (d : Damping) (m : Stats) (flip : Flip) → ((p : ℕ) → f ≡ Some p → p < 320) → (mark_of (step_entry f o d m flip)).number < 1280
unfolding step_entry mark_of
entry_small (Some p) o d m flip h = omega (arith, h p refl)
entry_small None o d m flip h = judged_small o d m flip

module _ (s : List ℕ) (l : Layout) (d : Damping) (t : State) (net : Network l s) where
  step_small : (g y x : List Float) → (mark_of (step_of s l d t g y x).entry).number < 1280
  step_small g y x =
      repairs.step_entry_lem s l d t g y x (λ e. (mark_of e).number < 1280) (λ h q f m flip. entry_small (wild_place l h q f) (options_of s) d m flip (λ p e. wild_below l h q f p net.nodes net.links e))

  trial_small : (mark_of (trial_of s l d t).entry).number < 1280
  unfolding mark_of
  trial_small =
      repairs.ways s l d t (λ o. (mark_of o.entry).number < 1280)
      (λ j w. omega (arith, w.lowest.one, net.links)) (λ v w. omega (arith, (stop_node_lem s l net.unknowns t v w.stops).0, net.nodes))
      (λ v w. omega (arith, (stop_node_lem s l net.unknowns t v w.stops).0, net.nodes)) step_small

-- An entry's number can be read from its two bytes, the lower first.
pub number_shown : NumberShown
number_shown s x l w i h =
    let y = entry_shown s x l w i h in
    let c = network_of s l w.read in
    let p = point_in s l i in
    let small = trial_small s l p.damping p.state c in
    let same = ap (λ (e : Entry). (mark_of e).number) (solve_each_entry s l i h) in
    omega (arith, y.low, y.high, small, same)
