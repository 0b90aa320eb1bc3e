-- Demand 1: what a solve changes, by its number. Assumes nothing.
use Prim.Native.Nat.{ℕ, zero, suc, ◌+◌, ◌-◌, ◌*◌, ◌≤◌, ◌<◌}
use mathlib.Core.Path.{◌≡◌, refl, sym, ap, ◌∙◌}
use mathlib.Core.List.{List, ◌++◌}
use mathlib.Core.Logic.{⊎_elim}
use native.Mathlib.Nat.{eq-or-lt_of_le, le_of_suc-le-suc}
use native.Mathlib.Omega.{arith}
use lib.ListN.{length, get_or, take, drop, length-append, get_or-replicate, get_or-append}
use lib.Seq.{get_or-set_same, get_or-set_other, get_or-append-add, get_or-take, get_or-drop, length-take-le}
use lib.Ieee.{Float, nan, binary64, of_bits}
use Rattle.constants.specs.Arithmetic.{plus}
use Rattle.constants.specs.Constants as constant
use Rattle.refusals.specs.Refusals.{number_of, place_of}
use Rattle.refusals.specs.declared.refusals.Refusal.{Refusal}
use Rattle.refusals.specs.declared.refusals.Refusal.TheVariants.{Unreadable, NodeCount, LinkCount, Field, Ends}
use Rattle.layout.specs.declared.places.Layout.{Layout}
use Rattle.drawing.specs.Drawing.{counting}
use Rattle.drawing.proofs.Laws.{counting_long}
use Rattle.columns.specs.Columns.{add_to, zeros, copied}
use Rattle.columns.proofs.Laws.{zeros_long}
use Rattle.state.specs.State.{State}
use Rattle.balance.specs.Balance.{settled_of}
use Rattle.balance.proofs.Kept.{settled_long}
use Rattle.trial.specs.Trial.{Room, repair_of}
use Rattle.entries.specs.Entries.{none, tallied}
use Rattle.marks.specs.Marks.{written}
use Rattle.entries.specs.declared.Ended.{Ended}
use Rattle.entries.specs.declared.Ended.TheVariants.{Balanced, Failed, Strayed, Limit}
use Rattle.entries.specs.declared.Tally.{Tally}
use Rattle.answers.specs.Answers.{Lent, failed_of, refused_of}
use Rattle.conclusion.specs.Conclusion.{emptied, unsolved, delivered, told}
use Rattle.solver.specs.Solve.{trials_of}
use Rattle.solver.proofs.Laws.{network_of}
use Rattle.promises.specs.Trials.{start_point, run_in, point_in}
use Rattle.promises.specs.Solves.{Runs}
use Rattle.promises.specs.Buffers.{Buffers, Over, Delivered}
use Rattle.promises.specs.Statements.{SolveBuffers, SolveDelivers}
use Rattle.promises.proofs.Trials.{solve_last_state}
use Rattle.promises.proofs.Bound.{room_after, start_room}
use Rattle.promises.proofs.Solves.{comes, ways, tells}
use Rattle.runs.proofs.Laws.{tallied_trials}
use Rattle.promises.proofs.Counts.{written_past}

-- ---- columns

zeros_at : (n i : ℕ) → i < n → get_or (zeros n) i nan ≡ constant.zero
unfolding zeros
zeros_at n i h = get_or-replicate n i (of_bits binary64 0) nan h

cleared_first : (x : List Float) (i : ℕ) → i < 4096 → get_or (emptied x) i nan ≡ constant.zero
unfolding emptied
cleared_first x i h = get_or-append (zeros 4096) (drop 4096 x) nan i (omega (arith, zeros_long 4096)) ∙ zeros_at 4096 i h

-- past the first of two lists that is n long
past : {A : Type 0} (n : ℕ) (z : A) (a to : List A) → length a ≡ n → (i : ℕ) → n ≤ i → get_or (a ++ drop n to) i z ≡ get_or to i z
past n z a to e i h =
    let p : length a + (i - n) ≡ i = omega arith in
    let q : n + (i - n) ≡ i = omega arith in
    ap (λ (j : ℕ). get_or (a ++ drop n to) j z) (sym p) ∙ get_or-append-add a (drop n to) (i - n) z ∙ get_or-drop n to (i - n) z ∙ ap (λ (j : ℕ). get_or to j z) q

cleared_later : (x : List Float) (i : ℕ) → 4096 ≤ i → get_or (emptied x) i nan ≡ get_or x i nan
unfolding emptied
cleared_later x i h = past 4096 nan (zeros 4096) x (zeros_long 4096) i h

over : {A : Type 0} (n : ℕ) (z : A) (from to : List A) → n ≤ length from → Over n z from to (copied n from to)
unfolding copied
over n z from to h =
    let e : length (take n from) ≡ n = length-take-le n from h in
    record {
      first = λ i x. get_or-append (take n from) (drop n to) z i (omega (arith, e)) ∙ get_or-take n from i z x;
      later = λ i x. past n z (take n from) to e i x;
    }

-- what was copied is there
copied_room : {A : Type 0} (n : ℕ) (from to : List A) → n ≤ length from → n ≤ length (copied n from to)
unfolding copied
copied_room n from to h = omega (arith, length-append (take n from) (drop n to), length-take-le n from h)

settled_later : (n : ℕ) (d : List Float) (i : ℕ) → n ≤ i → get_or (settled_of n d) i nan ≡ get_or d i nan
unfolding settled_of add_to
settled_later zero d i h = refl
settled_later (suc n) d i h = get_or-set_other (settled_of n d) n i (plus (get_or (settled_of n d) n nan) constant.zero) nan (λ z. omega arith) ∙ settled_later n d i (omega arith)

-- each of the first n demands gained +0.0
settled_at : (n : ℕ) (d : List Float) → n ≤ length d → (i : ℕ) → i < n → get_or (settled_of n d) i nan ≡ plus (get_or d i nan) constant.zero
unfolding settled_of add_to
settled_at zero d h i x = absurd (let y : ⊥ = omega arith in y)
settled_at (suc n) d h i x =
    ⊎_elim
    (λ (q : i ≡ n).
    ap (λ (j : ℕ). get_or (add_to (settled_of n d) n constant.zero) j nan) q
    ∙ get_or-set_same (settled_of n d) n (plus (get_or (settled_of n d) n nan) constant.zero) nan (omega (arith, settled_long n d))
    ∙ ap (λ (x : Float). plus x constant.zero) (settled_later n d n (omega arith) ∙ ap (λ (j : ℕ). get_or d j nan) (sym q)))
    (λ (q : i < n). get_or-set_other (settled_of n d) n i (plus (get_or (settled_of n d) n nan) constant.zero) nan (λ z. omega arith) ∙ settled_at n d (omega arith) i q)
    (eq-or-lt_of_le (le_of_suc-le-suc x))

-- ---- each end of a solve

no : {A : Type 0} (n : ℕ) → n ≤ 0 → 1 ≤ n → A
no n a b = absurd (let y : ⊥ = omega arith in y)

between : {A : Type 0} (n : ℕ) → 6 ≤ n → n ≤ 5 → A
between n a b = absurd (let y : ⊥ = omega arith in y)

refused_buffers : (number place : ℕ) (x : Lent) → number ≤ 5 → Buffers x (refused_of number place x)
unfolding refused_of failed_of
refused_buffers number place x h =
    record {
      number = omega arith;
      untouched = λ a b. record { lent = refl; trials = refl; freed = refl; grounded = refl };
      withheld = λ a. record { heads = refl; demands = refl; flows = refl; statuses = refl };
      totals = λ a. record { demand = refl; supply = refl; error = refl };
      cleared = λ a. no 0 (omega arith) a;
      scratch_past = λ i a. refl;
      entries_past = λ i a. refl;
    }

number_small : (r : Refusal) → number_of r ≤ 5
unfolding number_of
number_small (Unreadable p) = omega arith
number_small NodeCount = omega arith
number_small LinkCount = omega arith
number_small (Field p) = omega arith
number_small (Ends p) = omega arith

module _ (x : Lent) (tally : Tally) (bytes : List ℕ) (kept : (i : ℕ) → 4 * tally.trials ≤ i → get_or bytes i 0 ≡ get_or x.entries i 0) where
  unsolved_buffers : (number place : ℕ) → 6 ≤ number → number ≤ 8 → Buffers x (unsolved number place tally bytes x)
  unfolding unsolved failed_of
  unsolved_buffers number place a b =
      record {
        number = b;
        untouched = λ d e. between number a e;
        withheld = λ d. record { heads = refl; demands = refl; flows = refl; statuses = refl };
        totals = λ d. record { demand = refl; supply = refl; error = refl };
        cleared = λ d. cleared_first x.scratch;
        scratch_past = cleared_later x.scratch;
        entries_past = kept;
      }

  told_buffers : (s : List ℕ) (l : Layout) (m : ℕ) (t : State) (z : Ended) → Buffers x (told s l m x t tally bytes z)
  unfolding told delivered
  told_buffers s l m t Balanced =
      record {
        number = omega arith;
        untouched = λ a b. no 0 (omega arith) a;
        withheld = λ a. between 6 (omega arith) (omega arith);
        totals = λ a. no 0 (omega arith) a;
        cleared = λ a. cleared_first x.scratch;
        scratch_past = cleared_later x.scratch;
        entries_past = kept;
      }
  told_buffers s l m t (Failed v) = unsolved_buffers 6 v.0 (omega arith) (omega arith)
  told_buffers s l m t (Strayed p) = unsolved_buffers 7 p (omega arith) (omega arith)
  told_buffers s l m t Limit = unsolved_buffers 8 m (omega arith) (omega arith)

-- ---- the whole solve

-- Demand 1: numbers are 0 to 8. 1 to 5 change nothing lent and report zero counts; 6 to 8 change only the record and the scratch; all but 0 report totals of +0.0.
-- Scratch is +0.0 after any solve that ran a trial; scratch past 4,096 and record bytes past the entries stay. For every sheet and all buffers.
pub solve_buffers : SolveBuffers
solve_buffers s x =
    ways repair_of s x (Buffers x)
    (λ r e. refused_buffers (number_of r) (place_of r) x (number_small r)) (λ l place e q. refused_buffers 5 place x (omega arith))
    (λ l w.
    let es = (run_in s l).entries in
    rw (tells s l x)
    (told_buffers x (tallied none es) (written 0 es x.entries) (λ i h. written_past es 0 x.entries i (omega (arith, tallied_trials none es))) s l (trials_of s) (run_in s l).state (run_in s l).ended))

balanced_delivers : (s : List ℕ) (l : Layout) (m : ℕ) (x : Lent) (t : State) (tally : Tally) (bytes : List ℕ) (z : Ended) → Room l t
    → (told s l m x t tally bytes z).answer.number ≡ 0 → Delivered s l t x (told s l m x t tally bytes z)
unfolding told delivered unsolved failed_of
balanced_delivers s l m x t tally bytes Balanced r e =
    let k = counting l.pressures t.drawn t.demands in
    let long : l.nodes ≤ length k = counting_long l.nodes l.pressures t.drawn t.demands r.drawn r.demands in
    let d = over l.nodes nan k x.demands long in
    let c = copied l.nodes k x.demands in
    record {
      heads = over l.nodes nan t.heads x.heads r.heads;
      demands = λ i h. settled_at l.nodes c (copied_room l.nodes k x.demands long) i h ∙ ap (λ (y : Float). plus y constant.zero) (d.first i h);
      demands_later = λ i h. settled_later l.nodes c i h ∙ d.later i h;
      flows = over l.links nan t.flows x.flows r.flows;
      statuses = over l.links 0 t.statuses x.statuses r.statuses;
      demand = refl;
      supply = refl;
      error = refl;
    }
balanced_delivers s l m x t tally bytes (Failed v) r e = absurd (let y : ⊥ = omega arith in y)
balanced_delivers s l m x t tally bytes (Strayed p) r e = absurd (let y : ⊥ = omega arith in y)
balanced_delivers s l m x t tally bytes Limit r e = absurd (let y : ⊥ = omega arith in y)

run_room : (s : List ℕ) (l : Layout) (x : Lent) → Runs s x l → Room l (run_in s l).state
unfolding point_in start_point
run_room s l x w =
    rw (solve_last_state s l)
    (room_after s l (network_of s l w.read).unknowns (length (run_in s l).entries) (start_point s l) (start_room s l w.read))

-- On 0, heads and demands hold one entry a node, flows and statuses one a link, those of the state that the run left; later entries are untouched.
pub solve_delivers : SolveDelivers
solve_delivers s x l w =
    rw (comes repair_of s x l w, tells s l x)
    (balanced_delivers s l (trials_of s) x (run_in s l).state (tallied none (run_in s l).entries) (written 0 (run_in s l).entries x.entries) (run_in s l).ended (run_room s l x w))
