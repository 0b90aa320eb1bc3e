-- What a good reading gives, and the ways out of the solve, over plain variables. Assumes nothing.
use Prim.Native.Nat.{ℕ, ◌+◌, ◌≤◌}
use mathlib.Core.Path.{◌≡◌, refl, sym, ap, ◌∙◌}
use mathlib.Core.List.{List, ◌++◌}
use mathlib.Core.Bool.{Bool, true, false, not, ◌&&◌, ◌||◌}
use native.Mathlib.Omega.{arith}
use native.Mathlib.Nat.{le_of_eq}
use borrow.Author.Tests.{leb-true, eqb-false, not-true}
use lib.Dec.{leb, eqb}
use lib.ListN.{length, drop}
use lib.Ieee.{Float, lt, le}
use Rattle.records.specs.Records.{byte_at, pair_at, options_of}
use Rattle.patterns.specs.Bytes.{from_bytes}
use Rattle.fields.specs.Fields.{base_bounds, null, all_within, options_good}
use Rattle.fields.specs.declared.fields.Bounds.{Bounds}
use Rattle.refusals.specs.Refusals.{number_of, place_of}
use Rattle.refusals.specs.declared.refusals.Refusal.{Refusal}
use Rattle.sheet.specs.Read.{read_of, Reading}
use Rattle.layout.specs.declared.places.Layout.{Layout}
use Rattle.layout.specs.Places.{link_place}
use Rattle.nodes.specs.Nodes.{in_service}
use Rattle.links.specs.Links.{link_start, link_end}
use Rattle.ends.specs.Ends.{ends_good}
use Rattle.touching.specs.Touching.{Joined}
use Rattle.sheet.proofs.Laws.{and_left, and_right}
use Rattle.accepted.proofs.Accepts.{accepts, ends_are, laid_are, unknowns_are}
use Rattle.columns.specs.Columns.{zeros}
use Rattle.state.specs.Network.{Network}
use Rattle.state.specs.State.{State}
use Rattle.trial.specs.Trial.{Repair}
use Rattle.entries.specs.Entries.{damping_start, none}
use Rattle.runs.specs.Run.{Finished, run_with, finish}
use Rattle.answers.specs.Answers.{Lent, Solved, too_short, failed_of, refused_of}
use Rattle.conclusion.specs.Conclusion.{emptied, told}
use Rattle.answers.specs.declared.Answer.{Answer}
use Rattle.solver.specs.Solve.{trials_of, start_of, run_of, solved_with, after_short, after_read, solve_with}
use Rattle.std.specs.Prelude.{Err, None, Ok, Option, Some}

-- ---- a sheet that was read

pub network_of : (s : List ℕ) (l : Layout) → read_of s ≡ Ok l → Network l s
unfolding read_of base_bounds
network_of s l h =
    let a = accepts base_bounds s l h in
    record { laid = laid_are base_bounds s l a; nodes = a.few_nodes; links = a.few_links; ends = ends_are base_bounds s l a; unknowns = unknowns_are base_bounds s l a }

-- its links join nodes, and each two of them
pub joined_of_lem : (s : List ℕ) (l : Layout) → read_of s ≡ Ok l → Joined (link_start s l) (link_end s l) l.nodes l.links
unfolding read_of link_start link_end ends_good
joined_of_lem s l h =
    let a = accepts base_bounds s l h in
    let e = ends_are base_bounds s l a in
    record {
      start_in = e.start;
      end_in = e.end;
      apart = λ j b same.
          let at = link_place l j in
          let distinct = not (eqb (pair_at s (at + 5)) (pair_at s (at + 7))) in
          let prv = not (eqb (byte_at s (at + 2)) 1) || in_service s l (pair_at s (at + 7)) in
          let psv = not (eqb (byte_at s (at + 2)) 2) || in_service s l (pair_at s (at + 5)) in
          eqb-false (pair_at s (at + 5)) (pair_at s (at + 7)) (not-true _ (and_left distinct prv (and_left (distinct && prv) psv (a.each_ends j b)))) same;
    }

trials_in : (b : Bounds) (s : List ℕ) → options_good b s ≡ true → pair_at s 26 ≤ b.trials
unfolding options_good
trials_in b s h =
    let f = all_within b 3 s 2 && lt null (from_bytes s 2) && le null (from_bytes s 10) && le null (from_bytes s 18) && leb 1 (pair_at s 26) in
    let g = leb (pair_at s 26) b.trials in
    leb-true (pair_at s 26) b.trials (and_right f g (and_left (f && g) (leb (byte_at s 28) b.unit) h))

pub few_trials : (s : List ℕ) (l : Layout) → read_of s ≡ Ok l → trials_of s ≤ 200
unfolding read_of base_bounds options_of
few_trials s l h = trials_in base_bounds s (accepts base_bounds s l h).options

-- ---- the run and its end

pub emptied_part : (y x : List Float) → y ≡ zeros 4096 → y ++ drop 4096 x ≡ emptied x
unfolding emptied
emptied_part y x e = rw e

pub run_of_lem : (repair : Repair) (s : List ℕ) (l : Layout) (trials : ℕ) (bytes : List ℕ) (t : State) (f : Finished)
    → trials ≡ trials_of s → t ≡ start_of s l → f ≡ finish 0 none bytes (run_with repair s l trials damping_start t) → f ≡ run_of repair s l bytes
unfolding run_of
run_of_lem repair s l trials bytes t f et es ef = rw (← et, ← es) ef

pub solved_of : (repair : Repair) (s : List ℕ) (l : Layout) (trials : ℕ) (b : Lent) (f : Finished) (o : Solved)
    → trials ≡ trials_of s → f ≡ run_of repair s l b.entries → o ≡ told s l trials b f.state f.ran.tally f.bytes f.ran.ended
    → o ≡ solved_with repair s l b
unfolding solved_with
solved_of repair s l trials b f o et ef eo = rw (← ef, ← et) eo

-- ---- before the run

module _ (repair : Repair) (s : List ℕ) (b : Lent) (reading : Reading) (read : reading ≡ read_of s) where
  pub solve_refused : (a : Answer) (r : Refusal) → reading ≡ Err r → a ≡ failed_of (number_of r) (place_of r) none → record { answer = a; lent = b } ≡ solve_with repair s b
  unfolding solve_with after_read refused_of
  solve_refused a r e ea = rw (← read, e, ea)

  pub solve_good : (o : Solved) (l : Layout) → reading ≡ Ok l → o ≡ after_read repair s b (Ok l) → o ≡ solve_with repair s b
  unfolding solve_with
  solve_good o l e eo = rw (← read, e) eo

module _ (repair : Repair) (s : List ℕ) (b : Lent) (l : Layout) (trials : ℕ) (f : Option ℕ) (allowed : trials ≡ trials_of s)
    (short : f ≡ too_short l trials (length b.heads) (length b.demands) (length b.flows) (length b.statuses) (length b.entries) (length b.scratch)) where
  pub solve_short : (a : Answer) (place : ℕ) → f ≡ Some place → a ≡ failed_of 5 place none → record { answer = a; lent = b } ≡ after_read repair s b (Ok l)
  unfolding after_read after_short refused_of
  solve_short a place e ea = rw (← allowed, ← short, e, ea)

  pub solve_runs : (o : Solved) → f ≡ None → o ≡ solved_with repair s l b → o ≡ after_read repair s b (Ok l)
  unfolding after_read after_short
  solve_runs o e eo = rw (← allowed, ← short, e) eo
