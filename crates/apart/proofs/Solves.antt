-- A solve leaves every buffer as long as it was, and but for the scratch it does not depend on what the scratch held. Assumes nothing.
use Prim.Native.Nat.{ℕ, zero, suc, ◌+◌, ◌*◌, ◌≤◌}
use mathlib.Core.Path.{◌≡◌, refl, sym, ap, ◌∙◌}
use mathlib.Core.List.{List, [], ◌∷◌, ◌++◌}
use native.Mathlib.Omega.{arith}
use lib.ListN.{length, take, drop, set, length-append, length-drop, length-set}
use lib.Seq.{length-take-le}
use lib.Ieee.{Float}
use Rattle.layout.specs.declared.places.Layout.{Layout}
use Rattle.sheet.specs.Read.{read_of, Reading}
use Rattle.refusals.specs.Refusals.{number_of, place_of}
use Rattle.tolerance.specs.declared.Limits.{Limits}
use Rattle.drawing.specs.Drawing.{counting}
use Rattle.drawing.proofs.Laws.{counting_long}
use Rattle.columns.specs.Columns.{zeros, copied}
use Rattle.columns.proofs.Laws.{zeros_long}
use Rattle.state.specs.State.{State}
use Rattle.balance.specs.Balance.{settled_of}
use Rattle.balance.proofs.Kept.{settled_long}
use Rattle.trial.specs.Trial.{Room, repair_of}
use Rattle.entries.specs.Entries.{none, tallied}
use Rattle.entries.specs.declared.Entry.{Entry}
use Rattle.entries.specs.declared.Ended.{Ended}
use Rattle.entries.specs.declared.Ended.TheVariants.{Balanced, Failed, Strayed, Limit}
use Rattle.entries.specs.declared.Tally.{Tally}
use Rattle.marks.specs.Marks.{mark_of, put_of, written}
use Rattle.marks.proofs.Laws.{put_long}
use Rattle.answers.specs.Answers.{Lent, lent, Solved, Enough, too_short, failed_of, refused_of}
use Rattle.answers.proofs.Laws.{enough}
use Rattle.conclusion.specs.Conclusion.{emptied, unsolved, delivered, told}
use Rattle.solver.specs.Solve.{trials_of, run_of, solved_with, after_short, after_read, solve_with, solve_of}
use Rattle.solver.proofs.Laws.{network_of}
use Rattle.sale.specs.Sale.{Sale, verdict_by, verdict_of, sale_of}
use Rattle.sale.specs.declared.judging.Verdict.{Verdict}
use Rattle.promises.specs.Trials.{start_point, run_in, point_in}
use Rattle.promises.specs.Solves.{Runs, short_in}
use Rattle.promises.proofs.Trials.{solve_last_state}
use Rattle.promises.proofs.Bound.{room_after, start_room}
use Rattle.promises.proofs.Solves.{ways, tells}
use Rattle.rowwise.specs.Rooms.{Lends, lends, lent_of}
use Rattle.rowwise.specs.Evening.{counts_put, verdict_put, totals_put, row_of}
use Rattle.apart.specs.Apart.{Shown, shown, Told, ToldBy}
use Rattle.std.specs.Prelude.{Err, None, Ok, Option, Some}

-- ---- lengths

pub record Kept (x y : Lent) : Type 0 where
  pub heads : length y.heads ≡ length x.heads
  pub demands : length y.demands ≡ length x.demands
  pub flows : length y.flows ≡ length x.flows
  pub statuses : length y.statuses ≡ length x.statuses
  pub entries : length y.entries ≡ length x.entries
  pub scratch : length y.scratch ≡ length x.scratch

copied_long : {A : Type 0} (n : ℕ) (from to : List A) → n ≤ length from → n ≤ length to → length (copied n from to) ≡ length to
unfolding copied
copied_long n from to h k = omega (arith, length-append (take n from) (drop n to), length-take-le n from h, length-drop n to)

emptied_long : (x : List Float) → 4096 ≤ length x → length (emptied x) ≡ length x
unfolding emptied
emptied_long x h = omega (arith, length-append (zeros 4096) (drop 4096 x), zeros_long 4096, length-drop 4096 x)

written_long : (es : List Entry) (i : ℕ) (r : List ℕ) → length (written i es r) ≡ length r
unfolding written
written_long [] i r = refl
written_long (e ∷ es) i r = written_long es (suc i) (put_of r i (mark_of e)) ∙ put_long r i (mark_of e)

told_kept : (s : List ℕ) (l : Layout) (m : ℕ) (x : Lent) (t : State) (tally : Tally) (bytes : List ℕ) (z : Ended) → Room l t → Enough l (trials_of s) x → length bytes ≡ length x.entries
    → Kept x (told s l m x t tally bytes z).lent
unfolding told delivered unsolved
told_kept s l m x t tally bytes Balanced r w e =
    let k = counting l.pressures t.drawn t.demands in
    let long : l.nodes ≤ length k = counting_long l.nodes l.pressures t.drawn t.demands r.drawn r.demands in
    record {
      heads = copied_long l.nodes t.heads x.heads r.heads w.heads;
      demands = settled_long l.nodes (copied l.nodes k x.demands) ∙ copied_long l.nodes k x.demands long w.demands;
      flows = copied_long l.links t.flows x.flows r.flows w.flows;
      statuses = copied_long l.links t.statuses x.statuses r.statuses w.statuses;
      entries = e;
      scratch = emptied_long x.scratch w.scratch;
    }
told_kept s l m x t tally bytes (Failed v) r w e = record { heads = refl; demands = refl; flows = refl; statuses = refl; entries = e; scratch = emptied_long x.scratch w.scratch }
told_kept s l m x t tally bytes (Strayed p) r w e = record { heads = refl; demands = refl; flows = refl; statuses = refl; entries = e; scratch = emptied_long x.scratch w.scratch }
told_kept s l m x t tally bytes Limit r w e = record { heads = refl; demands = refl; flows = refl; statuses = refl; entries = e; scratch = emptied_long x.scratch w.scratch }

refused_kept : (number place : ℕ) (x : Lent) → Kept x (refused_of number place x).lent
unfolding refused_of
refused_kept number place x = record { heads = refl; demands = refl; flows = refl; statuses = refl; entries = refl; scratch = refl }

run_room : (s : List ℕ) (l : Layout) → read_of s ≡ Ok l → Room l (run_in s l).state
unfolding point_in start_point
run_room s l e = rw (solve_last_state s l) (room_after s l (network_of s l e).unknowns (length (run_in s l).entries) (start_point s l) (start_room s l e))

enough_in : (s : List ℕ) (l : Layout) (x : Lent) → short_in s l x ≡ None → Enough l (trials_of s) x
unfolding short_in
enough_in s l x e = enough l (trials_of s) x e

pub solve_kept : (s : List ℕ) (x : Lent) → Kept x (solve_of s x).lent
solve_kept s x =
    ways repair_of s x (λ o. Kept x o.lent)
    (λ r e. refused_kept (number_of r) (place_of r) x) (λ l place e q. refused_kept 5 place x)
    (λ l w.
    let es = (run_in s l).entries in
    rw (tells s l x)
    (told_kept s l (trials_of s) x (run_in s l).state (tallied none es) (written 0 es x.entries) (run_in s l).ended (run_room s l w.read) (enough_in s l x w.enough) (written_long es 0 x.entries)))

-- ---- the scratch

-- what was lent with another scratch, and a solve without its scratch
abbrev pub with_scratch : List Float → Lent → Lent
with_scratch z x = lent x.heads x.demands x.flows x.statuses x.entries z

abbrev bare : Solved → Solved
bare o = record { answer = o.answer; lent = with_scratch [] o.lent }

module _ (s : List ℕ) (x : Lent) (z : List Float) where
  told_bare : (l : Layout) (m : ℕ) (t : State) (tally : Tally) (bytes : List ℕ) (ended : Ended) → bare (told s l m x t tally bytes ended) ≡ bare (told s l m (with_scratch z x) t tally bytes ended)
  unfolding told delivered unsolved
  told_bare l m t tally bytes Balanced = refl
  told_bare l m t tally bytes (Failed v) = refl
  told_bare l m t tally bytes (Strayed p) = refl
  told_bare l m t tally bytes Limit = refl

  short_bare : (l : Layout) (f : Option ℕ) → bare (after_short repair_of s l x f) ≡ bare (after_short repair_of s l (with_scratch z x) f)
  unfolding after_short refused_of solved_with
  short_bare l (Some place) = refl
  short_bare l None = let f = run_of repair_of s l x.entries in told_bare l (trials_of s) f.state f.ran.tally f.bytes f.ran.ended

  read_bare : (r : Reading) → length z ≡ length x.scratch → bare (after_read repair_of s x r) ≡ bare (after_read repair_of s (with_scratch z x) r)
  unfolding after_read refused_of
  read_bare (Err r) e = refl
  read_bare (Ok l) e =
      rw e
      (short_bare l
      (too_short l (trials_of s) (length x.heads) (length x.demands) (length x.flows) (length x.statuses) (length x.entries) (length x.scratch)))

  solve_bare : length z ≡ length x.scratch → bare (solve_of s x) ≡ bare (solve_of s (with_scratch z x))
  unfolding solve_with
  solve_bare e = read_bare (read_of s) e

verdict_bare : (s : List ℕ) (limits : Limits) (o : Solved) (r : Reading) → verdict_by s limits o r ≡ verdict_by s limits (bare o) r
unfolding verdict_by
verdict_bare s limits o (Err r) = refl
verdict_bare s limits o (Ok l) = refl

-- ---- a row

abbrev pub refit : List Float → Shown → Lends
refit z v = lends v.heads v.demands v.flows v.statuses v.entries v.counts v.totals z

-- what a row shows, from its solve without the scratch
abbrev solved_row : Solved → Shown → Shown
solved_row o v =
    record {
      heads = o.lent.heads;
      demands = o.lent.demands;
      flows = o.lent.flows;
      statuses = o.lent.statuses;
      entries = o.lent.entries;
      counts = counts_put o.answer v.counts;
      totals = totals_put o.answer v.totals;
    }

abbrev judged_row : Verdict → Solved → Shown → Shown
judged_row w o v =
    record {
      heads = o.lent.heads;
      demands = o.lent.demands;
      flows = o.lent.flows;
      statuses = o.lent.statuses;
      entries = o.lent.entries;
      counts = verdict_put w (counts_put o.answer v.counts);
      totals = totals_put o.answer v.totals;
    }

pub row_bare : (j : Option Limits) (s : List ℕ) (v : Shown) (x z : List Float) → length z ≡ length x → shown (row_of j s (refit x v)) ≡ shown (row_of j s (refit z v))
unfolding shown row_of sale_of verdict_of
row_bare None s v x z e = ap (λ (o : Solved). solved_row o v) (solve_bare s (lent_of (refit x v)) z e)
row_bare (Some limits) s v x z e =
    let o = solve_of s (lent_of (refit x v)) in
    let o' = solve_of s (lent_of (refit z v)) in
    let p = solve_bare s (lent_of (refit x v)) z e in
    let q : verdict_by s limits o (read_of s) ≡ verdict_by s limits o' (read_of s) =
    verdict_bare s limits o (read_of s) ∙ ap (λ (k : Solved). verdict_by s limits k (read_of s)) p ∙ sym (verdict_bare s limits o' (read_of s)) in
    ap (λ (w : Verdict). judged_row w (bare o) v) q ∙ ap (λ (k : Solved). judged_row (verdict_by s limits o' (read_of s)) k v) p

counts_long : (j : Option Limits) (s : List ℕ) (b : Lends) → (length (row_of j s b).counts ≡ length b.counts) × (length (row_of j s b).totals ≡ length b.totals)
unfolding row_of counts_put verdict_put totals_put
counts_long None s b = (simp length-set, simp length-set)
counts_long (Some limits) s b = (simp length-set, simp length-set)

row_lent : (j : Option Limits) (s : List ℕ) (b : Lends) → Kept (lent_of b) (lent_of (row_of j s b))
unfolding row_of sale_of
row_lent None s b = let k = solve_kept s (lent_of b) in record { heads = k.heads; demands = k.demands; flows = k.flows; statuses = k.statuses; entries = k.entries; scratch = k.scratch }
row_lent (Some limits) s b = let k = solve_kept s (lent_of b) in record { heads = k.heads; demands = k.demands; flows = k.flows; statuses = k.statuses; entries = k.entries; scratch = k.scratch }

-- a row leaves every part as long as it was
pub record Long (b c : Lends) : Type 0 where
  pub lent : Kept (lent_of b) (lent_of c)
  pub counts : length c.counts ≡ length b.counts
  pub totals : length c.totals ≡ length b.totals

pub row_long : (j : Option Limits) (s : List ℕ) (b : Lends) → Long b (row_of j s b)
row_long j s b = let c = counts_long j s b in record { lent = row_lent j s b; counts = c.0; totals = c.1 }

-- ---- counts and totals

five : (x : List ℕ) (a b c d e : ℕ) → length x ≡ 5 → set (set (set (set (set x 0 a) 1 b) 2 c) 3 d) 4 e ≡ a ∷ b ∷ c ∷ d ∷ e ∷ []
five (_ ∷ _ ∷ _ ∷ _ ∷ _ ∷ []) a b c d e h = refl
five [] a b c d e h = absurd (let z : ⊥ = omega arith in z)
five (_ ∷ []) a b c d e h = absurd (let z : ⊥ = omega arith in z)
five (_ ∷ _ ∷ []) a b c d e h = absurd (let z : ⊥ = omega arith in z)
five (_ ∷ _ ∷ _ ∷ []) a b c d e h = absurd (let z : ⊥ = omega arith in z)
five (_ ∷ _ ∷ _ ∷ _ ∷ []) a b c d e h = absurd (let z : ⊥ = omega arith in z)
five (_ ∷ _ ∷ _ ∷ _ ∷ _ ∷ _ ∷ x) a b c d e h = absurd (let z : ⊥ = omega arith in z)

three : (x : List Float) (a b c : Float) → length x ≡ 3 → set (set (set x 0 a) 1 b) 2 c ≡ a ∷ b ∷ c ∷ []
three (_ ∷ _ ∷ _ ∷ []) a b c h = refl
three [] a b c h = absurd (let z : ⊥ = omega arith in z)
three (_ ∷ []) a b c h = absurd (let z : ⊥ = omega arith in z)
three (_ ∷ _ ∷ []) a b c h = absurd (let z : ⊥ = omega arith in z)
three (_ ∷ _ ∷ _ ∷ _ ∷ x) a b c h = absurd (let z : ⊥ = omega arith in z)

seven : (x : List ℕ) (a b c d e f g : ℕ) → length x ≡ 7 → set (set (set (set (set (set (set x 0 a) 1 b) 2 c) 3 d) 4 e) 5 f) 6 g ≡ a ∷ b ∷ c ∷ d ∷ e ∷ f ∷ g ∷ []
seven (_ ∷ _ ∷ _ ∷ _ ∷ _ ∷ _ ∷ _ ∷ []) a b c d e f g h = refl
seven [] a b c d e f g h = absurd (let z : ⊥ = omega arith in z)
seven (_ ∷ []) a b c d e f g h = absurd (let z : ⊥ = omega arith in z)
seven (_ ∷ _ ∷ []) a b c d e f g h = absurd (let z : ⊥ = omega arith in z)
seven (_ ∷ _ ∷ _ ∷ []) a b c d e f g h = absurd (let z : ⊥ = omega arith in z)
seven (_ ∷ _ ∷ _ ∷ _ ∷ []) a b c d e f g h = absurd (let z : ⊥ = omega arith in z)
seven (_ ∷ _ ∷ _ ∷ _ ∷ _ ∷ []) a b c d e f g h = absurd (let z : ⊥ = omega arith in z)
seven (_ ∷ _ ∷ _ ∷ _ ∷ _ ∷ _ ∷ []) a b c d e f g h = absurd (let z : ⊥ = omega arith in z)
seven (_ ∷ _ ∷ _ ∷ _ ∷ _ ∷ _ ∷ _ ∷ _ ∷ x) a b c d e f g h = absurd (let z : ⊥ = omega arith in z)

-- a row's counts and totals are the single solve's answer
pub told_row : Told
unfolding row_of counts_put totals_put
told_row s b hc ht = (five b.counts _ _ _ _ _ hc, three b.totals _ _ _ ht)

pub told_by : ToldBy
unfolding row_of counts_put verdict_put totals_put
told_by limits s b hc ht = (seven b.counts _ _ _ _ _ _ _ hc, three b.totals _ _ _ ht)
