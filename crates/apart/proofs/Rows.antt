-- Each row of an evening is a single solve: by induction over the rows. Assumes nothing.
use Prim.Native.Nat.{ℕ, zero, suc, ◌+◌, ◌*◌, ◌≤◌, ◌<◌}
use mathlib.Core.Path.{◌≡◌, refl, sym, ap, ◌∙◌}
use mathlib.Core.Bool.{Bool, true, false, cond}
use mathlib.Core.Logic.{⊎_elim}
use mathlib.Core.List.{List}
use native.Mathlib.Nat.{eq-or-lt_of_le, le_of_suc-le-suc, mul-le-mul_right}
use native.Mathlib.Numerals.{add-one}
use native.Mathlib.Omega.{arith}
use borrow.Author.Tests.{eq-eqb, ne_eqb}
use lib.Dec.{eqb}
use lib.ListN.{length, drop}
use lib.Ieee.{Float}
use Rattle.layout.specs.declared.places.Layout.{Layout}
use Rattle.sheet.specs.Read.{read_of, Reading}
use Rattle.solver.specs.Solve.{trials_of}
use Rattle.row_sheet.specs.RowSheet.{row_sheet}
use Rattle.rowwise.specs.declared.admitting.Called.{Called}
use Rattle.rowwise.specs.declared.admitting.Lengths.{Lengths}
use Rattle.rowwise.specs.Rooms.{Lends, lends, lengths_of, row_in, row_put, room_of, room_put, Fits}
use Rattle.tolerance.specs.declared.Limits.{Limits}
use Rattle.rowwise.specs.Evening.{width_of, row_of, row_done, rows_done, admitted_of, after_admitted, after_read, evening_of}
use Rattle.rowwise.proofs.Laws.{row_end, fits_fewer, fits_admitted, same_lengths}
use Rattle.apart.specs.Apart.{Shown, shown, EachRow, Later, PastRows, RefusedCall}
use Rattle.apart.proofs.Parts.{put_back, put_same, put_before, put_after, put_length, in_length}
use Rattle.apart.proofs.Solves.{Kept, Long, row_long, row_bare, refit}
use Rattle.std.specs.Prelude.{Err, Ok, Option}

-- ---- one row put back

module _ (l : Layout) (trials width : ℕ) where
  -- where row k ends
  record Ends (k : ℕ) (b : Lends) : Type 0 where
    heads : k * l.nodes + l.nodes ≤ length b.heads
    demands : k * l.nodes + l.nodes ≤ length b.demands
    flows : k * l.links + l.links ≤ length b.flows
    statuses : k * l.links + l.links ≤ length b.statuses
    entries : k * (4 * trials) + 4 * trials ≤ length b.entries
    counts : k * width + width ≤ length b.counts
    totals : k * 3 + 3 ≤ length b.totals

  ends : (k : ℕ) (table : List Float) (b : Lends) → Fits l trials width (k + 1) (lengths_of table b) → Ends k b
  ends k table b f =
      record {
        heads = omega (arith, row_end k l.nodes, f.heads);
        demands = omega (arith, row_end k l.nodes, f.demands);
        flows = omega (arith, row_end k l.links, f.flows);
        statuses = omega (arith, row_end k l.links, f.statuses);
        entries = omega (arith, row_end k (4 * trials), f.entries);
        counts = omega (arith, row_end k width, f.counts);
        totals = omega (arith, row_end k 3, f.totals);
      }

  -- how long the room of a row is
  record Sized (y : Lends) : Type 0 where
    heads : length y.heads ≡ l.nodes
    demands : length y.demands ≡ l.nodes
    flows : length y.flows ≡ l.links
    statuses : length y.statuses ≡ l.links
    entries : length y.entries ≡ 4 * trials
    counts : length y.counts ≡ width
    totals : length y.totals ≡ 3

  sized : (k : ℕ) (b y : Lends) → Ends k b → Long (room_of l trials width k b) y → Sized y
  unfolding room_of
  sized k b y e g =
      record {
        heads = g.lent.heads ∙ in_length l.nodes k b.heads e.heads;
        demands = g.lent.demands ∙ in_length l.nodes k b.demands e.demands;
        flows = g.lent.flows ∙ in_length l.links k b.flows e.flows;
        statuses = g.lent.statuses ∙ in_length l.links k b.statuses e.statuses;
        entries = g.lent.entries ∙ in_length (4 * trials) k b.entries e.entries;
        counts = g.counts ∙ in_length width k b.counts e.counts;
        totals = g.totals ∙ in_length 3 k b.totals e.totals;
      }

  put_lengths : (k : ℕ) (table : List Float) (b y : Lends) → Ends k b → Sized y → length y.scratch ≡ length b.scratch → lengths_of table (room_put l trials width k y b) ≡ lengths_of table b
  unfolding room_put
  put_lengths k table b y e z x =
      same_lengths table b (room_put l trials width k y b) (put_length l.nodes k y.heads b.heads e.heads z.heads) (put_length l.nodes k y.demands b.demands e.demands z.demands)
      (put_length l.links k y.flows b.flows e.flows z.flows) (put_length l.links k y.statuses b.statuses e.statuses z.statuses)
      (put_length (4 * trials) k y.entries b.entries e.entries z.entries) (put_length width k y.counts b.counts e.counts z.counts)
      (put_length 3 k y.totals b.totals e.totals z.totals) x

  room_same : (k : ℕ) (b y : Lends) → Ends k b → Sized y → shown (room_of l trials width k (room_put l trials width k y b)) ≡ shown y
  unfolding shown room_of room_put
  room_same k b y e z =
      rw
      (put_same l.nodes k y.heads b.heads e.heads z.heads, put_same l.nodes k y.demands b.demands e.demands z.demands, put_same l.links k y.flows b.flows e.flows z.flows, put_same l.links k y.statuses b.statuses e.statuses z.statuses, put_same (4 * trials) k y.entries b.entries e.entries z.entries, put_same width k y.counts b.counts e.counts z.counts, put_same 3 k y.totals b.totals e.totals z.totals)

  room_before : (r k : ℕ) (b y : Lends) → r < k → Ends k b → shown (room_of l trials width r (room_put l trials width k y b)) ≡ shown (room_of l trials width r b)
  unfolding shown room_of room_put
  room_before r k b y h e =
      rw
      (put_before l.nodes r k y.heads b.heads h (omega (arith, e.heads)), put_before l.nodes r k y.demands b.demands h (omega (arith, e.demands)), put_before l.links r k y.flows b.flows h (omega (arith, e.flows)), put_before l.links r k y.statuses b.statuses h (omega (arith, e.statuses)), put_before (4 * trials) r k y.entries b.entries h (omega (arith, e.entries)), put_before width r k y.counts b.counts h (omega (arith, e.counts)), put_before 3 r k y.totals b.totals h (omega (arith, e.totals)))

  room_after : (r k : ℕ) (b y : Lends) → k < r → Ends k b → Sized y → shown (room_of l trials width r (room_put l trials width k y b)) ≡ shown (room_of l trials width r b)
  unfolding shown room_of room_put
  room_after r k b y h e z =
      rw
      (put_after l.nodes r k y.heads b.heads h e.heads z.heads, put_after l.nodes r k y.demands b.demands h e.demands z.demands, put_after l.links r k y.flows b.flows h e.flows z.flows, put_after l.links r k y.statuses b.statuses h e.statuses z.statuses, put_after (4 * trials) r k y.entries b.entries h e.entries z.entries, put_after width r k y.counts b.counts h e.counts z.counts, put_after 3 r k y.totals b.totals h e.totals z.totals)

  past : (rows k : ℕ) (b y : Lends) → k < rows → Ends k b → Sized y → Later l trials width rows b (room_put l trials width k y b)
  unfolding room_put
  past rows k b y h e z =
      let m : (n : ℕ) → k * n + n ≤ rows * n = λ n. omega (arith, row_end k n, fewer n) in
      record {
        heads = put_back l.nodes k (rows * l.nodes) y.heads b.heads e.heads z.heads (m l.nodes);
        demands = put_back l.nodes k (rows * l.nodes) y.demands b.demands e.demands z.demands (m l.nodes);
        flows = put_back l.links k (rows * l.links) y.flows b.flows e.flows z.flows (m l.links);
        statuses = put_back l.links k (rows * l.links) y.statuses b.statuses e.statuses z.statuses (m l.links);
        entries = put_back (4 * trials) k (rows * (4 * trials)) y.entries b.entries e.entries z.entries (m (4 * trials));
        counts = put_back width k (rows * width) y.counts b.counts e.counts z.counts (m width);
        totals = put_back 3 k (rows * 3) y.totals b.totals e.totals z.totals (m 3);
      }
    where
      fewer : (n : ℕ) → (k + 1) * n ≤ rows * n
      fewer n = mul-le-mul_right {m = k + 1} {n = rows} n (omega arith)

-- ---- the rows

module _ (j : Option Limits) (s : List ℕ) (l : Layout) (table : List Float) (rows : ℕ) (b : Lends) (fits : Fits l (trials_of s) (width_of j) rows (lengths_of table b)) where
  abbrev trials : ℕ
  trials = trials_of s

  abbrev width : ℕ
  width = width_of j

  abbrev upto : ℕ → Lends
  upto k = rows_done j s l table k b

  abbrev row : ℕ → Lends
  row k = row_of j (row_sheet s l table k) (room_of l trials width k (upto k))

  done_put : (k : ℕ) → upto (suc k) ≡ room_put l trials width k (row k) (upto k)
  unfolding rows_done row_done
  done_put k = refl

  -- what follows where every buffer is as long as it was
  module _ (k : ℕ) (h : k < rows) (same : lengths_of table (upto k) ≡ lengths_of table b) where
    fit : Ends l trials width k (upto k)
    fit = ends l trials width k table (upto k) (rw same (fits_fewer l trials width rows (k + 1) (lengths_of table b) (omega arith) fits))

    wide : Long (room_of l trials width k (upto k)) (row k)
    wide = row_long j (row_sheet s l table k) (room_of l trials width k (upto k))

    size : Sized l trials width (row k)
    size = sized l trials width k (upto k) (row k) fit wide

    scratch-long : length (row k).scratch ≡ length (upto k).scratch
    unfolding room_of
    scratch-long = wide.lent.scratch

  none_done : upto zero ≡ b
  unfolding rows_done
  none_done = refl

  long : (k : ℕ) → k ≤ rows → lengths_of table (upto k) ≡ lengths_of table b
  long zero h = ap (lengths_of table) none_done
  long (suc k) h =
      let less : k < rows = omega arith in
      let same = long k (omega arith) in
      ap (lengths_of table) (done_put k) ∙ put_lengths l trials width k table (upto k) (row k) (fit k less same) (size k less same) (scratch-long k less same) ∙ same

  -- rows to come have their rooms as they were
  later : (k r : ℕ) → k ≤ r → r < rows → shown (room_of l trials width r (upto k)) ≡ shown (room_of l trials width r b)
  later zero r h g = ap (λ (x : Lends). shown (room_of l trials width r x)) none_done
  later (suc k) r h g =
      let less : k < rows = omega arith in
      let same = long k (omega arith) in
      ap (λ (x : Lends). shown (room_of l trials width r x)) (done_put k)
      ∙ room_after l trials width r k (upto k) (row k) h (fit k less same) (size k less same)
      ∙ later k r (omega arith) g

  -- what row k shows does not depend on the rows before it
  row_apart : (k : ℕ) → k < rows → shown (row k) ≡ shown (row_of j (row_sheet s l table k) (room_of l trials width k b))
  unfolding shown room_of
  row_apart k h =
      let x = (upto k).scratch in
      let z = b.scratch in
      let e : length z ≡ length x = sym (ap (λ (n : Lengths). n.scratch) (long k (omega arith))) in
      ap (λ (v : Shown). shown (row_of j (row_sheet s l table k) (refit x v))) (later k k (omega arith) h)
      ∙ row_bare j (row_sheet s l table k) (shown (room_of l trials width k b)) x z e

  each : (k r : ℕ) → k ≤ rows → r < k → shown (room_of l trials width r (upto k)) ≡ shown (row_of j (row_sheet s l table r) (room_of l trials width r b))
  each zero r h g = absurd (let z : ⊥ = omega arith in z)
  each (suc k) r h g =
      let less : k < rows = omega arith in
      let same = long k (omega arith) in
      let f = fit k less same in
      ap (λ (x : Lends). shown (room_of l trials width r x)) (done_put k)
      ∙ ⊎_elim
      (λ (q : r ≡ k). rw q (room_same l trials width k (upto k) (row k) f (size k less same) ∙ row_apart k less))
      (λ (q : r < k). room_before l trials width r k (upto k) (row k) q f ∙ each k r (omega arith) q)
      (eq-or-lt_of_le (le_of_suc-le-suc g))

  over : (k : ℕ) → k ≤ rows → Later l trials width rows b (upto k)
  unfolding rows_done
  over zero h = record { heads = refl; demands = refl; flows = refl; statuses = refl; entries = refl; counts = refl; totals = refl }
  over (suc k) h =
      let less : k < rows = omega arith in
      let same = long k (omega arith) in
      let p = past l trials width rows k (upto k) (row k) less (fit k less same) (size k less same) in
      let o = over k (omega arith) in
      rw (done_put k)
      (record {
        heads = p.heads ∙ o.heads;
        demands = p.demands ∙ o.demands;
        flows = p.flows ∙ o.flows;
        statuses = p.statuses ∙ o.statuses;
        entries = p.entries ∙ o.entries;
        counts = p.counts ∙ o.counts;
        totals = p.totals ∙ o.totals;
      })

-- ---- the whole call

-- what a call that is not refused comes to
went : (j : Option Limits) (s : List ℕ) (rows : ℕ) (table : List Float) (b : Lends) (l : Layout) → read_of s ≡ Ok l → (evening_of j s rows table b).called.number ≡ 0
    → ((evening_of j s rows table b).lends ≡ rows_done j s l table rows b) × Fits l (trials_of s) (width_of j) rows (lengths_of table b)
unfolding evening_of after_read after_admitted
went j s rows table b l e h =
    let c = admitted_of l (trials_of s) (width_of j) rows (lengths_of table b) in
    let n : c.number ≡ 0 = rw e at h in
    (rw (e, eq-eqb c.number 0 n), fits_admitted j l (trials_of s) (width_of j) rows (lengths_of table b) c refl refl n)

pub each_row : EachRow
each_row j s rows table b l r e h g =
    let w = went j s rows table b l e h in
    ap (λ (x : Lends). shown (room_of l (trials_of s) (width_of j) r x)) w.0 ∙ each j s l table rows b w.1 rows r (omega arith) g

pub past_rows : PastRows
past_rows j s rows table b l e h = let w = went j s rows table b l e h in rw w.0 (over j s l table rows b w.1 rows (omega arith))

call_refused : (j : Option Limits) (s : List ℕ) (rows : ℕ) (table : List Float) (b : Lends) (r : Reading) → ((after_read j s rows table b r).called.number ≡ 0 → ⊥) → (after_read j s rows table b r).lends ≡ b
unfolding after_read after_admitted
call_refused j s rows table b (Err r) h = refl
call_refused j s rows table b (Ok l) h = rw (ne_eqb (admitted_of l (trials_of s) (width_of j) rows (lengths_of table b)).number 0 h)

pub refused_call : RefusedCall
unfolding evening_of
refused_call j s rows table b h = call_refused j s rows table b (read_of s) h
