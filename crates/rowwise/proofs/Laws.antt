-- Rooms within their buffers, and what the calls did put together, over plain variables. Assumes nothing.
use Prim.Native.Nat.{ℕ, zero, suc, ◌+◌, ◌-◌, ◌*◌, ◌≤◌, ◌<◌}
use mathlib.Core.Path.{◌≡◌, refl, sym, ap, ◌∙◌, subst}
use mathlib.Core.Bool.{Bool, true, false, cond, ◌||◌}
use mathlib.Core.List.{List, [], ◌++◌, append-nil}
use native.Mathlib.Nat.{mul-le-mul, mul-le-mul_right, suc-mul}
use native.Mathlib.Numerals.{add-one}
use native.Mathlib.Omega.{arith}
use borrow.Author.Tests.{ltb-false}
use lib.Dec.{T, eqb, ltb}
use lib.ListN.{length, take, drop, length-append, length-drop, drop_of_length-le}
use lib.Seq.{length-take-le, take-length}
use lib.Ieee.{Float}
use Rattle.layout.specs.Places.{heading, link_place}
use Rattle.layout.proofs.Laws.{at_most}
use Rattle.layout.specs.declared.places.Layout.{Layout}
use Rattle.fields.specs.Fields.{base_bounds}
use Rattle.refusals.specs.Refusals.{number_of, place_of}
use Rattle.refusals.specs.declared.refusals.Refusal.{Refusal}
use Rattle.refusals.specs.declared.refusals.Refusal.TheVariants.{Field}
use Rattle.sheet.specs.Scan.{has_pressures, nodes_of, layout_of}
use Rattle.sheet.specs.Read.{read_of, with_unknowns, Reading}
use Rattle.accepted.proofs.Accepts.{accepts}
use Rattle.columns.specs.Columns.{copied}
use Rattle.row_sheet.specs.RowSheet.{row_sheet, bad_demand}
use Rattle.row_reading.specs.RowReading.{unless_bad, row_reading, AllFit}
use Rattle.row_reading.proofs.Theorem.{row_reads}
use Rattle.tolerance.specs.declared.Limits.{Limits}
use Rattle.entries.specs.Entries.{none}
use Rattle.answers.specs.declared.Answer.{Answer}
use Rattle.answers.specs.Answers.{Lent, Solved, failed_of}
use Rattle.trial.specs.Trial.{repair_of}
use Rattle.solver.specs.Solve.{trials_of, solve_of}
use Rattle.solver.proofs.Laws.{solve_refused}
use Rattle.sale.specs.Sale.{Sale, sale_of}
use Rattle.sale.proofs.Laws.{sale_refused}
use Rattle.rowwise.specs.declared.admitting.Called.{Called}
use Rattle.rowwise.specs.declared.admitting.Lengths.{Lengths}
use Rattle.rowwise.specs.Rooms.{Lends, lends, lent_of, lengths_of, row_in, row_put, room_of, room_put, Fits}
use Rattle.rowwise.specs.Evening.{width_of, counts_put, verdict_put, totals_put, row_of, refused_counts, row_done, rows_done, called, lacking, admitted_of, Evening, after_admitted, after_read, evening_of}
use Rattle.std.specs.Prelude.{Err, None, Ok, Option, Some}

-- the product of a few and a few
pub product_few : {m n : ℕ} (a b : ℕ) → m ≤ a → n ≤ b → m * n ≤ a * b
product_few a b h k = mul-le-mul h k

-- ---- one row

pub wide : (j : Option Limits) → 5 ≤ width_of j
unfolding width_of
wide None = omega arith
wide (Some limits) = omega arith

pub wide_by : (j : Option Limits) (limits : Limits) → j ≡ Some limits → 7 ≡ width_of j
unfolding width_of
wide_by j limits e = rw e

pub row_off : (j : Option Limits) (s : List ℕ) (b : Lends) (o : Solved) (n : List ℕ) (t : List Float) → j ≡ None → o ≡ solve_of s (lent_of b)
    → n ≡ counts_put o.answer b.counts → t ≡ totals_put o.answer b.totals
    → lends o.lent.heads o.lent.demands o.lent.flows o.lent.statuses o.lent.entries n t o.lent.scratch ≡ row_of j s b
unfolding row_of
row_off j s b o n t ej eo en et = rw (ej, ← eo, en, et)

pub row_by : (j : Option Limits) (s : List ℕ) (limits : Limits) (b : Lends) (o : Sale) (n n' : List ℕ) (t : List Float) → j ≡ Some limits → o ≡ sale_of s limits (lent_of b)
    → n ≡ counts_put o.answer b.counts → t ≡ totals_put o.answer b.totals → n' ≡ verdict_put o.verdict n
    → lends o.lent.heads o.lent.demands o.lent.flows o.lent.statuses o.lent.entries n' t o.lent.scratch ≡ row_of j s b
unfolding row_of
row_by j s limits b o n n' t ej eo en et ev = rw (ej, ← eo, ev, en, et)

-- a sheet that is refused with 3
solve_field : (s : List ℕ) (place : ℕ) (b : Lent) → read_of s ≡ Err (Field place) → record { answer = failed_of 3 place none; lent = b } ≡ solve_of s b
unfolding number_of place_of
solve_field s place b e = solve_refused repair_of s b (read_of s) refl (failed_of 3 place none) (Field place) e refl

sale_field : (s : List ℕ) (limits : Limits) (place : ℕ) (b : Lent) → read_of s ≡ Err (Field place)
    → ◌≡◌ {A = Sale} (record { answer = failed_of 3 place none; verdict = record { number = 1; place = 3 }; lent = b }) (sale_of s limits b)
unfolding number_of place_of failed_of
sale_field s limits place b e = sale_refused s limits b (read_of s) (failed_of 3 place none) (record { number = 1; place = 3 }) (Field place) refl e refl refl

pub row_refused : (j : Option Limits) (s : List ℕ) (place : ℕ) (b : Lends) (n : List ℕ) (t : List Float) → read_of s ≡ Err (Field place) → n ≡ refused_counts j place b.counts
    → t ≡ totals_put (failed_of 3 place none) b.totals → lends b.heads b.demands b.flows b.statuses b.entries n t b.scratch ≡ row_of j s b
unfolding refused_counts
row_refused None s place b n t e en et = row_off None s b _ n t refl (solve_field s place (lent_of b) e) en et
row_refused (Some limits) s place b n t e en et = row_by (Some limits) s limits b _ _ n t refl (sale_field s limits place (lent_of b) e) refl et en

-- what a refused row tells
number_three : (place : ℕ) → (failed_of 3 place none).number ≡ 3
unfolding failed_of
number_three place = refl

module _ (j : Option Limits) (place : ℕ) (a : Answer) (ea : a ≡ failed_of (number_of (Field place)) (place_of (Field place)) none) where
  refused_answer : a ≡ failed_of 3 place none
  unfolding number_of place_of
  refused_answer = ea

  pub refused_off : (x n : List ℕ) → j ≡ None → n ≡ counts_put a x → n ≡ refused_counts j place x
  unfolding refused_counts
  refused_off x n ej en = rw (ej, ← refused_answer) en

  pub refused_by : (limits : Limits) (x n n' : List ℕ) → j ≡ Some limits → n ≡ counts_put a x → n' ≡ verdict_put (record { number = 1; place = a.number }) n → n' ≡ refused_counts j place x
  unfolding refused_counts
  refused_by limits x n n' ej en ev =
      let three : a.number ≡ 3 = ap (λ (y : Answer). y.number) refused_answer ∙ number_three place in
      rw (ej, ← refused_answer, ← en, ← three) ev

  pub refused_totals : (x t : List Float) → t ≡ totals_put a x → t ≡ totals_put (failed_of 3 place none) x
  refused_totals x t e = rw (← refused_answer) e

-- a sheet by whether a bad demand was found
pub found_bad : (s : List ℕ) (l : Layout) (bad : Option ℕ) (place : ℕ) → read_of s ≡ unless_bad bad l → bad ≡ Some place → read_of s ≡ Err (Field place)
unfolding unless_bad
found_bad s l bad place e h = rw h at e

pub found_none : (s : List ℕ) (l : Layout) (bad : Option ℕ) → read_of s ≡ unless_bad bad l → bad ≡ None → read_of s ≡ Ok l
unfolding unless_bad
found_none s l bad e h = rw h at e

pub few_counts : (j : Option Limits) → width_of j ≤ 7
unfolding width_of
few_counts None = omega arith
few_counts (Some limits) = omega arith

-- ---- rooms

-- row r lies before the end of r + 1 rows
pub row_end : (r n : ℕ) → (r + 1) * n ≡ r * n + n
row_end r n = rw (add-one r) (suc-mul r n)

-- where row r ends, in every buffer, and that these are small numbers
pub record Ends (l : Layout) (trials width r : ℕ) (n : Lengths) : Type 0 where
  pub nodes : r * l.nodes + l.nodes ≤ 2048
  pub links : r * l.links + l.links ≤ 4096
  pub bytes : r * (4 * trials) + 4 * trials ≤ 25600
  pub numbers : r * width + width ≤ 224
  pub sums : r * 3 + 3 ≤ 96
  pub table : r * l.nodes + l.nodes ≤ n.table
  pub heads : r * l.nodes + l.nodes ≤ n.heads
  pub demands : r * l.nodes + l.nodes ≤ n.demands
  pub flows : r * l.links + l.links ≤ n.flows
  pub statuses : r * l.links + l.links ≤ n.statuses
  pub entries : r * (4 * trials) + 4 * trials ≤ n.entries
  pub counts : r * width + width ≤ n.counts
  pub totals : r * 3 + 3 ≤ n.totals

pub ends : (l : Layout) (trials width r : ℕ) (n : Lengths) → Fits l trials width (r + 1) n → l.nodes ≤ 64 → l.links ≤ 128 → trials ≤ 200 → width ≤ 7 → Ends l trials width r n
ends l trials width r n f hn hl ht hw =
    let few = f.few in
    let b : 4 * trials ≤ 800 = omega arith in
    let en = row_end r l.nodes in
    let el = row_end r l.links in
    let ee = row_end r (4 * trials) in
    let ec = row_end r width in
    let et = row_end r 3 in
    record {
      nodes = omega (arith, en, product_few 32 64 few hn);
      links = omega (arith, el, product_few 32 128 few hl);
      bytes = omega (arith, ee, product_few 32 800 few b);
      numbers = omega (arith, ec, product_few 32 7 few hw);
      sums = omega arith;
      table = omega (arith, en, f.table);
      heads = omega (arith, en, f.heads);
      demands = omega (arith, en, f.demands);
      flows = omega (arith, el, f.flows);
      statuses = omega (arith, el, f.statuses);
      entries = omega (arith, ee, f.entries);
      counts = omega (arith, ec, f.counts);
      totals = omega (arith, et, f.totals);
    }

-- the rooms of fewer rows
pub fits_fewer : (l : Layout) (trials width rows r : ℕ) (n : Lengths) → r ≤ rows → Fits l trials width rows n → Fits l trials width r n
fits_fewer l trials width rows r n h f =
    let en = mul-le-mul_right l.nodes h in
    let el = mul-le-mul_right l.links h in
    let ee = mul-le-mul_right (4 * trials) h in
    let ec = mul-le-mul_right width h in
    record {
      few = omega (arith, f.few);
      table = omega (arith, en, f.table);
      heads = omega (arith, en, f.heads);
      demands = omega (arith, en, f.demands);
      flows = omega (arith, el, f.flows);
      statuses = omega (arith, el, f.statuses);
      entries = omega (arith, ee, f.entries);
      counts = omega (arith, ec, f.counts);
      totals = omega (arith, f.totals);
    }

-- how long a part is
pub part_size : (at n : ℕ) → at + n - at ≡ n
part_size at n = omega arith

pub part_long : {A : Type 0} (at n : ℕ) (x : List A) → at + n ≤ length x → length (take (at + n - at) (drop at x)) ≡ n
part_long at n x h =
    let p = part_size at n in
    rw p (length-take-le n (drop at x) (omega (arith, length-drop at x)))

-- a buffer whose part was exchanged for one as long
pub put_long : {A : Type 0} (at n : ℕ) (x y : List A) → at + n ≤ length x → length y ≡ length (take (at + n - at) (drop at x)) → length (take at x ++ (y ++ drop (at + n - at) (drop at x))) ≡ length x
put_long at n x y h e =
    let p = part_size at n in
    let u = part_long at n x h in
    let v = length-append (take at x) (y ++ drop (at + n - at) (drop at x)) in
    let w = length-append y (drop (at + n - at) (drop at x)) in
    omega (arith, p, u, v, w, e, length-take-le at x (omega arith), length-drop (at + n - at) (drop at x), length-drop at x)

-- a sheet copied whole
pub whole_copy : (s copy : List ℕ) → length copy ≡ length s → copied (length s) s copy ≡ s
unfolding copied
whole_copy s copy e =
    let p : drop (length s) copy ≡ [] = drop_of_length-le copy {i = length s} (omega arith) in
    rw (take-length s, p) (append-nil s)

pub row_done_lem : (j : Option Limits) (s : List ℕ) (l : Layout) (table : List Float) (r trials width zn zl ze zc zt : ℕ) (b y : Lends) (copy copy' : List ℕ)
    → trials ≡ trials_of s → width ≡ width_of j → zn ≡ l.nodes → zl ≡ l.links → ze ≡ 4 * trials → zc ≡ width → zt ≡ 3
    → copy ≡ s → copy' ≡ row_sheet copy l table r
    → y ≡ row_of j copy' (lends (take zn (drop (r * l.nodes) b.heads)) (take zn (drop (r * l.nodes) b.demands)) (take zl (drop (r * l.links) b.flows))
    (take zl (drop (r * l.links) b.statuses)) (take ze (drop (r * (4 * trials)) b.entries)) (take zc (drop (r * width) b.counts))
    (take zt (drop (r * 3) b.totals)) b.scratch)
    → lends (take (r * l.nodes) b.heads ++ (y.heads ++ drop zn (drop (r * l.nodes) b.heads)))
    (take (r * l.nodes) b.demands ++ (y.demands ++ drop zn (drop (r * l.nodes) b.demands)))
    (take (r * l.links) b.flows ++ (y.flows ++ drop zl (drop (r * l.links) b.flows)))
    (take (r * l.links) b.statuses ++ (y.statuses ++ drop zl (drop (r * l.links) b.statuses)))
    (take (r * (4 * trials)) b.entries ++ (y.entries ++ drop ze (drop (r * (4 * trials)) b.entries)))
    (take (r * width) b.counts ++ (y.counts ++ drop zc (drop (r * width) b.counts)))
    (take (r * 3) b.totals ++ (y.totals ++ drop zt (drop (r * 3) b.totals))) y.scratch ≡ row_done j s l table r b
unfolding row_done room_of room_put row_in row_put
row_done_lem j s l table r trials width zn zl ze zc zt b y copy copy' et ew en el ee ec ez es ep ey =
    let p : copy' ≡ row_sheet s l table r = ep ∙ ap (λ (x : List ℕ). row_sheet x l table r) es in
    let q : y ≡ row_of j (row_sheet s l table r) (room_of l (trials_of s) (width_of j) r b) =
    (rw (en, el, ee, ec, ez, et, ew) at ey) ∙ ap (λ (x : List ℕ). row_of j x (room_of l (trials_of s) (width_of j) r b)) p in
    rw (en, el, ee, ec, ez, et, ew, ← q)

-- what the copy reads as once the row's demands stand in it
pub row_read : (s copy copy' : List ℕ) (l : Layout) (table : List Float) (r : ℕ) (bad : Option ℕ) → read_of s ≡ Ok l → AllFit table → bad ≡ bad_demand l table r
    → copy ≡ s → copy' ≡ row_sheet copy l table r → read_of copy' ≡ unless_bad bad l
unfolding row_reading
row_read s copy copy' l table r bad good fit eb es ep =
    ap read_of (ep ∙ ap (λ (x : List ℕ). row_sheet x l table r) es) ∙ row_reads s l table r good fit ∙ ap (λ (f : Option ℕ). unless_bad f l) (sym eb)

-- ---- the rows

pub rows_none : (j : Option Limits) (s : List ℕ) (l : Layout) (table : List Float) (b : Lends) → b ≡ rows_done j s l table 0 b
unfolding rows_done
rows_none j s l table b = refl

pub rows_next : (j : Option Limits) (s : List ℕ) (l : Layout) (table : List Float) (r : ℕ) (b₀ b b' : Lends) → b ≡ rows_done j s l table r b₀ → b' ≡ row_done j s l table r b → b' ≡ rows_done j s l table (r + 1) b₀
unfolding rows_done
rows_next j s l table r b₀ b b' e h = rw (add-one r, ← e) h

pub rows_all : (j : Option Limits) (s : List ℕ) (l : Layout) (table : List Float) (r rows : ℕ) (b₀ b : Lends) → r ≡ rows → b ≡ rows_done j s l table r b₀ → b ≡ rows_done j s l table rows b₀
rows_all j s l table r rows b₀ b h e = e ∙ ap (λ (k : ℕ). rows_done j s l table k b₀) h

-- buffers that are as long as they were
pub same_lengths : (table : List Float) (b b' : Lends) → length b'.heads ≡ length b.heads → length b'.demands ≡ length b.demands → length b'.flows ≡ length b.flows
    → length b'.statuses ≡ length b.statuses → length b'.entries ≡ length b.entries → length b'.counts ≡ length b.counts
    → length b'.totals ≡ length b.totals → length b'.scratch ≡ length b.scratch → lengths_of table b' ≡ lengths_of table b
same_lengths table b b' eh ed eq ec er en et ex = rw (eh, ed, eq, ec, er, en, et, ex)

pub fits_kept : (l : Layout) (trials width rows r : ℕ) (n n' : Lengths) → n' ≡ n → r < rows → Fits l trials width rows n → Fits l trials width (r + 1) n'
fits_kept l trials width rows r n n' e h f = rw e (fits_fewer l trials width rows (r + 1) n (omega arith) f)

-- ---- the whole call

-- a good sheet has at most an OP, a PD, 64 ND and 128 LK
pub few_bytes : (s : List ℕ) (l : Layout) → read_of s ≡ Ok l → length s ≤ 9199
unfolding read_of base_bounds with_unknowns layout_of link_place
few_bytes s l h =
    let a = accepts base_bounds s l h in
    let at-link : l.link0 ≡ heading (has_pressures s) + 45 * nodes_of s = ap (λ (k : Layout). k.link0) a.laid in
    let nodes : l.nodes ≡ nodes_of s = ap (λ (k : Layout). k.nodes) a.laid in
    let stride : l.stride ≡ 49 = ap (λ (k : Layout). k.stride) a.laid in
    let links : l.stride * l.links ≡ 49 * l.links = ap (λ (z : ℕ). z * l.links) stride in
    omega (arith, a.whole, a.few_nodes, a.few_links, at_most (has_pressures s))

either_false : (x y : Bool) → (x || y) ≡ false → (x ≡ false) × (y ≡ false)
either_false true y e = absurd (subst T e tt)
either_false false y e = (refl, e)

room_enough : (l : Layout) (trials width rows : ℕ) (n : Lengths) → rows ≤ 32 → lacking l trials width rows n ≡ false → Fits l trials width rows n
unfolding lacking
room_enough l trials width rows n few e =
    let t = either_false _ _ e in
    let c = either_false _ _ t.0 in
    let r = either_false _ _ c.0 in
    let s = either_false _ _ r.0 in
    let q = either_false _ _ s.0 in
    let d = either_false _ _ q.0 in
    let h = either_false _ _ d.0 in
    record {
      few = few;
      table = ltb-false _ _ h.0;
      heads = ltb-false _ _ h.1;
      demands = ltb-false _ _ d.1;
      flows = ltb-false _ _ q.1;
      statuses = ltb-false _ _ s.1;
      entries = ltb-false _ _ r.1;
      counts = ltb-false _ _ c.1;
      totals = ltb-false _ _ t.1;
    }

fits_of : (l : Layout) (trials width rows : ℕ) (n : Lengths) → (admitted_of l trials width rows n).number ≡ 0 → Fits l trials width rows n
unfolding admitted_of
fits_of l trials width rows n e = go (ltb n.scratch 4096) (eqb rows 0) (ltb 32 rows) (lacking l trials width rows n) refl refl e
  where
    go : (a b c d : Bool) → ltb 32 rows ≡ c → lacking l trials width rows n ≡ d
        → (cond a (called 5 5) (cond b (called 14 0) (cond c (called 14 1) (cond d (called 14 2) (called 0 0))))).number ≡ 0 → Fits l trials width rows n
    go true b c d ec ed e = absurd (let z : ⊥ = omega arith in z)
    go false true c d ec ed e = absurd (let z : ⊥ = omega arith in z)
    go false false true d ec ed e = absurd (let z : ⊥ = omega arith in z)
    go false false false true ec ed e = absurd (let z : ⊥ = omega arith in z)
    go false false false false ec ed e = room_enough l trials width rows n (ltb-false 32 rows ec) ed

pub fits_admitted : (j : Option Limits) (l : Layout) (trials width rows : ℕ) (n : Lengths) (c : Called) → width ≡ width_of j → c ≡ admitted_of l trials width rows n → c.number ≡ 0 → Fits l trials (width_of j) rows n
fits_admitted j l trials width rows n c ew ec e =
    subst (λ (k : ℕ). Fits l trials k rows n) ew (fits_of l trials width rows n (sym (ap (λ (x : Called). x.number) ec) ∙ e))

module _ (j : Option Limits) (s : List ℕ) (rows : ℕ) (table : List Float) (b : Lends) (reading : Reading) (read : reading ≡ read_of s) where
  pub evening_refused : (r : Refusal) (number place : ℕ) → reading ≡ Err r → number ≡ number_of r → place ≡ place_of r
      → ◌≡◌ {A = Evening} (record { called = called number place; lends = b }) (evening_of j s rows table b)
  unfolding evening_of after_read
  evening_refused r number place e en ep = rw (← read, e, en, ep)

  module _ (l : Layout) (trials width : ℕ) (c : Called) (good : reading ≡ Ok l) (et : trials ≡ trials_of s) (ew : width ≡ width_of j) (ec : c ≡ admitted_of l trials width rows (lengths_of table b)) where
    pub evening-not : eqb c.number 0 ≡ false → ◌≡◌ {A = Evening} (record { called = c; lends = b }) (evening_of j s rows table b)
    unfolding evening_of after_read after_admitted
    evening-not e = rw (← read, good, ← et, ← ew, ← ec, e)

    pub evening-done : (b' : Lends) → eqb c.number 0 ≡ true → b' ≡ rows_done j s l table rows b → ◌≡◌ {A = Evening} (record { called = c; lends = b' }) (evening_of j s rows table b)
    unfolding evening_of after_read after_admitted
    evening-done b' e h = rw (← read, good, ← et, ← ew, ← ec, e, h)
