-- Sold means sold: what verdict 0 tells of a solve, why each other verdict is told, and that June's answers are never sold. Assumes nothing.
use Prim.Native.Nat.{ℕ, zero, suc, ◌+◌, ◌-◌, ◌≤◌, ◌<◌}
use mathlib.Core.Path.{◌≡◌, refl, sym, ap, ◌∙◌, subst}
use mathlib.Core.Bool.{Bool, true, false, not, cond, ◌&&◌, ◌||◌}
use mathlib.Core.List.{List, [], ◌∷◌}
use mathlib.Core.Logic.{◌⊎◌, inl, inr, ⊎_elim}
use native.Mathlib.Omega.{arith}
use borrow.Author.Tests.{ne_eqb}
use lib.Dec.{eqb}
use lib.ListN.{length, get_or}
use lib.Ieee.{Float, lt, le}
use Rattle.found.specs.Searches.{First}
use Rattle.found.proofs.Firsts.{first_is, first_none}
use Rattle.layout.specs.declared.places.Layout.{Layout}
use Rattle.records.specs.Records.{pressures_of}
use Rattle.constants.specs.Constants as constant
use Rattle.nodes.specs.Nodes.{node_of, in_service}
use Rattle.links.proofs.Reading.{start_of, end_of}
use Rattle.drawing.specs.Drawing.{gives_way}
use Rattle.sheet.specs.Read.{read_of, Reading}
use Rattle.links.specs.declared.LinkIndex.{LinkIndex}
use Rattle.nodes.specs.declared.NodeIndex.{NodeIndex}
use Rattle.entries.specs.Entries.{no_entry}
use Rattle.entries.specs.declared.Entry.{Entry}
use Rattle.entries.specs.declared.Entry.TheVariants.{Freed, Grounded}
use Rattle.answers.specs.Answers.{Lent, Solved}
use Rattle.solver.specs.Solve.{solve_of}
use Rattle.solver.proofs.Laws.{network_of}
use Rattle.tolerance.specs.declared.Limits.{Limits}
use Rattle.tolerance.specs.Within.{within_of}
use Rattle.repairs_shown.specs.Shown.{repair_shown}
use Rattle.determined.specs.Determined.{undetermined_of}
use Rattle.determined.specs.Joins.{Undetermined}
use Rattle.determined.proofs.Meaning.{determined_is, undetermined_is}
use Rattle.balances.specs.Balances.{unbalanced_of}
use Rattle.balances.proofs.Leaks.{all_balanced, lowest_leak}
use Rattle.link_laws.specs.LinkLaws.{unsettled_of}
use Rattle.link_laws.proofs.Changes.{all-slight, lowest-unsettled}
use Rattle.held_heads.specs.Held.{holds_at, miss_of, misses_at, unheld_of}
use Rattle.drawn_laws.specs.DrawnLaws.{surplus_at, ill_at, first_ill, ill_drawn}
use Rattle.pressures_low.specs.Low.{too_low, low_at, low_of}
use Rattle.sale.specs.Sale.{told_of, first_line, rule, judge_of, unsold, verdict_by, verdict_of, sale_of}
use Rattle.sale.specs.declared.judging.Verdict.{Verdict}
use Rattle.promises.specs.Trials.{run_in}
use Rattle.promises.specs.Repairs.{mends}
use Rattle.promises.specs.Solves.{Runs}
use Rattle.promises.specs.Mended.{mended}
use Rattle.promises.specs.Causes.{Cause, sheet, short, ended}
use Rattle.promises.specs.Sold.{sums_of, view_of, pressure_at, Solves, Unrepaired, Joined, Balanced, Lawful, Holding, Drawing, Pressed, Offered, June, Why}
use Rattle.promises.specs.Sold.June.{freed, grounded, hanging}
use Rattle.promises.specs.Sold.Why.{sold as may, unsolved, repaired, undetermined, unbalanced, unsettled, unheld, undrawn, low}
use Rattle.promises.specs.Statements.{SellsTheSolve, SoldMeansSold, JuneNeverSold, UnsoldWhy, AtMostEight}
use Rattle.promises.proofs.Never.{other, never}
use Rattle.promises.proofs.Counts.{trials_are}
use Rattle.promises.proofs.RepairsShown.{none_shown, first_shown, none_shown_is_bare}
use Rattle.promises.proofs.Causes.{cause_of_told, least_one}
use Rattle.std.specs.Prelude.{Err, None, Ok, Option, Some}

-- ---- the first line that holds, over any list of lines

-- the kth of these lines is the first that found something, and it found the verdict's place
record Stands (n : ℕ) (fs : List (Option ℕ)) (v : Verdict) (k : ℕ) : Type 0 where
  number : v.number ≡ n + k
  below : k < length fs
  found : get_or fs k None ≡ Some v.place
  before : (i : ℕ) → i < k → get_or fs i None ≡ None

-- none of them found anything, and the verdict is 0 at 0
record Silent (fs : List (Option ℕ)) (v : Verdict) : Type 0 where
  number : v.number ≡ 0
  place : v.place ≡ 0
  none : (i : ℕ) → get_or fs i None ≡ None

none_more : (more : List (Option ℕ)) → ((i : ℕ) → get_or more i None ≡ None) → (i : ℕ) → get_or (None ∷ more) i None ≡ None
none_more more h zero = refl
none_more more h (suc i) = h i

before_more : (more : List (Option ℕ)) (k : ℕ) → ((i : ℕ) → i < k → get_or more i None ≡ None) → (i : ℕ) → i < suc k → get_or (None ∷ more) i None ≡ None
before_more more k h zero b = refl
before_more more k h (suc i) b = h i (omega arith)

lines : (n : ℕ) (fs : List (Option ℕ)) → Silent fs (first_line n fs) ⊎ ((k : ℕ) × Stands n fs (first_line n fs) k)
unfolding first_line told_of
lines n [] = inl (record { number = refl; place = refl; none = λ i. refl })
lines n (Some p ∷ more) = inr (0, record { number = omega arith; below = omega arith; found = refl; before = λ i b. absurd (let y : ⊥ = omega arith in y) })
lines n (None ∷ more) =
    ⊎_elim
    (λ (w : Silent more (first_line (suc n) more)). inl (record { number = w.number; place = w.place; none = none_more more w.none }))
    (λ w.
    inr (suc w.0, record { number = omega (arith, w.1.number); below = omega (arith, w.1.below); found = w.1.found; before = before_more more w.0 w.1.before }))
    (lines (suc n) more)

-- Where the number is 0, the first being 1 or above, none found anything;
pub none_told : (n : ℕ) (fs : List (Option ℕ)) → 1 ≤ n → (first_line n fs).number ≡ 0 → (i : ℕ) → get_or fs i None ≡ None
none_told n fs h e =
    ⊎_elim
    (λ (w : Silent fs (first_line n fs)). w.none)
    (λ w. absurd (let y : ⊥ = omega (arith, w.1.number) in y))
    (lines n fs)

-- where it is not, the line of that number found the place, and those before it nothing.
pub one_told : (n : ℕ) (fs : List (Option ℕ)) → 1 ≤ (first_line n fs).number
    → (get_or fs ((first_line n fs).number - n) None ≡ Some (first_line n fs).place) × ((i : ℕ) → i < (first_line n fs).number - n → get_or fs i None ≡ None)
one_told n fs h =
    ⊎_elim
    (λ (w : Silent fs (first_line n fs)). absurd (let y : ⊥ = omega (arith, w.number) in y))
    (λ w.
    let e : (first_line n fs).number - n ≡ w.0 = omega (arith, w.1.number) in
    rw e (w.1.found, w.1.before))
    (lines n fs)

-- ---- each line over plain variables: what it tells where it found nothing

kept : (a b : Bool) → (a && not b) ≡ false → a ≡ true → b ≡ true
kept true true h t = refl
kept true false h t = sym h
kept false b h t = never t

either : (a b : Bool) → (not a || b) ≡ false → (a ≡ true) × (b ≡ false)
either true b h = (refl, h)
either false b h = never (sym h)

both : (a b : Bool) → (a && b) ≡ false → a ≡ true → b ≡ false
both true b h t = h
both false b h t = never t

taken : (p : Bool) (f : Option ℕ) → p ≡ true → cond p f None ≡ f
taken true f t = refl
taken false f t = never t

pressed_by : (demand pressure lowest : Float) → too_low demand pressure lowest ≡ false
    → (le constant.zero pressure ≡ true) × (lt constant.zero demand ≡ true → le lowest pressure ≡ true)
unfolding too_low
pressed_by demand pressure lowest e =
    let w = either (le constant.zero pressure) (lt constant.zero demand && not (le lowest pressure)) e in
    (w.0, λ t. kept (lt constant.zero demand) (le lowest pressure) w.1 t)

module _ (s : List ℕ) (l : Layout) (limits : Limits) (b : Lent) where
  balanced_by : unbalanced_of s l (sums_of s l b) limits.flow ≡ None → Balanced s l limits b
  balanced_by e = record { sum = λ i h t. all_balanced s l (sums_of s l b) limits.flow e i h t }

  lawful_by : unsettled_of s l (view_of s l b) limits ≡ None → Lawful s l limits b
  lawful_by e = record { change = λ j h p q. all-slight s l (view_of s l b) limits j e h (rw (start_of s l j) p) (rw (end_of s l j) q) }

  holding_by : unheld_of s l b.heads b.statuses limits.head ≡ None → Holding s l limits b
  unfolding unheld_of misses_at
  holding_by e =
      record {
        miss = λ j h t.
            kept (holds_at s l b.statuses j) (within_of (miss_of s l b.heads j) limits.head)
            (first_none (misses_at s l b.heads b.statuses limits.head) l.links e j h) t;
      }

  drawing_by : ill_drawn s l b.heads b.demands limits.flow ≡ None → Drawing s l limits b
  unfolding ill_drawn ill_at first_ill
  drawing_by e =
      record {
        surplus = λ p i h t.
            kept (gives_way (in_service s l i) (node_of s l i).demand) (within_of (surplus_at s l (pressures_of s) b.heads b.demands i) limits.flow)
            (first_none (ill_at s l (pressures_of s) b.heads b.demands limits.flow) l.nodes (sym (taken l.pressures (first_ill s l (pressures_of s) b.heads b.demands limits.flow) p) ∙ e) i h) t;
      }

  not_low : low_of s l b.heads limits.pressure ≡ None → (i : ℕ) → i < l.nodes → in_service s l i ≡ true → too_low (node_of s l i).demand (pressure_at s l b i) limits.pressure ≡ false
  unfolding low_of low_at
  not_low e i h t =
      both (in_service s l i) (too_low (node_of s l i).demand (pressure_at s l b i) limits.pressure) (first_none (low_at s l b.heads limits.pressure) l.nodes e i h) t

  pressed_all : low_of s l b.heads limits.pressure ≡ None → Pressed s l limits b
  pressed_all e =
      record {
        above = λ i h t. (pressed_by (node_of s l i).demand (pressure_at s l b i) limits.pressure (not_low e i h t)).0;
        enough = λ i h t d. (pressed_by (node_of s l i).demand (pressure_at s l b i) limits.pressure (not_low e i h t)).1 d;
      }

-- ---- a solve whose number is 0 came to its trials

zero_runs : (s : List ℕ) (x : Lent) → (solve_of s x).answer.number ≡ 0 → (l : Layout) × Runs s x l
zero_runs s x z = go (solve_of s x).answer.number (solve_of s x).answer.place (cause_of_told s x) z
  where
    go : (n p : ℕ) → Cause s x n p → n ≡ 0 → (l : Layout) × Runs s x l
    go n p (sheet r e) z = absurd (let y : ⊥ = omega (arith, least_one r) in y)
    go n p (short l q e f) z = absurd (let y : ⊥ = omega arith in y)
    go n p (ended l w) z = (l, w)

-- ---- the lines of a sale

-- the lines 2 to 8 of the sale of a sheet so read
abbrev lines_of : List ℕ → Layout → Limits → Solved → List (Option ℕ)
lines_of s l limits o = rule s l limits o.answer.trials o.lent.heads o.lent.demands o.lent.flows o.lent.statuses o.lent.entries

-- the sale's answer and buffers are the solve's
pub sells_the_solve : SellsTheSolve
unfolding sale_of
sells_the_solve s limits x = (refl, refl)

module _ (s : List ℕ) (limits : Limits) (x : Lent) where
  verdict_unsolved : (n : ℕ) → (solve_of s x).answer.number ≡ suc n → (sale_of s limits x).verdict ≡ unsold (solve_of s x).answer
  unfolding sale_of verdict_of verdict_by
  verdict_unsolved n e = go (read_of s)
    where
      go : (r : Reading) → verdict_by s limits (solve_of s x) r ≡ unsold (solve_of s x).answer
      go (Err r) = refl
      go (Ok l) = let f : eqb (solve_of s x).answer.number 0 ≡ false = ne_eqb (solve_of s x).answer.number 0 (λ (q : (solve_of s x).answer.number ≡ 0). omega arith) in rw f

  verdict_judged : (l : Layout) → Runs s x l → (solve_of s x).answer.number ≡ 0 → (sale_of s limits x).verdict ≡ first_line 2 (lines_of s l limits (solve_of s x))
  unfolding sale_of verdict_of verdict_by judge_of
  verdict_judged l w z =
      let f : eqb (solve_of s x).answer.number 0 ≡ true = rw z in
      rw (w.read, f)

  module _ (l : Layout) (w : Runs s x l) (z : (solve_of s x).answer.number ≡ 0) where
    solves : Solves s l (sale_of s limits x)
    unfolding sale_of
    solves = record { read = w.read; number = z }

    unrepaired-by : repair_shown (solve_of s x).lent.entries (solve_of s x).answer.trials ≡ None → Unrepaired s l x (sale_of s limits x)
    unfolding sale_of
    unrepaired-by e =
        let same = none_shown_is_bare s x e in
        record {
          trials = λ i h. none_shown s x l w e i (omega (arith, h, trials_are s x l w));
          answer = ap (λ (o : Solved). o.answer) same;
          lent = ap (λ (o : Solved). o.lent) same;
        }

    joined_by : undetermined_of s l (solve_of s x).lent.flows (solve_of s x).lent.statuses ≡ None → Joined s l (sale_of s limits x).lent
    unfolding sale_of
    joined_by e =
        let k = network_of s l w.read in
        determined_is s l (solve_of s x).lent.flows (solve_of s x).lent.statuses k.ends k.nodes k.links e

    offered-by : ((i : ℕ) → get_or (lines_of s l limits (solve_of s x)) i None ≡ None) → Offered s l limits x (sale_of s limits x)
    unfolding sale_of rule
    offered-by h =
        record {
          solves = solves;
          unrepaired = unrepaired-by (h 0);
          joined = joined_by (h 1);
          balanced = balanced_by s l limits (solve_of s x).lent (h 2);
          lawful = lawful_by s l limits (solve_of s x).lent (h 3);
          holding = holding_by s l limits (solve_of s x).lent (h 4);
          drawing = drawing_by s l limits (solve_of s x).lent (h 5);
          pressed = pressed_all s l limits (solve_of s x).lent (h 6);
        }

-- Sold means sold. For every sheet, all limits and all buffers.
pub sold_means_sold : SoldMeansSold
sold_means_sold s limits x e = go (solve_of s x).answer.number refl
  where
    go : (n : ℕ) → (solve_of s x).answer.number ≡ n → (l : Layout) × Offered s l limits x (sale_of s limits x)
    go zero z =
        let w = zero_runs s x z in
        let l = w.0 in
        let k : (first_line 2 (lines_of s l limits (solve_of s x))).number ≡ 0 = sym (ap (λ (v : Verdict). v.number) (verdict_judged s limits x l w.1 z)) ∙ e in
        (l, offered-by s limits x l w.1 z (none_told 2 (lines_of s l limits (solve_of s x)) (omega arith) k))
    go (suc n) z = other (sym e ∙ ap (λ (v : Verdict). v.number) (verdict_unsolved s limits x n z))

-- ---- June

freed_mends : (s : List ℕ) (l : Layout) (i : ℕ) (e : Entry) → get_or (run_in s l).entries i no_entry ≡ e → mends e ≡ true → mended s l i ≡ true
unfolding mended
freed_mends s l i e h m = rw h m

mends_freed : (j : LinkIndex) → mends (Freed j) ≡ true
unfolding mends
mends_freed j = refl

mends_grounded : (v : NodeIndex) → mends (Grounded v) ≡ true
unfolding mends
mends_grounded v = refl

same_layout : (s : List ℕ) (l k : Layout) → read_of s ≡ Ok l → read_of s ≡ Ok k → k ≡ l
same_layout s l k e f = let g : Ok k ≡ Ok l = sym f ∙ e in cc

module _ (s : List ℕ) (limits : Limits) (x : Lent) (l : Layout) where
  mended_unsold : Unrepaired s l x (sale_of s limits x) → (i : ℕ) → i < (sale_of s limits x).answer.trials → mended s l i ≡ true → ⊥
  mended_unsold w i h m = never (sym (w.trials i h) ∙ m)

  june_unoffered : Offered s l limits x (sale_of s limits x) → June s l (sale_of s limits x) → ⊥
  june_unoffered w (freed i j h e) = mended_unsold w.unrepaired i h (freed_mends s l i (Freed j) e (mends_freed j))
  june_unoffered w (grounded i v h e) = mended_unsold w.unrepaired i h (freed_mends s l i (Grounded v) e (mends_grounded v))
  june_unoffered w (hanging i h t none) = none (w.joined.way i h t)

-- No solve in which a regulator was freed, a node was grounded or a head hangs on nothing is sold.
pub june_never_sold : JuneNeverSold
june_never_sold s limits x l e j v =
    let w = sold_means_sold s limits x v in
    june_unoffered s limits x l (subst (λ (k : Layout). Offered s k limits x (sale_of s limits x)) (same_layout s l w.0 e w.1.solves.read) w.1) j

-- ---- why each verdict is told

drawn_at : (p : Bool) (f : Option ℕ) (i : ℕ) → cond p f None ≡ Some i → (p ≡ true) × (f ≡ Some i)
drawn_at true f i e = (refl, e)
drawn_at false f i e = other (cc)

module _ (s : List ℕ) (limits : Limits) (x : Lent) where
  abbrev told-so : ℕ → ℕ → Type 0
  told-so n p = Why s limits x (sale_of s limits x) n p

  module _ (l : Layout) (w : Runs s x l) (z : (solve_of s x).answer.number ≡ 0) where
    abbrev b : Lent
    b = (solve_of s x).lent

    -- the first repair, and the lowest place of each other line
    repaired-at : (p : ℕ) → repair_shown b.entries (solve_of s x).answer.trials ≡ Some p → First (mended s l) (sale_of s limits x).answer.trials p
    unfolding sale_of
    repaired-at p e = rw (trials_are s x l w) (first_shown s x l w p e)

    undetermined-at : (p : ℕ) → undetermined_of s l b.flows b.statuses ≡ Some p → Undetermined s l b.flows b.statuses p
    undetermined-at p e =
        let k = network_of s l w.read in
        undetermined_is s l b.flows b.statuses k.ends k.nodes k.links p e

    unheld-at : (p : ℕ) → unheld_of s l b.heads b.statuses limits.head ≡ Some p → First (misses_at s l b.heads b.statuses limits.head) l.links p
    unfolding unheld_of
    unheld-at p e = first_is (misses_at s l b.heads b.statuses limits.head) l.links p e

    undrawn-at : (p : ℕ) → ill_drawn s l b.heads b.demands limits.flow ≡ Some p
        → (l.pressures ≡ true) × First (ill_at s l (pressures_of s) b.heads b.demands limits.flow) l.nodes p
    unfolding ill_drawn first_ill
    undrawn-at p e =
        let d = drawn_at l.pressures (first_ill s l (pressures_of s) b.heads b.demands limits.flow) p e in
        (d.0, first_is (ill_at s l (pressures_of s) b.heads b.demands limits.flow) l.nodes p d.1)

    low-at : (p : ℕ) → low_of s l b.heads limits.pressure ≡ Some p → First (low_at s l b.heads limits.pressure) l.nodes p
    unfolding low_of
    low-at p e = first_is (low_at s l b.heads limits.pressure) l.nodes p e

    by-line : (k p : ℕ) → k < length (lines_of s l limits (solve_of s x)) → get_or (lines_of s l limits (solve_of s x)) k None ≡ Some p
        → ((i : ℕ) → i < k → get_or (lines_of s l limits (solve_of s x)) i None ≡ None) → told-so (2 + k) p
    unfolding sale_of rule
    by-line zero p h e n = repaired l p (solves s limits x l w z) (repaired-at p e)
    by-line (suc zero) p h e n = undetermined l p (solves s limits x l w z) (unrepaired-by s limits x l w z (n 0 (omega arith))) (undetermined-at p e)
    by-line (suc (suc zero)) p h e n =
        unbalanced l p (solves s limits x l w z) (unrepaired-by s limits x l w z (n 0 (omega arith))) (joined_by s limits x l w z (n 1 (omega arith)))
        (lowest_leak s l (sums_of s l b) limits.flow p e)
    by-line (suc (suc (suc zero))) p h e n =
        unsettled l p (solves s limits x l w z) (unrepaired-by s limits x l w z (n 0 (omega arith))) (joined_by s limits x l w z (n 1 (omega arith)))
        (balanced_by s l limits b (n 2 (omega arith))) (lowest-unsettled s l (view_of s l b) limits p e)
    by-line (suc (suc (suc (suc zero)))) p h e n =
        unheld l p (solves s limits x l w z) (unrepaired-by s limits x l w z (n 0 (omega arith))) (joined_by s limits x l w z (n 1 (omega arith)))
        (balanced_by s l limits b (n 2 (omega arith))) (lawful_by s l limits b (n 3 (omega arith))) (unheld-at p e)
    by-line (suc (suc (suc (suc (suc zero))))) p h e n =
        undrawn l p (solves s limits x l w z) (unrepaired-by s limits x l w z (n 0 (omega arith))) (joined_by s limits x l w z (n 1 (omega arith)))
        (balanced_by s l limits b (n 2 (omega arith))) (lawful_by s l limits b (n 3 (omega arith))) (holding_by s l limits b (n 4 (omega arith)))
        (undrawn-at p e).0 (undrawn-at p e).1
    by-line (suc (suc (suc (suc (suc (suc zero)))))) p h e n =
        low l p (solves s limits x l w z) (unrepaired-by s limits x l w z (n 0 (omega arith))) (joined_by s limits x l w z (n 1 (omega arith)))
        (balanced_by s l limits b (n 2 (omega arith))) (lawful_by s l limits b (n 3 (omega arith))) (holding_by s l limits b (n 4 (omega arith)))
        (drawing_by s l limits b (n 5 (omega arith))) (low-at p e)
    by-line (suc (suc (suc (suc (suc (suc (suc k))))))) p h e n = absurd (let y : ⊥ = omega arith in y)

    judged-so : (v : Verdict) → Silent (lines_of s l limits (solve_of s x)) v ⊎ ((k : ℕ) × Stands 2 (lines_of s l limits (solve_of s x)) v k) → told-so v.number v.place
    judged-so v t =
        ⊎_elim
        (λ (q : Silent (lines_of s l limits (solve_of s x)) v). rw (q.number, q.place) (may l (offered-by s limits x l w z q.none)))
        (λ q. rw q.1.number (by-line q.0 v.place q.1.below q.1.found q.1.before))
        t

  unsolved_so : (n : ℕ) → (solve_of s x).answer.number ≡ suc n → told-so 1 (solve_of s x).answer.number
  unfolding sale_of
  unsolved_so n z = unsolved (omega arith)

-- Each verdict has its cause, at its place, and no line before it holds. For every sheet, all limits and all buffers.
pub unsold_why : UnsoldWhy
unsold_why s limits x = go (solve_of s x).answer.number refl
  where
    go : (n : ℕ) → (solve_of s x).answer.number ≡ n → told-so s limits x (sale_of s limits x).verdict.number (sale_of s limits x).verdict.place
    go zero z =
        let w = zero_runs s x z in
        subst (λ (v : Verdict). told-so s limits x v.number v.place) (sym (verdict_judged s limits x w.0 w.1 z))
        (judged-so s limits x w.0 w.1 z (first_line 2 (lines_of s w.0 limits (solve_of s x))) (lines 2 (lines_of s w.0 limits (solve_of s x))))
    go (suc n) z = subst (λ (v : Verdict). told-so s limits x v.number v.place) (sym (verdict_unsolved s limits x n z)) (unsolved_so s limits x n z)

-- A verdict is 8 at most.
pub at_most_eight : AtMostEight
at_most_eight s limits x = go (sale_of s limits x).verdict.number (sale_of s limits x).verdict.place (unsold_why s limits x)
  where
    go : (n p : ℕ) → Why s limits x (sale_of s limits x) n p → n ≤ 8
    go n p (may l w) = omega arith
    go n p (unsolved h) = omega arith
    go n p (repaired l i a b) = omega arith
    go n p (undetermined l i a b c) = omega arith
    go n p (unbalanced l i a b c d) = omega arith
    go n p (unsettled l i a b c d e) = omega arith
    go n p (unheld l i a b c d e f) = omega arith
    go n p (undrawn l i a b c d e f g h) = omega arith
    go n p (low l i a b c d e f g h) = omega arith
