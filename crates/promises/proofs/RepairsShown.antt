-- Line 2 of the verdict: the entries in which a record shows a repair are those of the trials that repaired something. Assumes nothing.
use Prim.Native.Nat.{ℕ, zero, suc, ◌+◌, ◌*◌, ◌≤◌, ◌<◌}
use mathlib.Core.Path.{◌≡◌, refl, sym, ap, ◌∙◌}
use mathlib.Core.List.{List}
use mathlib.Core.Bool.{Bool, true, false, ◌&&◌, ◌||◌}
use native.Mathlib.Omega.{arith}
use lib.Dec.{eqb}
use lib.ListN.{length, get_or}
use Rattle.found.specs.Searches.{First, first_of}
use Rattle.found.proofs.Firsts.{first_is, first_none}
use Rattle.layout.specs.declared.places.Layout.{Layout}
use Rattle.entries.specs.Entries.{no_entry}
use Rattle.entries.specs.declared.Entry.{Entry}
use Rattle.entries.specs.declared.Entry.TheVariants.{Freed, Grounded, Singular, Wild, Stepped, Converged}
use Rattle.marks.specs.Marks.{mark_of, written}
use Rattle.answers.specs.Answers.{Lent}
use Rattle.solver.specs.Solve.{solve_of}
use Rattle.repairs_shown.specs.Shown.{shows, repair_shown}
use Rattle.promises.specs.Count.{count}
use Rattle.promises.specs.Marks.{marked, Shown}
use Rattle.promises.specs.Repairs.{mends}
use Rattle.promises.specs.Solves.{Runs}
use Rattle.promises.specs.Mended.{mended}
use Rattle.promises.specs.Trials.{run_in}
use Rattle.promises.specs.Statements.{NoneShownIsBare}
use Rattle.promises.proofs.Never.{never}
use Rattle.promises.proofs.Counts.{written_shows, entry_shown, trials_are}
use Rattle.promises.proofs.Unmended.{unmarked_is_bare}
use Rattle.std.specs.Prelude.{None, Some}

-- an entry's letters are VF or GN
unfoldable is_repair : Entry → Bool
is_repair e = (eqb (mark_of e).first 86 && eqb (mark_of e).second 70) || (eqb (mark_of e).first 71 && eqb (mark_of e).second 78)

mends_is : (e : Entry) → is_repair e ≡ mends e
unfolding is_repair mends mark_of
mends_is (Freed j) = refl
mends_is (Grounded v) = refl
mends_is (Singular v) = refl
mends_is (Wild p) = refl
mends_is (Stepped d flip) = refl
mends_is (Converged flip) = refl

shows_is : (bytes : List ℕ) (i : ℕ) (e : Entry) → Shown bytes i e → shows bytes i ≡ is_repair e
unfolding shows is_repair
shows_is bytes i e w = rw (w.first, w.second)

pub shows_mends : (bytes : List ℕ) (i : ℕ) (e : Entry) → Shown bytes i e → shows bytes i ≡ mends e
shows_mends bytes i e w = shows_is bytes i e w ∙ mends_is e

-- Of a record of these entries: its bytes show a repair at i exactly where entry i is one.
pub written_mends : (es : List Entry) (r : List ℕ) → 4 * length es ≤ length r → (i : ℕ) → i < length es → shows (written 0 es r) i ≡ mends (get_or es i no_entry)
written_mends es r long i h =
    let p : 0 + i ≡ i = omega arith in
    shows_mends (written 0 es r) i (get_or es i no_entry) (rw p at (written_shows es 0 r (omega arith) i h))

-- ---- any solve that comes to its trials

module _ (s : List ℕ) (x : Lent) (l : Layout) (w : Runs s x l) where
  pub solve_mends : (i : ℕ) → i < length (run_in s l).entries → shows (solve_of s x).lent.entries i ≡ mended s l i
  unfolding mended
  solve_mends i h = shows_mends (solve_of s x).lent.entries i (get_or (run_in s l).entries i no_entry) (entry_shown s x l w i h)

  search_is : repair_shown (solve_of s x).lent.entries (solve_of s x).answer.trials ≡ first_of (shows (solve_of s x).lent.entries) (length (run_in s l).entries)
  unfolding repair_shown
  search_is = ap (first_of (shows (solve_of s x).lent.entries)) (trials_are s x l w)

  -- Where the record shows none, no trial repaired anything: no valve was freed and no node grounded.
  pub none_shown : repair_shown (solve_of s x).lent.entries (solve_of s x).answer.trials ≡ None → (i : ℕ) → i < length (run_in s l).entries → mended s l i ≡ false
  none_shown e i h =
      sym (solve_mends i h) ∙ first_none (shows (solve_of s x).lent.entries) (length (run_in s l).entries) (sym search_is ∙ e) i h

  -- Where it shows one, that trial is the first that did.
  pub first_shown : (i : ℕ) → repair_shown (solve_of s x).lent.entries (solve_of s x).answer.trials ≡ Some i → First (mended s l) (length (run_in s l).entries) i
  first_shown i e =
      let f = first_is (shows (solve_of s x).lent.entries) (length (run_in s l).entries) i (sym search_is ∙ e) in
      record {
        below = f.below;
        holds = sym (solve_mends i f.below) ∙ f.holds;
        lower = λ h b. sym (solve_mends h (omega (arith, b, f.below))) ∙ f.lower h b;
      }

-- ---- any solve at all

either_false : (a b : Bool) → (a || b) ≡ false → (a ≡ false) × (b ≡ false)
either_false true b e = never (sym e)
either_false false b e = (refl, e)

no_mark : (bytes : List ℕ) (i : ℕ) → shows bytes i ≡ false → (marked 86 70 bytes i ≡ false) × (marked 71 78 bytes i ≡ false)
unfolding shows marked
no_mark bytes i e = either_false (eqb (get_or bytes (4 * i) 0) 86 && eqb (get_or bytes (4 * i + 1) 0) 70) (eqb (get_or bytes (4 * i) 0) 71 && eqb (get_or bytes (4 * i + 1) 0) 78) e

count_none : (n : ℕ) (f : ℕ → Bool) → ((i : ℕ) → i < n → f i ≡ false) → count n f ≡ 0
unfolding count
count_none zero f h = refl
count_none (suc n) f h = rw (h n (omega arith)) (count_none n f (λ i b. h i (omega arith)))

none_marked : (bytes : List ℕ) (n : ℕ) → repair_shown bytes n ≡ None → (count n (marked 86 70 bytes) ≡ 0) × (count n (marked 71 78 bytes) ≡ 0)
unfolding repair_shown
none_marked bytes n e =
    (count_none n (marked 86 70 bytes) (λ i h. (no_mark bytes i (first_none (shows bytes) n e i h)).0), count_none n (marked 71 78 bytes) (λ i h. (no_mark bytes i (first_none (shows bytes) n e i h)).1))

-- A solve whose record shows no repair is that of the solver that repairs nothing. For every sheet and all buffers.
pub none_shown_is_bare : NoneShownIsBare
none_shown_is_bare s x e =
    let c = none_marked (solve_of s x).lent.entries (solve_of s x).answer.trials e in
    unmarked_is_bare s x c.0 c.1
