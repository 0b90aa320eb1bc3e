-- The ways through the lines of an answer, over plain variables. Assumes nothing.
use Prim.Native.Nat.{ℕ}
use mathlib.Core.Path.{◌≡◌, refl, sym, ap}
use mathlib.Core.List.{List, [], ◌++◌, append-nil}
use mathlib.Core.Bool.{true, false}
use native.Mathlib.Omega.{arith}
use borrow.Author.Tests.{eq-eqb, ne_eqb}
use lib.ListN.{length}
use lib.Ieee.{Float}
use Rattle.sheet.specs.Read.{read_of, Reading}
use Rattle.layout.specs.declared.places.Layout.{Layout}
use Rattle.refusals.specs.declared.refusals.Refusal.{Refusal}
use Rattle.answers.specs.Answers.{Solved}
use Rattle.answers.specs.declared.Answer.{Answer}
use Rattle.solver.specs.Solve.{solve_of}
use Rattle.words.specs.Buffer.{placed, Put}
use Rattle.words.proofs.Laws.{then}
use Rattle.listing_text.specs.Listing.{head_lines, result_lines, results_for, lines_of, blank, listing_of}
use Rattle.std.specs.Prelude.{Err, Ok}

module _ (reading : Reading) (a : Answer) (h d q : List Float) (codes entries : List ℕ) {old mid : List ℕ} {p : ℕ} (head : Put old 0 (head_lines a entries) mid p) where
  no_results : (a.number ≡ 0 → ⊥) → (x : Reading) → results_for x a h d q codes ≡ []
  unfolding results_for
  no_results ne (Err r) = refl
  no_results ne (Ok l) = rw (ne_eqb a.number 0 ne)

  head_alone : results_for reading a h d q codes ≡ [] → Put old 0 (lines_of reading a h d q codes entries) mid p
  unfolding lines_of
  head_alone e = rw (e, append-nil) head

  pub told_failed : (a.number ≡ 0 → ⊥) → Put old 0 (lines_of reading a h d q codes entries) mid p
  told_failed ne = head_alone (no_results ne reading)

  pub told_unread : (r : Refusal) → reading ≡ Err r → Put old 0 (lines_of reading a h d q codes entries) mid p
  unfolding results_for
  told_unread r e = head_alone (rw e)

  pub told_all : {new : List ℕ} {n : ℕ} (l : Layout) → reading ≡ Ok l → a.number ≡ 0 → Put mid p (result_lines l a h d q codes) new n → Put old 0 (lines_of reading a h d q codes entries) new n
  unfolding lines_of results_for
  told_all l e z results = rw (e, eq-eqb a.number 0 z) (then head results)

pub listed : (s : List ℕ) (o : Solved) {old new : List ℕ} {n : ℕ} → o ≡ solve_of s blank
    → Put old 0 (lines_of (read_of s) o.answer o.lent.heads o.lent.demands o.lent.flows o.lent.statuses o.lent.entries) new n
    → (new ≡ placed old 0 (listing_of s)) × (n ≡ length (listing_of s))
unfolding listing_of
listed s o e p = rw (← e) (p.bytes, omega (arith, p.next))
