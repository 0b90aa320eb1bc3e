-- The line that begins at a place is the first of the lines from there on, and behind it the others stand. Assumes nothing.
use mathlib.Core.Path.{◌≡◌, refl, sym, ap, ◌∙◌}
use mathlib.Core.Bool.{Bool, true, false, cond, ◌&&◌}
use mathlib.Core.List.{List, [], ◌∷◌, map}
use Prim.Native.Nat.{ℕ, zero, suc, ◌+◌, ◌-◌, ◌≤◌, ◌<◌, zero-le}
use native.Mathlib.Nat.{le_of_suc-le-suc, not-suc-le-zero}
use native.Mathlib.Omega.{arith}
use lib.Dec.{eqb, ltb}
use borrow.Author.Tests.{lt-ltb, le-ltb, ltb-true, ltb-false}
use lib.ListN.{length, get_or, take, drop, length-drop}
use lib.Seq.{drop-drop, get_or-drop}
use Rattle.std.specs.Prelude.{Option, Some, None}
use Rattle.std.proofs.lemmas.Option.{none-some}
use Rattle.std.specs.Option.{unwrap_or}
use Rattle.lines.specs.declared.Line.{Line}
use Rattle.lines.specs.Lines.{is_newline, pieces, without_return, lines_of, passage, stretch, end_of, line_at, lines_behind}

-- ---- pieces, by the first of them

abbrev others : (ℕ → Bool) → List ℕ → List (List ℕ)
others test l = cond (ltb (stretch test l) (length l)) (pieces test (drop (suc (stretch test l)) l)) []

ltb_suc : (a b : ℕ) → ltb (suc a) (suc b) ≡ ltb a b
ltb_suc a b = go (ltb a b) refl
  where
    go : (t : Bool) → ltb a b ≡ t → ltb (suc a) (suc b) ≡ ltb a b
    go true e = lt-ltb (suc a) (suc b) (omega (arith, ltb-true a b e)) ∙ sym e
    go false e = le-ltb (suc a) (suc b) (omega (arith, ltb-false a b e)) ∙ sym e

pub pieces_are : (test : ℕ → Bool) (l : List ℕ) → pieces test l ≡ take (stretch test l) l ∷ others test l
unfolding pieces stretch
pieces_are test [] = refl
pieces_are test (c ∷ cs) = go (pieces_are test cs) (test c) refl
  where
    go : pieces test cs ≡ take (stretch test cs) cs ∷ others test cs → (b : Bool) → test c ≡ b → pieces test (c ∷ cs) ≡ take (stretch test (c ∷ cs)) (c ∷ cs) ∷ others test (c ∷ cs)
    go before true e = rw (e, lt-ltb 0 (suc (length cs)) (omega arith))
    go before false e = rw (e, before, ltb_suc (stretch test cs) (length cs))

pub stretch_within : (test : ℕ → Bool) (l : List ℕ) → stretch test l ≤ length l
unfolding stretch
stretch_within test [] = zero-le
stretch_within test (c ∷ cs) = go (stretch_within test cs) (test c)
  where
    go : stretch test cs ≤ length cs → (b : Bool) → cond {A = ℕ} b zero (suc (stretch test cs)) ≤ suc (length cs)
    go h true = zero-le
    go h false = omega arith

-- ---- the carriage return

returned : (m : ℕ) (l : List ℕ) → m < length l → without_return (take (suc m) l) ≡ cond (eqb (get_or l m 0) 13) (take m l) (take (suc m) l)
unfolding without_return
returned m [] h = absurd (not-suc-le-zero h)
returned zero (c ∷ cs) h = refl
returned (suc k) (c ∷ []) h = absurd (not-suc-le-zero (le_of_suc-le-suc h))
returned (suc k) (c ∷ d ∷ ds) h = ap (λ (l : List ℕ). c ∷ l) (returned k (d ∷ ds) (le_of_suc-le-suc h)) ∙ go (eqb (get_or (d ∷ ds) k 0) 13)
  where
    go : (b : Bool) → c ∷ cond b (take k (d ∷ ds)) (take (suc k) (d ∷ ds)) ≡ cond b (take (suc k) (c ∷ d ∷ ds)) (take (suc (suc k)) (c ∷ d ∷ ds))
    go true = refl
    go false = refl

-- ---- a line

module _ (t : List ℕ) (at : ℕ) (h : at ≤ length t) where
  abbrev l : List ℕ
  l = drop at t

  abbrev stop : ℕ
  stop = at + stretch is_newline l

  within : stretch is_newline l ≤ length t - at
  within = rw (length-drop at t) at (stretch_within is_newline l)

  -- its bytes
  bytes : (n : ℕ) → n ≡ stretch is_newline l → without_return (take n l) ≡ passage at (end_of t at (at + n)) t
  unfolding without_return end_of
  bytes zero e =
      let a : at + 0 ≡ at = omega arith in
      let z : at - at ≡ 0 = omega arith in
      rw (a, le-ltb at at (omega arith), z)
  bytes (suc m) e =
      let k : at + suc m - 1 ≡ at + m = omega arith in
      let q : at + m - at ≡ m = omega arith in
      let r : at + suc m - at ≡ suc m = omega arith in
      returned m l (rw (length-drop at t) (omega (arith, within))) ∙ rw (lt-ltb at (at + suc m) (omega arith), k, get_or-drop at t m 0) (go q r (eqb (get_or t (at + m) 0) 13))
    where
      go : at + m - at ≡ m → at + suc m - at ≡ suc m → (b : Bool) → cond b (take m l) (take (suc m) l) ≡ passage at (cond {A = ℕ} b (at + m) (at + suc m)) t
      go q r true = rw q
      go q r false = rw r

  -- a line by its places is the first of the lines from here on, and the others stand behind it
  pub record First (r : Line) : Type 0 where
    pub lines : lines_of l ≡ passage at r.end t ∷ lines_behind r.next t
    pub from : at ≤ r.end
    pub to : (n : ℕ) → r.next ≡ Some n → r.end ≤ n
    pub within : r.end ≤ length t
    pub further : (n : ℕ) → r.next ≡ Some n → (at < n) × (n ≤ length t)

  end_from : (at ≤ end_of t at stop) × (end_of t at stop ≤ stop)
  unfolding end_of
  end_from = go (eqb (get_or t (stop - 1) 0) 13) (ltb at stop) refl
    where
      go : (b d : Bool) → ltb at stop ≡ d → (at ≤ cond {A = ℕ} (d && b) (stop - 1) stop) × (cond {A = ℕ} (d && b) (stop - 1) stop ≤ stop)
      go true true e = omega (arith, ltb-true at stop e)
      go false true e = omega arith
      go b false e = omega arith

  first_piece : lines_of l ≡ passage at (end_of t at stop) t ∷ map without_return (others is_newline l)
  unfolding lines_of
  first_piece = ap (map without_return) (pieces_are is_newline l) ∙ ap (λ (p : List ℕ). p ∷ map without_return (others is_newline l)) (bytes (stretch is_newline l) refl)

  pub line_first : First (line_at t at)
  unfolding lines_of line_at
  line_first = go (ltb stop (length t)) refl
    where
      go : (b : Bool) → ltb stop (length t) ≡ b → First (record { end = end_of t at stop; next = cond b (Some (stop + 1)) None })
      go true e =
          let k : stretch is_newline l < length t - at = omega (arith, ltb-true stop (length t) e) in
          let s : at + suc (stretch is_newline l) ≡ stop + 1 = omega arith in
          let o : others is_newline l ≡ pieces is_newline (drop (stop + 1) t) =
          rw (length-drop at t, lt-ltb (stretch is_newline l) (length t - at) k, drop-drop (suc (stretch is_newline l)) at t, s) in
          record {
            lines = first_piece ∙ ap (λ (ps : List (List ℕ)). passage at (end_of t at stop) t ∷ map without_return ps) o;
            from = end_from.0;
            to = λ n f. let g : n ≡ stop + 1 = sym (ap (λ (o : Option ℕ). unwrap_or o n) f) in omega (arith, end_from.1);
            within = omega (arith, end_from, within);
            further = λ n f. let g : n ≡ stop + 1 = sym (ap (λ (o : Option ℕ). unwrap_or o n) f) in (omega arith, omega (arith, ltb-true stop (length t) e));
          }
      go false e =
          let o : others is_newline l ≡ [] = rw (length-drop at t, le-ltb (stretch is_newline l) (length t - at) (omega (arith, ltb-false stop (length t) e))) in
          record {
            lines = first_piece ∙ ap (λ (ps : List (List ℕ)). passage at (end_of t at stop) t ∷ map without_return ps) o;
            from = end_from.0;
            to = λ n f. absurd (none-some n f);
            within = omega (arith, end_from, within);
            further = λ n f. absurd (none-some n f);
          }
