-- The bytes before the first that a test holds of. Assumes nothing.
use mathlib.Core.Path.{◌≡◌, refl, ap, ◌∙◌}
use mathlib.Core.Bool.{Bool, true, false, cond, not}
use mathlib.Core.List.{List, [], ◌∷◌}
use Prim.Native.Nat.{ℕ, zero, suc, ◌+◌, ◌-◌, ◌≤◌, ◌<◌}
use native.Mathlib.Nat.{le_of_eq}
use native.Mathlib.Numerals.{add-one}
use native.Mathlib.Omega.{arith}
use lib.ListN.{length, get_or, take, drop, length-drop, drop_of_length-le}
use lib.Seq.{drop-cons, take_all}
use lib.Dec.{ltb}
use borrow.Author.Tests.{ltb-false}
use Rattle.std.specs.Prelude.{Option, Some, None}
use Rattle.std.specs.Option.{unwrap_or}
use Rattle.std.specs.List.{position, position_or_len}
use Rattle.lines.specs.Lines.{stretch}
use Rattle.lines.proofs.Lines.{stretch_within}

-- a list from a place on, as a slice gives it
pub rest : (k : ℕ) (s : List ℕ) → take (length s - k) (drop k s) ≡ drop k s
rest k s = take_all (length s - k) (drop k s) (le_of_eq (length-drop k s))

-- std says the same by its own word
stretch_is : (test : ℕ → Bool) (l : List ℕ) → position_or_len test l ≡ stretch test l
unfolding stretch
stretch_is test [] = refl
stretch_is test (c ∷ cs) = go (stretch_is test cs) (test c)
  where
    go : position_or_len test cs ≡ stretch test cs → (b : Bool) → cond {A = ℕ} (not b) (1 + position_or_len test cs) 0 ≡ cond {A = ℕ} b zero (suc (stretch test cs))
    go before true = refl
    go before false = omega (arith, before)

-- the first place that the test holds at, as std gives it, or the end
pub stretch_from : (test : ℕ → Bool) (l : List ℕ) {r : Option ℕ} {n : ℕ} → r ≡ position test l → n ≡ unwrap_or r (length l) → (n ≡ stretch test l) × (n ≤ length l)
stretch_from test l e f =
    let w : stretch test l ≤ length l = stretch_within test l in
    let is : _ ≡ stretch test l = f ∙ ap (λ (o : Option ℕ). unwrap_or o (length l)) e ∙ go (ltb (position_or_len test l) (length l)) refl w in
    (is, rw is w)
  where
    go : (b : Bool) → ltb (position_or_len test l) (length l) ≡ b → stretch test l ≤ length l → unwrap_or (cond b (Some (position_or_len test l)) None) (length l) ≡ stretch test l
    go true e w = stretch_is test l
    go false e w = omega (arith, w, stretch_is test l, ltb-false (position_or_len test l) (length l) e)

pub ends : (test : ℕ → Bool) (t : List ℕ) (i : ℕ) → length t ≤ i → stretch test (drop i t) ≡ 0
unfolding stretch
ends test t i h = rw (drop_of_length-le t h)

module _ (test : ℕ → Bool) where
  -- ---- one byte at a time

  pub stops : (t : List ℕ) (i : ℕ) → i < length t → test (get_or t i 0) ≡ true → stretch test (drop i t) ≡ 0
  unfolding stretch
  stops t i h e = rw (drop-cons t i 0 h, e)

  pub goes_on : (t : List ℕ) (i : ℕ) → i < length t → test (get_or t i 0) ≡ false → stretch test (drop i t) ≡ suc (stretch test (drop (suc i) t))
  unfolding stretch
  goes_on t i h e = rw (drop-cons t i 0 h, e)

  -- ---- as an invariant of a loop that starts at `at`

  pub record Passed (t : List ℕ) (at i : ℕ) : Type 0 where
    pub same : i + stretch test (drop i t) ≡ at + stretch test (drop at t)
    pub from : at ≤ i
    pub within : i ≤ length t

  pub first : (t : List ℕ) (at : ℕ) → at ≤ length t → Passed t at at
  first t at h = record { same = refl; from = omega arith; within = h }

  pub next : {t : List ℕ} {at i : ℕ} → Passed t at i → i < length t → test (get_or t i 0) ≡ false → Passed t at (i + 1)
  next {t} {at} {i} p h e =
      record {
        same = rw (add-one i) (omega (arith, p.same, goes_on t i h e));
        from = omega (arith, p.from);
        within = omega arith;
      }

  pub stopped : {t : List ℕ} {at i : ℕ} → Passed t at i → i < length t → test (get_or t i 0) ≡ true → i ≡ at + stretch test (drop at t)
  stopped {t} {at} {i} p h e = omega (arith, p.same, stops t i h e)

  pub ended : {t : List ℕ} {at i : ℕ} → Passed t at i → length t ≤ i → i ≡ at + stretch test (drop at t)
  ended {t} {at} {i} p h = omega (arith, p.same, ends test t i h)
