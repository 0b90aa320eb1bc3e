-- A record read byte by byte, from its second byte on, over plain variables. Assumes nothing.
use Prim.Native.Nat.{ℕ, zero, suc, ◌+◌, ◌-◌, ◌≤◌, ◌<◌}
use mathlib.Core.Path.{◌≡◌, refl, sym, ap, ◌∙◌}
use mathlib.Core.Bool.{Bool, true, false}
use mathlib.Core.List.{List, [], ◌∷◌, ◌++◌}
use native.Mathlib.Omega.{arith}
use native.Mathlib.Numerals.{add-one}
use borrow.Author.Tests.{eqb-true, eqb-false, ltb-true, ltb-false}
use lib.Dec.{eqb, ltb}
use lib.ListN.{length, get_or, drop, drop_of_length-le}
use lib.Seq.{drop-cons}
use Rattle.refusals.specs.declared.refusals.Refusal.TheVariants.{Unreadable}
use Rattle.stream.specs.Stream.{step_of, fed_of, refusal_of}
use Rattle.stream.specs.declared.Progress.{Progress}
use Rattle.stream.specs.declared.Progress.TheVariants.{Stopped}

pub fed_on : (s : List ℕ) (p : Progress) (at : ℕ) → at < length s → fed_of p (drop at s) ≡ fed_of (step_of p (get_or s at 0)) (drop (at + 1) s)
unfolding fed_of
fed_on s p at h = rw (drop-cons s at 0, add-one)

pub fed_none : (s : List ℕ) (p : Progress) (at : ℕ) → length s ≤ at → fed_of p (drop at s) ≡ p
unfolding fed_of
fed_none s p at h = rw (drop_of_length-le s h)

pub stays : (at : ℕ) (l : List ℕ) → fed_of (Stopped at) l ≡ Stopped at
unfolding fed_of step_of
stays at [] = refl
stays at (b ∷ l) = stays at l

pub stays_told : (at : ℕ) (l : List ℕ) → refusal_of (fed_of (Stopped at) l) ≡ Unreadable at
unfolding refusal_of
stays_told at l = rw (stays at l)

-- a kind of record: what is inside after so many bytes, its mark's second letter, its last byte, what follows it, where it starts
module _ (s : List ℕ) (inside : ℕ → Progress) (second last : ℕ) (next : Progress) (a : ℕ)
    (h-second : (b : ℕ) → b ≡ second → step_of (inside 1) b ≡ inside 2) (h-bad : (b : ℕ) → (b ≡ second → ⊥) → step_of (inside 1) b ≡ Stopped a)
    (h-more : (got b : ℕ) → 2 ≤ got → got < last → step_of (inside got) b ≡ inside (got + 1)) (h-last : (b : ℕ) → step_of (inside last) b ≡ next) where
  body : (m at got : ℕ) → 2 ≤ got → got + m ≡ last → at + m < length s → fed_of (inside got) (drop at s) ≡ fed_of next (drop (at + m + 1) s)
  body zero at got g e h =
      let p : got ≡ last = omega arith in
      let q : at + 0 + 1 ≡ at + 1 = omega arith in
      fed_on s (inside got) at (omega arith) ∙ rw (p, h-last (get_or s at 0), q)
  body (suc m) at got g e h =
      let q : at + 1 + m + 1 ≡ at + suc m + 1 = omega arith in
      fed_on s (inside got) at (omega arith) ∙ (rw (h-more got (get_or s at 0) g (omega arith), ← q) (body m (at + 1) (got + 1) (omega arith) (omega arith) (omega arith)))

  short : (m at got : ℕ) → 2 ≤ got → got + m ≤ last → length s ≡ at + m → fed_of (inside got) (drop at s) ≡ inside (got + m)
  short zero at got g e h =
      let p : got + 0 ≡ got = omega arith in
      rw p (fed_none s (inside got) at (omega arith))
  short (suc m) at got g e h =
      let q : got + 1 + m ≡ got + suc m = omega arith in
      fed_on s (inside got) at (omega arith) ∙ (rw (h-more got (get_or s at 0) g (omega arith), ← q) (short m (at + 1) (got + 1) (omega arith) (omega arith) (omega arith)))

  -- a whole record
  pub whole : (at : ℕ) → 2 ≤ last → at + last ≤ length s → get_or s at 0 ≡ second → fed_of (inside 1) (drop at s) ≡ fed_of next (drop (at + last) s)
  whole at l h e =
      let q : at + 1 + (last - 2) + 1 ≡ at + last = omega arith in
      fed_on s (inside 1) at (omega arith) ∙ (rw (h-second (get_or s at 0) e, ← q) (body (last - 2) (at + 1) 2 (omega arith) (omega arith) (omega arith)))

  -- a record that can't be read
  pub cut : (at : ℕ) → 2 ≤ last → ((got : ℕ) → 1 ≤ got → refusal_of (inside got) ≡ Unreadable a) → (at + last ≤ length s → get_or s at 0 ≡ second → ⊥) → refusal_of (fed_of (inside 1) (drop at s)) ≡ Unreadable a
  cut at l r unlike = go (ltb at (length s)) refl (eqb (get_or s at 0) second) refl
    where
      go : (t : Bool) → ltb at (length s) ≡ t → (u : Bool) → eqb (get_or s at 0) second ≡ u → refusal_of (fed_of (inside 1) (drop at s)) ≡ Unreadable a
      go false e u f = ap refusal_of (fed_none s (inside 1) at (ltb-false at (length s) e)) ∙ r 1 (omega arith)
      go true e false f = ap refusal_of (fed_on s (inside 1) at (ltb-true at (length s) e) ∙ rw (h-bad (get_or s at 0) (eqb-false (get_or s at 0) second f))) ∙ stays_told a (drop (at + 1) s)
      go true e true f =
          let here = ltb-true at (length s) e in
          let m = length s - (at + 1) in
          let q : get_or s at 0 ≡ second = eqb-true (get_or s at 0) second f in
          let long : at + last ≤ length s → ⊥ = λ x. unlike x q in
          ap refusal_of (fed_on s (inside 1) at here ∙ (rw (h-second (get_or s at 0) q) (short m (at + 1) 2 (omega arith) (omega (arith, long)) (omega arith)))) ∙ r (2 + m) (omega arith)

-- a sheet in parts
pub fed_append : (p : Progress) (xs ys : List ℕ) → fed_of p (xs ++ ys) ≡ fed_of (fed_of p xs) ys
unfolding fed_of
fed_append p [] ys = refl
fed_append p (b ∷ xs) ys = fed_append (step_of p b) xs ys
