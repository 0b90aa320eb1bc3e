-- Two lists compared byte by byte. Assumes nothing.
use mathlib.Core.Path.{◌≡◌, refl, sym, ap, ◌∙◌}
use mathlib.Core.Bool.{Bool, true, false, ◌&&◌, false≢true}
use mathlib.Core.List.{List, [], ◌∷◌}
use Prim.Native.Nat.{ℕ, suc, ◌+◌, ◌≤◌, ◌<◌}
use native.Mathlib.Numerals.{add-one}
use native.Mathlib.Omega.{arith}
use lib.Dec.{eqb}
use borrow.Author.Tests.{eq-eqb, ne_eqb, eqb-true}
use lib.ListN.{length, get_or, drop, drop_of_length-le}
use lib.Seq.{drop-cons}
use Rattle.std.specs.Str.{bytes_eq}
use Rattle.spelled.specs.Spelled.{agree, itself, same_bytes}

module _ (f : ℕ → ℕ) where
  pub other_length : (a b : List ℕ) → (length a ≡ length b → ⊥) → agree f a b ≡ false
  unfolding agree
  other_length [] [] h = absurd (h refl)
  other_length [] (k ∷ ks) h = refl
  other_length (c ∷ cs) [] h = refl
  other_length (c ∷ cs) (k ∷ ks) h = go (eqb (f c) k) (other_length cs ks (λ e. h (ap suc e)))
    where
      go : (t : Bool) → agree f cs ks ≡ false → (t && agree f cs ks) ≡ false
      go true e = e
      go false e = refl

  -- as an invariant: what is left agrees exactly where the whole does
  pub record Passed (a b : List ℕ) (i : ℕ) : Type 0 where
    pub same : agree f (drop i a) (drop i b) ≡ agree f a b
    pub long : length a ≡ length b
    pub within : i ≤ length a

  pub first : (a b : List ℕ) → length a ≡ length b → Passed a b 0
  first a b e = record { same = refl; long = e; within = omega arith }

  module _ {a b : List ℕ} {i : ℕ} (p : Passed a b i) where
    both : i < length a → agree f (drop i a) (drop i b) ≡ (eqb (f (get_or a i 0)) (get_or b i 0) && agree f (drop (suc i) a) (drop (suc i) b))
    unfolding agree
    both h = rw (drop-cons a i 0 h, drop-cons b i 0 (omega (arith, p.long)))

    pub next : i < length a → f (get_or a i 0) ≡ get_or b i 0 → Passed a b (i + 1)
    next h e =
        record {
          same = rw (add-one i) (ap (λ (t : Bool). t && agree f (drop (suc i) a) (drop (suc i) b)) (sym (eq-eqb (f (get_or a i 0)) (get_or b i 0) e)) ∙ sym (both h) ∙ p.same);
          long = p.long;
          within = omega arith;
        }

    pub differs : i < length a → (f (get_or a i 0) ≡ get_or b i 0 → ⊥) → false ≡ agree f a b
    differs h e = ap (λ (t : Bool). t && agree f (drop (suc i) a) (drop (suc i) b)) (sym (ne_eqb (f (get_or a i 0)) (get_or b i 0) e)) ∙ sym (both h) ∙ p.same

    pub ended : length a ≤ i → true ≡ agree f a b
    unfolding agree
    ended h = sym (rw (drop_of_length-le a h, drop_of_length-le b {i = i} (omega (arith, p.long)))) ∙ p.same

-- ---- the same bytes are the same list

pub same_is : (a b : List ℕ) → same_bytes a b ≡ true → a ≡ b
unfolding same_bytes agree itself
same_is [] [] e = refl
same_is [] (k ∷ ks) e = absurd (false≢true e)
same_is (c ∷ cs) [] e = absurd (false≢true e)
same_is (c ∷ cs) (k ∷ ks) e = go (same_is cs ks) (eqb c k) refl e
  where
    go : (agree itself cs ks ≡ true → cs ≡ ks) → (t : Bool) → eqb c k ≡ t → (t && agree itself cs ks) ≡ true → c ∷ cs ≡ k ∷ ks
    go before true f g = let h : c ≡ k = eqb-true c k f in let r : cs ≡ ks = before g in cc
    go before false f g = absurd (false≢true g)

pub itself_same : (a : List ℕ) → same_bytes a a ≡ true
unfolding same_bytes agree itself
itself_same [] = refl
itself_same (c ∷ cs) = rw (eq-eqb c c refl) (itself_same cs)

-- std says the same by its own word
pub same_is_eq : (a b : List ℕ) → bytes_eq a b ≡ same_bytes a b
unfolding same_bytes agree itself
same_is_eq [] [] = refl
same_is_eq [] (k ∷ ks) = refl
same_is_eq (c ∷ cs) [] = refl
same_is_eq (c ∷ cs) (k ∷ ks) = ap (λ (t : Bool). eqb c k && t) (same_is_eq cs ks)
