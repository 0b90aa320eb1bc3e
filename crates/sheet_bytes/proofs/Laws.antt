-- A turn of each loop, with what is left to put, and what was put by another name. Assumes nothing.
use Prim.Native.Nat.{ℕ, suc, ◌+◌, ◌-◌, ◌/◌, ◌%◌, ◌≤◌, ◌<◌}
use mathlib.Core.Path.{◌≡◌, subst}
use mathlib.Core.List.{List, [], ◌∷◌, ◌++◌, append_assoc}
use native.Mathlib.Numerals.{add-one}
use native.Mathlib.Nat.{add-zero}
use native.Mathlib.Omega.{arith}
use lib.ListN.{length, get_or, set, drop, drop_of_length-le}
use lib.Seq.{drop-cons}
use lib.Ieee.{Float, binary64, to_bits}
use Rattle.words.specs.Buffer.{placed, Put}
use Rattle.words.proofs.Laws.{then}
use Rattle.sheet_bytes.specs.Bytes.{number_bytes, float_bytes}

-- ---- the bytes of a text that are left, from i on

pub text_none : (text out : List ℕ) (at : ℕ) → placed out (at + 0) (drop 0 text) ≡ placed out at text
text_none text out at = rw (add-zero at)

pub text_next : (text out o : List ℕ) (at i : ℕ) → i < length text → placed out (at + i) (drop i text) ≡ o → placed (set out (at + i) (get_or text i 0)) (at + (i + 1)) (drop (i + 1) text) ≡ o
unfolding placed
text_next text out o at i h e =
    let q : at + (i + 1) ≡ at + i + 1 = omega arith in
    rw (q, add-one i) (rw (drop-cons text i 0 h) at e)

pub text_all : (text out o : List ℕ) (at i : ℕ) → length text ≤ i → placed out (at + i) (drop i text) ≡ o → out ≡ o
unfolding placed
text_all text out o at i h e = rw (drop_of_length-le text h) at e

-- ---- the bytes of a number that are left, after i of them

pub number_none : (k n : ℕ) (out : List ℕ) (at : ℕ) → placed out (at + 0) (number_bytes (k - 0) n) ≡ placed out at (number_bytes k n)
number_none k n out at =
    let p : k - 0 ≡ k = omega arith in
    rw (p, add-zero at)

pub number_next : (k left : ℕ) (out o : List ℕ) (at i : ℕ) → i < k → placed out (at + i) (number_bytes (k - i) left) ≡ o → placed (set out (at + i) (left % 256)) (at + (i + 1)) (number_bytes (k - (i + 1)) (left / 256)) ≡ o
unfolding placed number_bytes
number_next k left out o at i h e =
    let p : k - i ≡ suc (k - (i + 1)) = omega arith in
    let q : at + (i + 1) ≡ at + i + 1 = omega arith in
    rw q (subst (λ (j : ℕ). placed out (at + i) (number_bytes j left) ≡ o) p e)

pub number_all : (k left : ℕ) (out o : List ℕ) (at i : ℕ) → k ≤ i → placed out (at + i) (number_bytes (k - i) left) ≡ o → out ≡ o
unfolding placed number_bytes
number_all k left out o at i h e =
    let p : k - i ≡ 0 = omega arith in
    rw p at e

-- ---- what was put, by another name

module _ {old new : List ℕ} {at r : ℕ} where
  pub as_byte : {b c : ℕ} → b ≡ c → Put old at (b ∷ []) new r → Put old at (c ∷ []) new r
  as_byte e x = rw (← e) x

  pub as_float : (n : ℕ) (x : Float) → n ≡ to_bits binary64 x → Put old at (number_bytes 8 n) new r → Put old at (float_bytes x) new r
  unfolding float_bytes
  as_float n x e p = rw (← e) p

-- five floats behind other bytes, one by one
pub one_by_one : {old out new a : List ℕ} {at p r : ℕ} (v w x y z : Float) → Put old at a out p → Put out p (float_bytes v ++ float_bytes w ++ float_bytes x ++ float_bytes y ++ float_bytes z) new r → Put old at (a ++ float_bytes v ++ float_bytes w ++ float_bytes x ++ float_bytes y ++ float_bytes z) new r
one_by_one {a = a} v w x y z p q =
    let e : a ++ (float_bytes v ++ float_bytes w ++ float_bytes x ++ float_bytes y ++ float_bytes z) ≡ a ++ float_bytes v ++ float_bytes w ++ float_bytes x ++ float_bytes y ++ float_bytes z = simp append_assoc in
    rw (← e) (then p q)
