-- Laws of texts put into a buffer. Assumes nothing.
use Prim.Native.Nat.{ℕ, suc, ◌+◌, ◌≤◌}
use mathlib.Core.Path.{◌≡◌, refl, sym, ◌∙◌}
use mathlib.Core.List.{List, [], ◌∷◌, ◌++◌}
use native.Mathlib.Numerals.{add-one}
use native.Mathlib.Nat.{add-zero}
use native.Mathlib.Omega.{arith}
use lib.ListN.{length, set, take, drop, length-append}
use lib.Seq.{sets, length-sets, sets-eq}
use Rattle.words.specs.Buffer.{placed, Put}

-- a text put at `at` is a run of stores
run : (out : List ℕ) (at : ℕ) (text : List ℕ) → placed out at text ≡ sets out at text
unfolding placed
run out at [] = refl
run out at (b ∷ text) = run (set out at b) (at + 1) text ∙ rw add-one

-- where it fits, it stands between what was before it and what was after it
pub placed_parts : (out : List ℕ) (at : ℕ) (text : List ℕ) → at + length text ≤ length out → placed out at text ≡ take at out ++ text ++ drop (at + length text) out
placed_parts out at text h = run out at text ∙ sets-eq text out at h

-- the buffer keeps its length
pub placed_length : (out : List ℕ) (at : ℕ) (text : List ℕ) → length (placed out at text) ≡ length out
placed_length out at text = rw run (length-sets out at text)

-- one text and, behind it, another one
pub placed_append : (out : List ℕ) (at : ℕ) (xs ys : List ℕ) → placed out at (xs ++ ys) ≡ placed (placed out at xs) (at + length xs) ys
unfolding placed
placed_append out at [] ys = rw add-zero
placed_append out at (x ∷ xs) ys =
    let e : at + 1 + length xs ≡ at + suc (length xs) = omega arith in
    rw (← e) (placed_append (set out at x) (at + 1) xs ys)

-- ---- what a step does

pub nothing : (out : List ℕ) (at : ℕ) → Put out at [] out at
unfolding placed
nothing out at = record { bytes = refl; next = sym (add-zero at) }

pub byte : (out : List ℕ) (at b : ℕ) → Put out at (b ∷ []) (set out at b) (at + 1)
unfolding placed
byte out at b = record { bytes = refl; next = refl }

pub then : {a b c xs ys : List ℕ} {p q r : ℕ} → Put a p xs b q → Put b q ys c r → Put a p (xs ++ ys) c r
then {a} {b} {c} {xs} {ys} {p} {q} {r} x y = record {
  bytes = y.bytes ∙ (rw (x.next, x.bytes) (sym (placed_append a p xs ys)));
  next = omega (arith, x.next, y.next, length-append xs ys);
}
