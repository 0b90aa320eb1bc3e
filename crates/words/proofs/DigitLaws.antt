-- Laws of the digits: a decimal number from its tenth, what is left of a pattern's digits, and how many there are. Assumes nothing.
use Prim.Native.Nat.{ℕ, zero, suc, ◌+◌, ◌-◌, ◌*◌, ◌/◌, ◌%◌, ◌^◌, ◌≤◌, ◌<◌}
use mathlib.Core.Path.{◌≡◌, refl, ap, ◌∙◌}
use mathlib.Core.Bool.{Bool, true, false, cond}
use mathlib.Core.List.{List, [], ◌∷◌, ◌++◌}
use native.Mathlib.Nat.{pow-suc}
use native.Mathlib.Omega.{arith}
use lib.Dec.{ltb}
use lib.ListN.{length, set, length-append}
use borrow.Author.Tests.{lt-ltb, le-ltb}
use Rattle.words.specs.Buffer.{placed, Put}
use Rattle.words.specs.Digits.{decimal_in, decimal_of, hex_digit, hex_in, hex_of}
use Rattle.words.proofs.Laws.{byte, then}

-- more places than a number has digits change nothing
enough : (k n : ℕ) → n < 10 ^ suc k → decimal_in (suc k) n ≡ decimal_in (suc (suc k)) n
unfolding decimal_in
enough zero n h = simp (lt-ltb n 10 h)
enough (suc k) n h = ap (λ l. cond (ltb n 10) ((48 + n) ∷ []) (l ++ ((48 + n % 10) ∷ []))) (enough k (n / 10) (omega (arith, pow-suc 10 (suc k))))

pub decimal_one : (n : ℕ) → n < 10 → decimal_of n ≡ (48 + n) ∷ []
unfolding decimal_of decimal_in
decimal_one n h = simp (lt-ltb n 10 h)

next_in : (k n : ℕ) → 10 ≤ n → decimal_in (suc k) n ≡ decimal_in k (n / 10) ++ ((48 + n % 10) ∷ [])
unfolding decimal_in
next_in k n h = simp (le-ltb n 10 h)

pub decimal_next : (n : ℕ) → 10 ≤ n → n < 10 ^ 20 → decimal_of n ≡ decimal_of (n / 10) ++ ((48 + n % 10) ∷ [])
unfolding decimal_of
decimal_next n h l = next_in 19 n h ∙ ap (λ t. t ++ ((48 + n % 10) ∷ [])) (enough 18 (n / 10) (omega arith))

pub one_length : (n : ℕ) → n < 10 → length (decimal_of n) ≡ 1
one_length n h = ap length (decimal_one n h)

pub next_length : (n : ℕ) → 10 ≤ n → n < 10 ^ 20 → length (decimal_of n) ≡ length (decimal_of (n / 10)) + 1
next_length n h l = ap length (decimal_next n h l) ∙ length-append (decimal_of (n / 10)) ((48 + n % 10) ∷ [])

pub put_one : (out : List ℕ) (at n : ℕ) → n < 10 → Put out at (decimal_of n) (set out at (48 + n)) (at + 1)
put_one out at n h = rw (decimal_one n h) (byte out at (48 + n))

pub put_next : (out new : List ℕ) (at last n : ℕ) → 10 ≤ n → n < 10 ^ 20 → Put out at (decimal_of (n / 10)) new last → Put out at (decimal_of n) (set new last (48 + n % 10)) (last + 1)
put_next out new at last n h l x = rw (decimal_next n h l) (then x (byte new last (48 + n % 10)))

either : (t : Bool) (xs ys : List ℕ) (k : ℕ) → length xs ≤ k → length ys ≤ k → length (cond t xs ys) ≤ k
either true xs ys k h l = h
either false xs ys k h l = l

in_length : (k n : ℕ) → length (decimal_in k n) ≤ k
unfolding decimal_in
in_length zero n = omega arith
in_length (suc k) n =
    either (ltb n 10) ((48 + n) ∷ []) (decimal_in k (n / 10) ++ ((48 + n % 10) ∷ [])) (suc k) (omega arith)
    (omega (arith, in_length k (n / 10), length-append (decimal_in k (n / 10)) ((48 + n % 10) ∷ [])))

pub decimal_length : (n : ℕ) → length (decimal_of n) ≤ 20
unfolding decimal_of
decimal_length n = in_length 20 n

pub hex_length : (n : ℕ) → length (hex_of n) ≡ 16
unfolding hex_of hex_in
hex_length n = refl

-- a turn puts the first of the digits that are left
pub hex_turn : (n k : ℕ) (out : List ℕ) (p d : ℕ) → 0 < k → d ≡ hex_digit (n / 2 ^ (4 * (k - 1)) % 16) → placed (set out p d) (p + 1) (hex_in (k - 1) n) ≡ placed out p (hex_in k n)
unfolding placed hex_in
hex_turn n zero out p d h e = absurd (omega arith)
hex_turn n (suc k) out p d h e =
    let q : suc k - 1 ≡ k = omega arith in
    rw (e, q)

pub hex_end : (n k : ℕ) (out : List ℕ) (p : ℕ) → k ≤ 0 → out ≡ placed out p (hex_in k n)
unfolding placed hex_in
hex_end n zero out p h = refl
hex_end n (suc k) out p h = absurd (omega arith)
