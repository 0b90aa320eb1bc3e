-- A word is a count where `count_of` has one, and it is small. Assumes nothing.
use mathlib.Core.Path.{◌≡◌, refl}
use mathlib.Core.Bool.{Bool, true, false, cond, ◌&&◌}
use mathlib.Core.List.{List}
use Prim.Native.Nat.{ℕ, ◌≤◌, ◌<◌}
use native.Mathlib.Omega.{arith}
use borrow.Author.Tests.{leb-true}
use lib.Dec.{leb}
use Rattle.std.specs.Prelude.{Some, None, is_some, IfSome}
use Rattle.decimal_words.specs.Numbers.{value_of, few_digits}
use Rattle.decimal_words.proofs.Turns.{both_right}
use Rattle.option_values.specs.Values.{is_count, count_of}

pub count_good : (s : List ℕ) → is_some (count_of s) ≡ is_count s
unfolding count_of
count_good s = go (is_count s)
  where
    go : (b : Bool) → is_some (cond b (Some (value_of s)) None) ≡ b
    go true = refl
    go false = refl

pub count_small : (s : List ℕ) → IfSome {T = ℕ} (count_of s) (λ n. n < 65536)
unfolding count_of is_count
count_small s = go (few_digits s && leb (value_of s) 65535) refl
  where
    go : (b : Bool) → (few_digits s && leb (value_of s) 65535) ≡ b → IfSome {T = ℕ} (cond b (Some (value_of s)) None) (λ n. n < 65536)
    go true e = let h : value_of s ≤ 65535 = leb-true (value_of s) 65535 (both_right (few_digits s) (leb (value_of s) 65535) e) in omega (arith, h)
    go false e = tt
