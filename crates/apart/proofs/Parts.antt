-- One part of a buffer exchanged, and every other as it was. Assumes nothing.
use Prim.Native.Nat.{ℕ, suc, ◌+◌, ◌-◌, ◌*◌, ◌≤◌, ◌<◌}
use mathlib.Core.Path.{◌≡◌, refl, sym, ap, ◌∙◌}
use mathlib.Core.List.{List, ◌++◌, append_assoc}
use native.Mathlib.Nat.{mul-le-mul_right, suc-mul}
use native.Mathlib.Omega.{arith}
use lib.ListN.{length, take, drop, length-append, length-drop, take-append-drop}
use lib.Seq.{length-take-le, take_at, drop_at, take-append-le, drop-append-le, drop-append-add, drop-drop}
use Rattle.rowwise.specs.Rooms.{row_in, row_put}

module _ {A : Type 0} where
  -- a part that ends before a seam does not depend on what is behind it
  front : (a n m : ℕ) (p z : List A) → length p ≡ m → a + n ≤ m → take n (drop a (p ++ z)) ≡ take n (drop a p)
  front a n m p z e h =
      let q : a ≤ length p = omega arith in
      let w : n ≤ length (drop a p) = omega (arith, length-drop a p) in
      ap (take n) (drop-append-le a p z q) ∙ take-append-le n (drop a p) z w

  -- before row k everything is as it was
  before : (a n m : ℕ) (x z : List A) → m ≤ length x → a + n ≤ m → take n (drop a (take m x ++ z)) ≡ take n (drop a x)
  before a n m x z k h =
      let e = length-take-le m x k in
      front a n m (take m x) z e h ∙ sym (front a n m (take m x) (drop m x) e h) ∙ ap (λ (y : List A). take n (drop a y)) (take-append-drop m x)

  pub put_back : (n k a : ℕ) (y x : List A) → k * n + n ≤ length x → length y ≡ n → k * n + n ≤ a → drop a (row_put n k y x) ≡ drop a x
  unfolding row_put
  put_back n k a y x h e g =
      let m : ℕ = k * n in
      let p : List A = take m x ++ y in
      let z : List A = drop n (drop m x) in
      let long : length p ≡ m + n = omega (arith, length-append (take m x) y, length-take-le m x (omega arith), e) in
      let at-seam : length p + (a - (m + n)) ≡ a = omega (arith, long, g) in
      let to : m + n + (a - (m + n)) ≡ a = omega (arith, g) in
      ap (drop a) (sym (append_assoc (take m x) y z))
      ∙ ap (λ (i : ℕ). drop i (p ++ z)) (sym at-seam)
      ∙ drop-append-add p z (a - (m + n))
      ∙ ap (drop (a - (m + n))) (drop-drop n m x)
      ∙ drop-drop (a - (m + n)) (m + n) x
      ∙ ap (λ (i : ℕ). drop i x) to

  pub put_same : (n r : ℕ) (y x : List A) → r * n + n ≤ length x → length y ≡ n → row_in n r (row_put n r y x) ≡ y
  unfolding row_in row_put
  put_same n r y x h e =
      let m : ℕ = r * n in
      let z : List A = drop n (drop m x) in
      ap (take n) (drop_at (take m x) (y ++ z) m (length-take-le m x (omega arith))) ∙ take_at y z n e

  pub put_before : (n r k : ℕ) (y x : List A) → r < k → k * n ≤ length x → row_in n r (row_put n k y x) ≡ row_in n r x
  unfolding row_in row_put
  put_before n r k y x h g = before (r * n) n (k * n) x (y ++ drop n (drop (k * n) x)) g (omega (arith, mul-le-mul_right {m = suc r} {n = k} n h, suc-mul r n))

  pub put_after : (n r k : ℕ) (y x : List A) → k < r → k * n + n ≤ length x → length y ≡ n → row_in n r (row_put n k y x) ≡ row_in n r x
  unfolding row_in
  put_after n r k y x h g e = ap (take n) (put_back n k (r * n) y x g e (omega (arith, mul-le-mul_right {m = suc k} {n = r} n h, suc-mul k n)))

  pub put_length : (n k : ℕ) (y x : List A) → k * n + n ≤ length x → length y ≡ n → length (row_put n k y x) ≡ length x
  unfolding row_put
  put_length n k y x h e =
      omega (arith, length-append (take (k * n) x) (y ++ drop n (drop (k * n) x)), length-append y (drop n (drop (k * n) x)), length-take-le (k * n) x (omega arith), length-drop n (drop (k * n) x), length-drop (k * n) x, e)

  pub in_length : (n r : ℕ) (x : List A) → r * n + n ≤ length x → length (row_in n r x) ≡ n
  unfolding row_in
  in_length n r x h = length-take-le n (drop (r * n) x) (omega (arith, length-drop (r * n) x))
