-- Fractions X / p ≤ X' / p' and Y / q ≤ Y' / q': their products, sums, differences and quotients, multiplied out. Nothing here is about floats. Assumes nothing.
use mathlib.Core.Path.{◌≡◌, sym, ap, ◌∙◌}
use Prim.Native.Nat.{ℕ, ◌+◌, ◌-◌, ◌*◌, ◌≤◌}
use native.Mathlib.Nat.{le_trans, le_of_eq, add-le-add, add-mul, mul-sub, mul_comm, mul-le-mul, mul-le-mul_right, mul-mul-mul_comm}
use native.Mathlib.Omega.{arith}

pub products : (X p X' p' Y q Y' q' : ℕ) → X * p' ≤ X' * p → Y * q' ≤ Y' * q → X * Y * (p' * q') ≤ X' * Y' * (p * q)
products X p X' p' Y q Y' q' h k = le_trans (le_of_eq (mul-mul-mul_comm X Y p' q')) (le_trans (mul-le-mul h k) (le_of_eq (mul-mul-mul_comm X' p Y' q)))

-- one of two parts over the common denominators
part : (X p X' p' q q' : ℕ) → X * p' ≤ X' * p → X * q * (p' * q') ≤ X' * q' * (p * q)
part X p X' p' q q' h =
    le_trans (le_of_eq (mul-mul-mul_comm X q p' q'))
    (le_trans (mul-le-mul_right (q * q') h) (le_of_eq (ap (λ (z : ℕ). X' * p * z) (mul_comm q q') ∙ sym (mul-mul-mul_comm X' q' p q))))

other : (Y q Y' q' p p' : ℕ) → Y * q' ≤ Y' * q → Y * p * (p' * q') ≤ Y' * p' * (p * q)
other Y q Y' q' p p' k =
    le_trans (le_of_eq (ap (λ (z : ℕ). Y * p * z) (mul_comm p' q')))
    (le_trans (part Y q Y' q' p p' k) (le_of_eq (ap (λ (z : ℕ). Y' * p' * z) (mul_comm q p))))

pub sums : (X p X' p' Y q Y' q' : ℕ) → X * p' ≤ X' * p → Y * q' ≤ Y' * q → (X * q + Y * p) * (p' * q') ≤ (X' * q' + Y' * p') * (p * q)
sums X p X' p' Y q Y' q' h k =
    le_trans (le_of_eq (add-mul (X * q) (Y * p) (p' * q')))
    (le_trans (add-le-add (part X p X' p' q q' h) (other Y q Y' q' p p' k)) (le_of_eq (sym (add-mul (X' * q') (Y' * p') (p * q)))))

taken : (a b c : ℕ) → (a - b) * c ≡ a * c - b * c
taken a b c = mul_comm (a - b) c ∙ mul-sub c a b ∙ ap (λ (z : ℕ). z - c * b) (mul_comm c a) ∙ ap (λ (z : ℕ). a * c - z) (mul_comm c b)

less : (a b c d : ℕ) → a ≤ c → d ≤ b → a - b ≤ c - d
less a b c d h k = omega arith

pub differences : (X p X' p' Y q Y' q' : ℕ) → X * p' ≤ X' * p → Y' * q ≤ Y * q' → (X * q - Y * p) * (p' * q') ≤ (X' * q' - Y' * p') * (p * q)
differences X p X' p' Y q Y' q' h k =
    le_trans (le_of_eq (taken (X * q) (Y * p) (p' * q')))
    (le_trans (less (X * q * (p' * q')) (Y * p * (p' * q')) (X' * q' * (p * q)) (Y' * p' * (p * q)) (part X p X' p' q q' h) (other Y' q' Y q p' p k))
    (le_of_eq (sym (taken (X' * q') (Y' * p') (p * q)))))

pub quotients : (X p X' p' Y q Y' q' : ℕ) → X * p' ≤ X' * p → Y' * q ≤ Y * q' → X * q * (Y' * p') ≤ X' * q' * (Y * p)
quotients X p X' p' Y q Y' q' h k =
    le_trans (le_of_eq (ap (λ (z : ℕ). X * q * z) (mul_comm Y' p') ∙ mul-mul-mul_comm X q p' Y' ∙ ap (λ (z : ℕ). X * p' * z) (mul_comm q Y')))
    (le_trans (mul-le-mul h k)
    (le_of_eq (sym (ap (λ (z : ℕ). X' * q' * z) (mul_comm Y p) ∙ mul-mul-mul_comm X' q' p Y ∙ ap (λ (z : ℕ). X' * p * z) (mul_comm q' Y)))))
