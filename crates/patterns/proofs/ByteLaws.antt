-- Numbers as bytes: a number of j + k bytes is that of the first j and, above it, that of the other k. Assumes nothing.
use mathlib.Core.Path.{◌≡◌}
use mathlib.Core.List.{List}
use Prim.Native.Nat.{ℕ, zero, suc, ◌+◌, ◌*◌, ◌^◌}
use native.Mathlib.Nat.{zero-add, add-zero, suc-add, pow-zero, pow-suc, one-mul, mul-add, mul_assoc, mul_comm, mul-zero}
use native.Mathlib.Omega.{arith}
use lib.ListN.{get_or}
use Rattle.patterns.specs.Bytes.{little_endian}

pub single : (s : List ℕ) (at : ℕ) → little_endian 1 s at ≡ get_or s at 0
unfolding little_endian
single s at = simp (mul-zero, add-zero)

pub join : (j k : ℕ) (s : List ℕ) (at : ℕ) → little_endian (j + k) s at ≡ little_endian j s at + 256 ^ j * little_endian k s (at + j)
unfolding little_endian
join zero k s at = simp (zero-add, add-zero, pow-zero, one-mul)
join (suc j) k s at =
    let a : at + suc j ≡ at + 1 + j = omega arith in
    let x : ℕ = little_endian k s (at + 1 + j) in
    let y : ℕ = little_endian j s (at + 1) in
    let p : 256 ^ suc j * x ≡ 256 * (256 ^ j * x) = rw (pow-suc 256 j, mul_comm (256 ^ j) 256) (mul_assoc 256 (256 ^ j) x) in
    rw (suc-add j k, join j k s (at + 1), a) (omega (arith, p, mul-add 256 y (256 ^ j * x)))
