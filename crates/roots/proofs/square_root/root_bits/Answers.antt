-- `roots::square_root::root_bits` meets its contract. Assumes nothing.
use mathlib.Core.Path.{◌≡◌, ap, ◌∙◌}
use Prim.Native.Nat.{ℕ, ◌+◌, ◌*◌, ◌/◌, ◌^◌, ◌≤◌}
use native.Mathlib.Omega.{arith}
use borrow.Author.Rules.{rules}
use lib.Count.{count_leading_zeros}
use Rattle.roots.specs.Root.{whole_root, scaled}
use Rattle.nearest.proofs.Values.{Positive}
use Rattle.roots.proofs.Normal.{scaled_in, root_in, exponent_in_lem, Lifted, normal_lifted, subnormal_zeros, subnormal_lifted, lifted_scaled, lifted_bits}
use Rattle.roots.proofs.square_root.root_bits.Goals as goal
use Rattle.roots.proofs.square_root.root_bits.Goals.{then-p-lt4503599627370496, else-p-lt4503599627370496}

pub overflow_cast-s : goal.overflow_cast-s
overflow_cast-s c =
    let pos : Positive c.args.p = record { above = c.requires.0; below = c.requires.1 } in
    omega (arith, subnormal_zeros _ pos c.if-p-lt4503599627370496.true)

pub overflow_sub-s : goal.overflow_sub-s
overflow_sub-s c =
    let pos : Positive c.args.p = record { above = c.requires.0; below = c.requires.1 } in
    omega (arith, subnormal_zeros _ pos c.if-p-lt4503599627370496.true)

pub overflow_sub-e : goal.overflow_sub-e
overflow_sub-e c =
    let pos : Positive c.args.p = record { above = c.requires.0; below = c.requires.1 } in
    omega (arith, subnormal_zeros _ pos c.if-p-lt4503599627370496.true)

pub overflow_shl-m : goal.overflow_shl-m
overflow_shl-m c =
    let pos : Positive c.args.p = record { above = c.requires.0; below = c.requires.1 } in
    omega (arith, subnormal_zeros _ pos c.if-p-lt4503599627370496.true)

pub nearest_root-requires : goal.nearest_root-requires
nearest_root-requires c =
    let pos : Positive c.args.p = record { above = c.requires.0; below = c.requires.1 } in
    let lifted : Lifted c.args.p c.if-p-lt4503599627370496.e c.if-p-lt4503599627370496.m = elim c.if-p-lt4503599627370496.branch [
      | then-p-lt4503599627370496 w ↦ rw (w.e-is, w.m-is) (subnormal_lifted _ pos w.if-p-lt4503599627370496.true)
      | else-p-lt4503599627370496 w ↦ rw (w.e-is, w.m-is) (normal_lifted _ pos w.if-p-lt4503599627370496.false)
    ] in
    rw (lifted_scaled _ pos lifted) (scaled_in _ pos)

pub overflow_add-result-2 : goal.overflow_add-result-2
overflow_add-result-2 c =
    let pos : Positive c.args.p = record { above = c.requires.0; below = c.requires.1 } in
    let lifted : Lifted c.args.p c.if-p-lt4503599627370496.e c.if-p-lt4503599627370496.m = elim c.if-p-lt4503599627370496.branch [
      | then-p-lt4503599627370496 w ↦ rw (w.e-is, w.m-is) (subnormal_lifted _ pos w.if-p-lt4503599627370496.true)
      | else-p-lt4503599627370496 w ↦ rw (w.e-is, w.m-is) (normal_lifted _ pos w.if-p-lt4503599627370496.false)
    ] in
    let root_is : c.nearest_root.result ≡ (whole_root (scaled c.args.p * 2 ^ 54) + 1) / 2 = c.nearest_root.ensures ∙ ap (λ (k : ℕ). (whole_root (k * 2 ^ 54) + 1) / 2) (lifted_scaled _ pos lifted) in
    omega (arith, root_is, root_in _ pos, lifted.exponent_is, exponent_in_lem _ pos)

pub returns : goal.returns
returns c =
    let pos : Positive c.args.p = record { above = c.requires.0; below = c.requires.1 } in
    let lifted : Lifted c.args.p c.if-p-lt4503599627370496.e c.if-p-lt4503599627370496.m = elim c.if-p-lt4503599627370496.branch [
      | then-p-lt4503599627370496 w ↦ rw (w.e-is, w.m-is) (subnormal_lifted _ pos w.if-p-lt4503599627370496.true)
      | else-p-lt4503599627370496 w ↦ rw (w.e-is, w.m-is) (normal_lifted _ pos w.if-p-lt4503599627370496.false)
    ] in
    let root_is : c.nearest_root.result ≡ (whole_root (scaled c.args.p * 2 ^ 54) + 1) / 2 = c.nearest_root.ensures ∙ ap (λ (k : ℕ). (whole_root (k * 2 ^ 54) + 1) / 2) (lifted_scaled _ pos lifted) in
    lifted_bits _ pos lifted _ root_is
