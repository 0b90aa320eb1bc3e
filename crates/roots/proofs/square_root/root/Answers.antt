-- `roots::square_root::root` meets its contract. Assumes nothing.
use mathlib.Core.Path.{sym, ap, ◌∙◌}
use Prim.Native.Nat.{ℕ}
use native.Mathlib.Omega.{arith}
use lib.Ieee.{Float, binary64, to_bits, of_bits, div, of_fields, odd}
use borrow.Author.Rules.{rules}
use Rattle.roots.proofs.Cases.{gives_nan, gives_zero, gives_negative, gives_infinity, gives_root, root_field, nonzero}
use Rattle.patterns.proofs.Nans.{is_nan_lem, has_pattern, no_nan}
use Rattle.nearest.proofs.Values.{Positive}
use Rattle.roots.proofs.square_root.root.Goals as goal

pub returns-then-x : goal.returns-then-x
returns-then-x c = is_nan_lem _ c.if-x.true ∙ sym (gives_nan _ (is_nan_lem _ c.if-x.true))

pub float_to_bits-p : goal.float_to_bits-p
float_to_bits-p c = has_pattern _ c.if-x.false

pub returns-then-p-eq0 : goal.returns-then-p-eq0
returns-then-p-eq0 c =
    let x : Float = c.args.x in
    sym (gives_zero x c.if-x.false c.if-p-eq0.true)

pub returns-then-p-gt9223372036854775808 : goal.returns-then-p-gt9223372036854775808
unfolding div of_bits of_fields odd
returns-then-p-gt9223372036854775808 c =
    let x : Float = c.args.x in
    sym (gives_negative x c.if-x.false c.if-p-eq0.false c.if-p-gt9223372036854775808.true)

pub returns-then-p-ge9218868437227405312 : goal.returns-then-p-ge9218868437227405312
returns-then-p-ge9218868437227405312 c =
    let x : Float = c.args.x in
    sym (gives_infinity x c.if-x.false c.if-p-eq0.false c.if-p-gt9223372036854775808.false c.if-p-ge9218868437227405312.true)

pub float_from_bits-result : goal.float_from_bits-result
float_from_bits-result c =
    let x : Float = c.args.x in
    let p : ℕ = to_bits binary64 x in
    let positive : Positive p = record { above = omega (arith, nonzero _ c.if-p-eq0.false); below = c.if-p-ge9218868437227405312.false } in
    no_nan _ (omega (arith, c.root_bits.ensures, root_field _ positive))

pub returns : goal.returns
returns c =
    let x : Float = c.args.x in
    ap (of_bits binary64) c.root_bits.ensures ∙ sym (gives_root x c.if-x.false c.if-p-eq0.false c.if-p-gt9223372036854775808.false c.if-p-ge9218868437227405312.false)
