-- `power::recipe::power_by` meets its contract. Assumes nothing.
use mathlib.Core.Path.{◌≡◌, sym, ◌∙◌}
use mathlib.Core.List.{List}
use Prim.Native.Nat.{ℕ, ◌%◌, ◌^◌}
use native.Mathlib.Omega.{arith}
use lib.Dec.{le→leb}
use lib.Ieee.{Float, binary64, is_nan, to_bits, of_bits, div, of_fields, odd, nan_bits, in_float}
use borrow.Author.Rules.{rules}
use Rattle.power.specs.Power.{power_by, power_bits, between}
use Rattle.patterns.proofs.Nans.{is_nan_lem, has_pattern}
use Rattle.power.proofs.Cases.{at_pattern, minus_zero_lem, below_zero, tiny, huge, middle}
use Rattle.power.proofs.recipe.power_by.Goals as goal

pub returns-then-x : goal.returns-then-x
unfolding power_by is_nan
returns-then-x c = rw (is_nan_lem c.args.x c.if-x.true)

pub float_to_bits-p : goal.float_to_bits-p
float_to_bits-p c = has_pattern _ c.if-x.false

pub returns-then-p : goal.returns-then-p
returns-then-p c =
    let t : List ℕ = c.args.table.now in
    let x : Float = c.args.x in
    let p : ℕ = to_bits binary64 x in
    let to : (r : Float) → power_bits t p ≡ r → r ≡ power_by t x = λ r e. sym (at_pattern t x c.if-x.false ∙ e) in
    to _ (minus_zero_lem _ _ (omega arith))

pub returns-then-p-gt9223372036854775808 : goal.returns-then-p-gt9223372036854775808
unfolding div of_bits of_fields odd
returns-then-p-gt9223372036854775808 c =
    let t : List ℕ = c.args.table.now in
    let x : Float = c.args.x in
    let p : ℕ = to_bits binary64 x in
    let to : (r : Float) → power_bits t p ≡ r → r ≡ power_by t x = λ r e. sym (at_pattern t x c.if-x.false ∙ e) in
    to _ (below_zero _ _ (omega arith))

pub returns-then-p-lt4318952042648305664 : goal.returns-then-p-lt4318952042648305664
returns-then-p-lt4318952042648305664 c =
    let t : List ℕ = c.args.table.now in
    let x : Float = c.args.x in
    let p : ℕ = to_bits binary64 x in
    let to : (r : Float) → power_bits t p ≡ r → r ≡ power_by t x = λ r e. sym (at_pattern t x c.if-x.false ∙ e) in
    to _ (tiny _ _ (omega arith))

pub float_from_bits-result : goal.float_from_bits-result
unfolding nan_bits
float_from_bits-result c = tt

pub returns-then-p-ge4895412794951729152 : goal.returns-then-p-ge4895412794951729152
unfolding of_bits of_fields
returns-then-p-ge4895412794951729152 c =
    let t : List ℕ = c.args.table.now in
    let x : Float = c.args.x in
    let p : ℕ = to_bits binary64 x in
    let to : (r : Float) → power_bits t p ≡ r → r ≡ power_by t x = λ r e. sym (at_pattern t x c.if-x.false ∙ e) in
    to _ (huge _ _ (omega arith) (omega arith))

pub int_to_float-t : goal.int_to_float-t
unfolding in_float
int_to_float-t c =
    let x : Float = c.args.x in
    let p : ℕ = to_bits binary64 x in
    le→leb (p % 2 ^ 42) (2 ^ 53) (omega arith)

pub returns : goal.returns
unfolding between
returns c =
    let t : List ℕ = c.args.table.now in
    let x : Float = c.args.x in
    let p : ℕ = to_bits binary64 x in
    let to : (r : Float) → power_bits t p ≡ r → r ≡ power_by t x = λ r e. sym (at_pattern t x c.if-x.false ∙ e) in
    to _ (middle _ _ (omega arith) (omega arith) ∙ simp (c.entry_a-low.ensures, c.entry_a-high.ensures, c.entry_b.ensures, c.place.ensures))
