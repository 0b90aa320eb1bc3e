-- `fields::fields::all_within` meets its contract: the floats passed so far are within. Assumes nothing.
use mathlib.Core.Path.{◌≡◌, refl, ap, ◌∙◌}
use Prim.Native.Nat.{ℕ, ◌-◌, ◌≤◌}
use native.Mathlib.Omega.{arith}
use borrow.Author.Rules.{rules}
use Rattle.fields.specs.Fields.{within, all_within}
use Rattle.fields.proofs.Made.{within_more}
use Rattle.fields.proofs.fields.all_within.Goals as goal

pub loop-i-init : goal.loop-i-init
unfolding all_within
loop-i-init c = (refl, omega arith)

pub loop-i-preserved : goal.loop-i-preserved
loop-i-preserved c = (within_more c.args.b c.loop-i.i c.args.sheet.now c.args.at _ _ c.loop-i.invariant.0 (c.is_within-good.ensures ∙ ap (within c.args.b) c.from_bytes.ensures), omega arith)

pub returns : goal.returns
returns c =
    let e : c.loop-i.i ≡ c.args.count = omega arith in
    c.loop-i.invariant.0 ∙ ap (λ (k : ℕ). all_within c.args.b k c.args.sheet.now c.args.at) e
