-- `decimal_words::written::spelled_number` meets its contract. Assumes nothing.
use mathlib.Core.Path.{sym, ◌∙◌, subst}
use Rattle.std.specs.Prelude.{Option, IfSome}
use Prim.Native.Nat.{◌≤◌, ◌<◌, ◌^◌}
use Rattle.decimal_words.specs.declared.written.Mantissa.{Mantissa}
use Rattle.decimal_words.specs.declared.written.Exponent.{Exponent}
use Rattle.decimal_words.proofs.Parts.{mantissa_range, exponent-in-range, without_mantissa, without_exponent, with_exponent}
use Rattle.decimal_words.proofs.written.spelled_number.Goals as goal

pub returns-in_err-m : goal.returns-in_err-m
returns-in_err-m c = c.from_residual.ensures ∙ without_mantissa c.args.word.now c.sign_length.ensures.value c.before_mark.ensures.0 c.read_mantissa.ensures c.in_err-m.was

pub returns-in_err-x : goal.returns-in_err-x
returns-in_err-x c = c.from_residual-in_err-x.ensures ∙ without_exponent c.args.word.now c.sign_length.ensures.value c.before_mark.ensures.0 c.read_mantissa.ensures c.exponent_in.ensures c.in_ok-m.was c.in_err-x.was

pub joined-requires : goal.joined-requires
joined-requires c = (
  (subst (λ (m : Option Mantissa). IfSome {T = Mantissa} m (λ m. (m.digits < 10 ^ 17) × (m.places ≤ 17))) (sym c.read_mantissa.ensures ∙ c.in_ok-m.was) (mantissa_range _)).1,
  subst (λ (x : Option Exponent). IfSome {T = Exponent} x (λ x. x.size ≤ 20)) (sym c.exponent_in.ensures ∙ c.in_ok-x.was) (exponent-in-range _),
)

pub returns : goal.returns
returns c = with_exponent c.args.word.now c.sign_length.ensures.value c.before_mark.ensures.0 c.read_mantissa.ensures c.exponent_in.ensures c.in_ok-m.was c.in_ok-x.was c.is_negated.ensures c.joined.ensures
