-- The first of several whose test holds, one test after the other. Assumes nothing.
use mathlib.Core.Path.{◌≡◌, refl, sym, ap, ◌∙◌}
use mathlib.Core.Bool.{Bool, true, false, cond}
use mathlib.Core.List.{List, [], ◌∷◌}
use Rattle.line_fields.specs.Fields.{first_of}

-- v is the first of those that are left
pub record Left {A : Type 0} (v : A) (es : List (Bool × A)) (other : A) : Type 0 where
  pub is : v ≡ first_of es other

pub all_left : {A : Type 0} (es : List (Bool × A)) (other : A) → Left (first_of es other) es other
all_left es other = record { is = refl }

module _ {A : Type 0} {v x other : A} {es : List (Bool × A)} {b d : Bool} (left : Left v ((d, x) ∷ es) other) (same : b ≡ d) where
  -- its test does not hold
  pub miss : b ≡ false → Left v es other
  unfolding first_of
  miss e = record { is = left.is ∙ ap (λ (t : Bool). cond t x (first_of es other)) (sym same ∙ e) }

  -- its test holds
  pub hit : b ≡ true → x ≡ v
  unfolding first_of
  hit e = sym (left.is ∙ ap (λ (t : Bool). cond t x (first_of es other)) (sym same ∙ e))

pub none_left : {A : Type 0} {v other : A} → Left v [] other → other ≡ v
unfolding first_of
none_left left = sym left.is
