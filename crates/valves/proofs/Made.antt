-- What the code puts together from its calls' results is what the definitions say, over plain variables. Assumes nothing.
use mathlib.Core.Path.{◌≡◌}
use mathlib.Core.Bool.{Bool}
use mathlib.Core.List.{[], ◌∷◌}
use types.Run.{OneOf}
use lib.Ieee.{Float}
use Rattle.codes.specs.Codes.{status_of}
use Rattle.codes.specs.declared.Status.{Status}
use Rattle.records.specs.declared.records.Link.{Link}
use Rattle.coefficient.specs.Link.{high_resistance}
use Rattle.coefficient.specs.declared.Coefficients.{Coefficients}
use Rattle.status.specs.Rules.{is_active}
use Rattle.status.proofs.Cases.{status_tag, of_status}
use Rattle.valves.specs.Valve.{valve_coefficients, minor_loss, regulator_of, open_valve, valve_of}

module _ (l : Link) (s : Status) where
  pub closed_valve : OneOf (0 ∷ 3 ∷ 4 ∷ []) (status_tag s) → (q x y u d : Float) (c : Coefficients) → c ≡ high_resistance q → c ≡ valve_of l s q x y u d
  unfolding valve_of status_of
  closed_valve h q x y u d c e = of_status (λ (t : Status). c ≡ valve_of l t q x y u d) (0 ∷ 3 ∷ 4 ∷ []) s h (e, (e, (e, tt)))

  pub open_valve_lem : OneOf (1 ∷ 5 ∷ []) (status_tag s) → (q x y u d k : Float) (c : Coefficients) → k ≡ minor_loss l.minor l.diameter → c ≡ valve_coefficients q k → c ≡ valve_of l s q x y u d
  unfolding valve_of status_of
  open_valve_lem h q x y u d k c a e =
      let f : c ≡ open_valve l q = rw (e, a) in
      of_status (λ (t : Status). c ≡ valve_of l t q x y u d) (1 ∷ 5 ∷ []) s h (f, (f, tt))

  pub other_valve : OneOf (2 ∷ 6 ∷ 7 ∷ []) (status_tag s) → (q x y u d : Float) (a : Bool) (c : Coefficients) → a ≡ is_active s → c ≡ regulator_of l.kind a l q x y u d → c ≡ valve_of l s q x y u d
  unfolding valve_of status_of is_active
  other_valve h q x y u d a c is e =
      let f : c ≡ regulator_of l.kind (is_active s) l q x y u d = rw is at e in
      of_status (λ (t : Status). c ≡ regulator_of l.kind (is_active t) l q x y u d → c ≡ valve_of l t q x y u d) (2 ∷ 6 ∷ 7 ∷ []) s h ((λ g. g), ((λ g. g), ((λ g. g), tt))) f
