-- A valve that is not an Active PRV or PSV conducts. Assumes nothing.
use mathlib.Core.Path.{◌≡◌, refl, sym, ◌∙◌, subst}
use mathlib.Core.Bool.{Bool, true, false, true≢false}
use Prim.Native.Nat.{ℕ, ◌*◌, ◌^◌}
use native.Mathlib.Nat.{le_trans, le_of_eq, mul_right_comm, mul-le-mul_right, le_of_mul-le-mul_right}
use lib.Dec.{T, lit≤}
use lib.Ieee.{Float, nan, inf, fin, binary64, up, down, mul, lt, le, is_nan}
use lib.Ieee.Fits.{down_pos}
use borrow.Author.Tests.{ltb-false}
use Rattle.float.specs.Sign.{abs_of}
use Rattle.float.specs.Order.{smaller_of, clamp_of, wild_of}
use Rattle.float.specs.WholePower.{whole_power}
use Rattle.codes.specs.declared.LinkKind.{LinkKind}
use Rattle.codes.specs.declared.LinkKind.TheVariants.{Pipe, Prv, Psv, Pbv, Fcv, Tcv, Pcv}
use Rattle.codes.specs.declared.Status.{Status}
use Rattle.codes.specs.declared.Status.TheVariants.{Closed, Open, Active, TempClosed, FixedClosed, FixedOpen, XPressure, Xhead}
use Rattle.records.specs.declared.records.Link.{Link}
use Rattle.constants.specs.Arithmetic.{times, over}
use Rattle.constants.specs.Constants.{zero, one, two, hundred, big_value, small_value, rq_tol, loss_factor}
use Rattle.valves.specs.Valve.{valve_coefficients, minor_loss, pcv_minor_loss, fcv_of, regulator_of, open_valve, valve_of}
use Rattle.conductances.specs.Conductances.{Sound, Conducts, regulates}
use Rattle.conductances.proofs.Grid.{clear, Size, Least}
use Rattle.conductances.proofs.Sizes.{wider, mul_size, mul_least, div_size}
use Rattle.conductances.proofs.Tests.{clear_of, firm, over_above}
use Rattle.conductances.proofs.Numbers.{two_size, big_size, small_size, factor_size, within_size, diameter_least, tame_size}
use Rattle.conductances.proofs.Simple.{either, simple, big_above, over_big, over_small, over_tol}

-- ---- by the loss factor km: it is at most 2 ^ 80, wherever it is above zero
abbrev Little : Float → Type 0
Little km = lt zero km ≡ true → Size 80 km

module _ (q : Float) (tame : wild_of q ≡ false) where
  slope_size : (km : Float) → Size 80 km → Size 200 (times (times two km) (abs_of q))
  slope_size km h = wider (times (times two km) (abs_of q)) 145 200 (lit≤ tt) (mul_size (times two km) (abs_of q) 81 64 (lit≤ tt) (mul_size two km 1 80 (lit≤ tt) two_size h) (tame_size q tame))

  pub by_factor : (km : Float) → Little km → Conducts (valve_coefficients q km)
  unfolding valve_coefficients
  by_factor km l =
      either Conducts (lt zero km) _ _
      (λ p. either Conducts (lt (times (times two km) (abs_of q)) rq_tol) _ _ (λ t. simple (over one rq_tol) _ over_tol)
      (λ t. simple (over one (times (times two km) (abs_of q))) _ (over_above (times (times two km) (abs_of q)) (firm (times (times two km) (abs_of q)) 200 (slope_size km (l p)) t))))
      (λ p. simple (over one small_value) q over_small)

  pub by_fcv : (setting : Float) → Conducts (fcv_of q setting)
  unfolding fcv_of
  by_fcv setting = either Conducts (lt q setting) _ _ (λ t. by_factor small_value (λ p. wider small_value 0 80 (lit≤ tt) small_size)) (λ t. simple (over one big_value) _ over_big)

-- ---- 0.02517 * k / d ^ 4
fourth : (d : Float) → whole_power d 4 ≡ mul binary64 (mul binary64 d d) (mul binary64 d d)
unfolding whole_power
fourth d = refl

fourth_least : (d : Float) → Size 40 d → Least 10 d → Least 40 (whole_power d 4)
fourth_least d a b =
    subst (λ (x : Float). Least 40 x) (sym (fourth d))
    (mul_least (mul binary64 d d) (mul binary64 d d) 80 80 20 20 (lit≤ tt) (lit≤ tt) square square inverse inverse)
  where
    square : Size 80 (mul binary64 d d)
    square = mul_size d d 40 40 (lit≤ tt) a a

    inverse : Least 20 (mul binary64 d d)
    inverse = mul_least d d 40 40 10 10 (lit≤ tt) (lit≤ tt) a a b b

pub minor_size : (k d : Float) → Size 40 k → Size 40 d → Least 10 d → Size 80 (minor_loss k d)
unfolding minor_loss
minor_size k d h a b = div_size (times loss_factor k) (whole_power d 4) 40 40 (lit≤ tt) (mul_size loss_factor k 0 40 (lit≤ tt) factor_size h) (fourth_least d a b)

-- ---- the smaller of anything and BIG_VALUE
not_above : (hi x : Float) (h : ℕ) → T (clear hi) → Size h hi → T (clear x) → lt hi x ≡ false → Size h x
unfolding lt
not_above nan x h c a p t = absurd a
not_above (inf s) x h c a p t = absurd a
not_above (fin true n d) x h c a p t = absurd c
not_above (fin false n d) nan h c a p t = absurd p
not_above (fin false n d) (inf true) h c a p t = absurd p
not_above (fin false n d) (inf false) h c a p t = absurd (true≢false t)
not_above (fin false n d) (fin true m e) h c a p t = absurd p
not_above (fin false n d) (fin false m e) h c a p t =
    le_of_mul-le-mul_right
    (le_trans (ltb-false (n * up d * down e) (m * up e * down d) t) (le_trans (mul-le-mul_right (down e) a) (le_of_eq (mul_right_comm (2 ^ h) (down d) (down e)))))
    (down_pos d)

big_little : Little big_value
big_little p = wider big_value 27 80 (lit≤ tt) big_size

smaller_little : (x : Float) → Little (smaller_of x big_value)
unfolding smaller_of
smaller_little x =
    either Little (is_nan x) big_value _ (λ n. big_little)
    (λ n. either Little (lt big_value x) big_value x (λ t. big_little) (λ t p. wider x 27 80 (lit≤ tt) (not_above big_value x 27 (clear_of big_value big_above) big_size (clear_of x p) t)))

pcv_little : (setting minor d : Float) → Size 40 minor → Size 40 d → Least 10 d → Little (pcv_minor_loss setting minor d)
unfolding pcv_minor_loss
pcv_little setting minor d h a b =
    either Little (le setting zero) big_value _ (λ t. big_little)
    (λ t. either Little (le hundred setting) (minor_loss minor d) _ (λ u p. minor_size minor d h a b)
    (λ u. smaller_little (over (minor_loss minor d) (whole_power (clamp_of (over setting hundred) small_value one) 2))))

-- ---- every valve
module _ (k : Link) (s : Sound k) (valve : k.kind ≡ Pipe → ⊥) (q excessUp excessDown up down : Float) (tame : wild_of q ≡ false) where
  -- from 2 ^ -10 to 2 ^ 40
  wide : Size 40 k.diameter
  wide = within_size k.diameter s.diameter

  narrow : Least 10 k.diameter
  narrow = diameter_least k.diameter 40 wide (s.diameter_least valve)

  open_conducts : Conducts (open_valve k q)
  open_conducts = by_factor q tame (minor_loss k.minor k.diameter) (λ p. minor_size k.minor k.diameter (within_size k.minor s.minor) wide narrow)

  regulator : (kind : LinkKind) (active : Bool) → (kind ≡ Prv → active ≡ false) → (kind ≡ Psv → active ≡ false) → Conducts (regulator_of kind active k q excessUp excessDown up down)
  unfolding regulator_of
  regulator Tcv active r p = by_factor q tame (minor_loss k.setting k.diameter) (λ t. minor_size k.setting k.diameter (within_size k.setting s.setting) wide narrow)
  regulator Pbv active r p = simple big_value _ big_above
  regulator Pcv active r p = by_factor q tame (pcv_minor_loss k.setting k.minor k.diameter) (pcv_little k.setting k.minor k.diameter (within_size k.minor s.minor) wide narrow)
  regulator Fcv active r p = by_fcv q tame k.setting
  regulator Prv active r p = either Conducts active _ _ (λ t. absurd (true≢false (sym t ∙ r refl))) (λ t. simple (over one small_value) q over_small)
  regulator Psv active r p = either Conducts active _ _ (λ t. absurd (true≢false (sym t ∙ p refl))) (λ t. simple (over one small_value) q over_small)
  regulator Pipe active r p = simple (over one small_value) q over_small

  not_prv : (kind : LinkKind) → regulates kind Active ≡ false → kind ≡ Prv → true ≡ false
  unfolding regulates
  not_prv kind h e = subst (λ (c : LinkKind). regulates c Active ≡ false) e h

  not_psv : (kind : LinkKind) → regulates kind Active ≡ false → kind ≡ Psv → true ≡ false
  unfolding regulates
  not_psv kind h e = subst (λ (c : LinkKind). regulates c Active ≡ false) e h

  pub valve_conducts_lem : (status : Status) → regulates k.kind status ≡ false → Conducts (valve_of k status q excessUp excessDown up down)
  unfolding valve_of
  valve_conducts_lem Closed r = simple (over one big_value) q over_big
  valve_conducts_lem TempClosed r = simple (over one big_value) q over_big
  valve_conducts_lem FixedClosed r = simple (over one big_value) q over_big
  valve_conducts_lem Open r = open_conducts
  valve_conducts_lem FixedOpen r = open_conducts
  valve_conducts_lem Active r = regulator k.kind true (not_prv k.kind r) (not_psv k.kind r)
  valve_conducts_lem XPressure r = regulator k.kind false (λ e. refl) (λ e. refl)
  valve_conducts_lem Xhead r = regulator k.kind false (λ e. refl) (λ e. refl)
