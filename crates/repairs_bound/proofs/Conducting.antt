-- A link of a sheet that was read is sound, and one that conducts lifts the diagonal entries of its ends. Assumes nothing.
use Prim.Native.Nat.{ℕ, zero, suc, ◌+◌, ◌*◌, ◌<◌}
use mathlib.Core.Path.{◌≡◌, refl, sym, ◌∙◌, subst}
use mathlib.Core.Bool.{Bool, true, false, cond, ◌&&◌, ◌||◌}
use mathlib.Core.List.{List}
use native.Mathlib.Omega.{arith}
use borrow.Author.Tests.{eqb-true}
use lib.Dec.{T, eqb}
use lib.ListN.{get_or}
use lib.Ieee.{Float, nan, binary64, fits, le, lt}
use lib.Ieee.Bits.{of_bits-fits}
use lib.Ieee.Fits.{div-fits}
use Rattle.patterns.specs.Bytes.{from_bytes}
use Rattle.float.specs.Sign.{abs_of}
use Rattle.float.specs.Order.{wild_of}
use Rattle.layout.specs.Places.{link_place}
use Rattle.layout.specs.declared.places.Layout.{Layout}
use Rattle.codes.specs.Codes.{link_kind_of, status_of}
use Rattle.codes.specs.declared.LinkKind.{LinkKind}
use Rattle.codes.specs.declared.LinkKind.TheVariants.{Pipe, Prv, Psv, Pbv, Fcv, Tcv, Pcv}
use Rattle.codes.specs.declared.Status.{Status}
use Rattle.codes.specs.declared.Status.TheVariants.{Closed, Open, Active, TempClosed, FixedClosed, FixedOpen, XPressure, Xhead}
use Rattle.records.specs.Records.{byte_at, link_at}
use Rattle.records.specs.declared.records.Link.{Link}
use Rattle.links.specs.Links.{link_of, regulator}
use Rattle.fields.specs.Fields.{base_bounds, null, within, all_within, link_codes, link_numbers, link_good}
use Rattle.sheet.specs.Read.{read_of}
use Rattle.sheet.proofs.Laws.{and_right}
use Rattle.accepted.proofs.Accepts.{accepts, each_within, link_floats}
use Rattle.constants.specs.Arithmetic.{times, over}
use Rattle.constants.specs.Constants as constant
use Rattle.coefficient.specs.Link.{simple_of, low_resistance}
use Rattle.coefficient.specs.declared.Coefficients.{Coefficients}
use Rattle.pipes.specs.Pipe.{with_barrier, signed_of, carrying, pipe_of}
use Rattle.pipes.specs.declared.Loss.{Loss}
use Rattle.valves.specs.Valve.{valve_coefficients, fcv_of, prv_of, psv_of, regulator_of, valve_of}
use Rattle.model.specs.Rules.{by_kind, coefficients_of}
use Rattle.link_rows.specs.LinkRows.{coefficients_at}
use Rattle.repair.specs.Repair.{touches, regulates_at}
use Rattle.zeros.proofs.Zeros.{clash}
use Rattle.conductances.specs.Conductances.{regulates, Sound}
use Rattle.conductances.proofs.Theorem.{link_conducts}
use Rattle.repairs_bound.proofs.Floats.{test_above}
use Rattle.repairs_bound.proofs.Diagonal.{Lifting}
use Rattle.std.specs.Prelude.{Ok}

-- ---- a conductance is an f64

Held : Coefficients → Type 0
Held c = T (fits binary64 c.conductance)

simple_held : (a b y : Float) → Held (simple_of (over a b) y)
unfolding Held simple_of
simple_held a b y = div-fits binary64 a b

big_held : (y : Float) → Held (simple_of constant.big_value y)
unfolding Held simple_of
big_held y = of_bits-fits binary64 0x4197_d784_0000_0000

either_held : (t : Bool) (c d : Coefficients) → Held c → Held d → Held (cond t c d)
either_held true c d p q = p
either_held false c d p q = q

signed_held : (check : Bool) (q : Float) (m : Loss) → Held (signed_of check q m)
unfolding signed_of with_barrier
signed_held check q m = either_held check _ _ (simple_held _ _ _) (simple_held _ _ _)

carrying_held : (check : Bool) (ml r q : Float) → Held (carrying check ml r q)
unfolding carrying
carrying_held check ml r q = signed_held check q _

pipe_held : (check : Bool) (ml r : Float) (status : Status) (q : Float) → Held (pipe_of check ml r status q)
unfolding pipe_of
pipe_held check ml r Closed q = simple_held constant.one constant.big_value q
pipe_held check ml r TempClosed q = simple_held constant.one constant.big_value q
pipe_held check ml r Open q = carrying_held check ml r q
pipe_held check ml r Active q = carrying_held check ml r q
pipe_held check ml r FixedClosed q = carrying_held check ml r q
pipe_held check ml r FixedOpen q = carrying_held check ml r q
pipe_held check ml r XPressure q = carrying_held check ml r q
pipe_held check ml r Xhead q = carrying_held check ml r q

valve_coefficients_held : (q km : Float) → Held (valve_coefficients q km)
unfolding valve_coefficients
valve_coefficients_held q km =
    let hgrad = times (times constant.two km) (abs_of q) in
    either_held (lt constant.zero km) _ (low_resistance q)
    (either_held (lt hgrad constant.rq_tol) (simple_of (over constant.one constant.rq_tol) (over (times q constant.rq_tol) constant.rq_tol)) (simple_of (over constant.one hgrad) (over (over (times q hgrad) constant.two) hgrad))
    (simple_held constant.one constant.rq_tol _) (simple_held constant.one hgrad _)) (simple_held constant.one constant.small_value q)

fcv_held : (q setting : Float) → Held (fcv_of q setting)
unfolding fcv_of
fcv_held q setting = either_held (lt q setting) _ _ (valve_coefficients_held q constant.small_value) (simple_held _ _ _)

prv_held : (target excess : Float) → Held (prv_of target excess)
unfolding Held prv_of
prv_held target excess = of_bits-fits binary64 0

psv_held : (target excess : Float) → Held (psv_of target excess)
unfolding Held psv_of
psv_held target excess = of_bits-fits binary64 0

regulator_held : (kind : LinkKind) (active : Bool) (k : Link) (q excessUp excessDown up down : Float) → Held (regulator_of kind active k q excessUp excessDown up down)
unfolding regulator_of
regulator_held Tcv active k q excessUp excessDown up down = valve_coefficients_held q _
regulator_held Pbv active k q excessUp excessDown up down = big_held (times k.setting constant.big_value)
regulator_held Pcv active k q excessUp excessDown up down = valve_coefficients_held q _
regulator_held Fcv active k q excessUp excessDown up down = fcv_held q k.setting
regulator_held Prv active k q excessUp excessDown up down = either_held active _ _ (prv_held _ _) (simple_held _ _ _)
regulator_held Psv active k q excessUp excessDown up down = either_held active _ _ (psv_held _ _) (simple_held _ _ _)
regulator_held Pipe active k q excessUp excessDown up down = simple_held _ _ _

valve_held : (k : Link) (status : Status) (q excessUp excessDown up down : Float) → Held (valve_of k status q excessUp excessDown up down)
unfolding valve_of
valve_held k Closed q excessUp excessDown up down = simple_held constant.one constant.big_value q
valve_held k TempClosed q excessUp excessDown up down = simple_held constant.one constant.big_value q
valve_held k FixedClosed q excessUp excessDown up down = simple_held constant.one constant.big_value q
valve_held k Open q excessUp excessDown up down = valve_coefficients_held q _
valve_held k FixedOpen q excessUp excessDown up down = valve_coefficients_held q _
valve_held k Active q excessUp excessDown up down = regulator_held k.kind true k q excessUp excessDown up down
valve_held k XPressure q excessUp excessDown up down = regulator_held k.kind false k q excessUp excessDown up down
valve_held k Xhead q excessUp excessDown up down = regulator_held k.kind false k q excessUp excessDown up down

kind_held : (kind : LinkKind) (p v : Coefficients) → Held p → Held v → Held (by_kind kind p v)
kind_held Pipe p v a b = a
kind_held Prv p v a b = b
kind_held Psv p v a b = b
kind_held Pbv p v a b = b
kind_held Fcv p v a b = b
kind_held Tcv p v a b = b
kind_held Pcv p v a b = b

link_held : (k : Link) (status : Status) (q excessUp excessDown up down : Float) → Held (coefficients_of k status q excessUp excessDown up down)
unfolding coefficients_of
link_held k status q excessUp excessDown up down = kind_held k.kind _ _ (pipe_held k.check k.minor k.resistance status q) (valve_held k status q excessUp excessDown up down)

-- ---- the numbers of a link that was read

pub bytes_fit : (s : List ℕ) (at : ℕ) → T (fits binary64 (from_bytes s at))
unfolding from_bytes
bytes_fit s at = of_bits-fits binary64 _

pipe_code_lem : (code : ℕ) → code ≡ 0 → link_kind_of code ≡ Pipe
unfolding link_kind_of
pipe_code_lem code e = rw e

module _ (s : List ℕ) (l : Layout) (read : read_of s ≡ Ok l) (j : ℕ) (h : j < l.links) where
  good : link_good base_bounds l.nodes s (link_place l j) ≡ true
  unfolding read_of
  good = (accepts base_bounds s l read).each_link j h

  float_within : (i k : ℕ) → i < 5 → link_place l j + 9 + 8 * i ≡ link_place l j + k → within base_bounds (from_bytes s (link_place l j + k)) ≡ true
  float_within i k b e =
      subst (λ (p : ℕ). within base_bounds (from_bytes s p) ≡ true) e (each_within base_bounds 5 s (link_place l j + 9) (link_floats base_bounds l.nodes s (link_place l j) good) i b)

  wide : (eqb (byte_at s (link_place l j + 2)) 0 || le base_bounds.diameter (from_bytes s (link_place l j + 25))) ≡ true
  unfolding link_good link_numbers
  wide =
      let p = link_place l j in
      let a = all_within base_bounds 5 s (p + 9) in
      let c = le null (from_bytes s (p + 17)) in
      let d = le null (from_bytes s (p + 33)) in
      let e = eqb (byte_at s (p + 2)) 0 || le base_bounds.diameter (from_bytes s (p + 25)) in
      and_right (a && c && d) e (and_right (link_codes l.nodes s p) (a && c && d && e) good)

  wide_enough : (b : Bool) → eqb (byte_at s (link_place l j + 2)) 0 ≡ b → (b || le base_bounds.diameter (from_bytes s (link_place l j + 25))) ≡ true → (link_kind_of (byte_at s (link_place l j + 2)) ≡ Pipe → ⊥)
      → le base_bounds.diameter (from_bytes s (link_place l j + 25)) ≡ true
  wide_enough true e f n = absurd (n (pipe_code_lem (byte_at s (link_place l j + 2)) (eqb-true (byte_at s (link_place l j + 2)) 0 e)))
  wide_enough false e f n = f

  pub sound_link : Sound (link_of s l j)
  unfolding link_of link_at
  sound_link =
      record {
        setting = float_within 0 9 (omega arith) (omega arith);
        minor = float_within 1 17 (omega arith) (omega arith);
        diameter = float_within 2 25 (omega arith) (omega arith);
        resistance = float_within 3 33 (omega arith) (omega arith);
        diameter_least = λ n. wide_enough (eqb (byte_at s (link_place l j + 2)) 0) refl wide n;
      }

  -- the flow that it starts with
  pub flow_within : within base_bounds (link_of s l j).flow ≡ true
  unfolding link_of link_at
  flow_within = float_within 4 41 (omega arith) (omega arith)

-- ---- no Active regulator

prv_active : (status : Status) → regulates Prv status ≡ true → status ≡ Active
unfolding regulates
prv_active Closed e = clash e
prv_active Open e = clash e
prv_active Active e = refl
prv_active TempClosed e = clash e
prv_active FixedClosed e = clash e
prv_active FixedOpen e = clash e
prv_active XPressure e = clash e
prv_active Xhead e = clash e

psv_active : (status : Status) → regulates Psv status ≡ true → status ≡ Active
unfolding regulates
psv_active Closed e = clash e
psv_active Open e = clash e
psv_active Active e = refl
psv_active TempClosed e = clash e
psv_active FixedClosed e = clash e
psv_active FixedOpen e = clash e
psv_active XPressure e = clash e
psv_active Xhead e = clash e

other_none : (status : Status) → (regulates Pipe status ≡ false) × (regulates Pbv status ≡ false) × (regulates Fcv status ≡ false) × (regulates Tcv status ≡ false) × (regulates Pcv status ≡ false)
unfolding regulates
other_none Closed = (refl, refl, refl, refl, refl)
other_none Open = (refl, refl, refl, refl, refl)
other_none Active = (refl, refl, refl, refl, refl)
other_none TempClosed = (refl, refl, refl, refl, refl)
other_none FixedClosed = (refl, refl, refl, refl, refl)
other_none FixedOpen = (refl, refl, refl, refl, refl)
other_none XPressure = (refl, refl, refl, refl, refl)
other_none Xhead = (refl, refl, refl, refl, refl)

active_code : (code : ℕ) → status_of code ≡ Active → eqb code 2 ≡ true
unfolding status_of
active_code zero e = absurd (let z : ◌≡◌ {A = ℕ} 0 1 = cc in omega arith)
active_code (suc zero) e = absurd (let z : ◌≡◌ {A = ℕ} 0 1 = cc in omega arith)
active_code (suc (suc zero)) e = refl
active_code (suc (suc (suc zero))) e = absurd (let z : ◌≡◌ {A = ℕ} 0 1 = cc in omega arith)
active_code (suc (suc (suc (suc zero)))) e = absurd (let z : ◌≡◌ {A = ℕ} 0 1 = cc in omega arith)
active_code (suc (suc (suc (suc (suc zero))))) e = absurd (let z : ◌≡◌ {A = ℕ} 0 1 = cc in omega arith)
active_code (suc (suc (suc (suc (suc (suc zero)))))) e = absurd (let z : ◌≡◌ {A = ℕ} 0 1 = cc in omega arith)
active_code (suc (suc (suc (suc (suc (suc (suc code))))))) e = absurd (let z : ◌≡◌ {A = ℕ} 0 1 = cc in omega arith)

regulating : (kind : ℕ) (code : ℕ) → regulates (link_kind_of kind) (status_of code) ≡ true → ((eqb kind 1 || eqb kind 2) && eqb code 2) ≡ true
unfolding link_kind_of
regulating zero code e = clash (sym (other_none (status_of code)).0 ∙ e)
regulating (suc zero) code e = active_code code (prv_active (status_of code) e)
regulating (suc (suc zero)) code e = active_code code (psv_active (status_of code) e)
regulating (suc (suc (suc zero))) code e = clash (sym (other_none (status_of code)).1 ∙ e)
regulating (suc (suc (suc (suc zero)))) code e = clash (sym (other_none (status_of code)).2 ∙ e)
regulating (suc (suc (suc (suc (suc zero))))) code e = clash (sym (other_none (status_of code)).3 ∙ e)
regulating (suc (suc (suc (suc (suc (suc kind)))))) code e = clash (sym (other_none (status_of code)).4 ∙ e)

not_regulating : (s : List ℕ) (l : Layout) (codes : List ℕ) (i j : ℕ) → touches s l i j ≡ true → regulates_at s l codes i j ≡ false → regulates (link_of s l j).kind (status_of (get_or codes j 0)) ≡ false
unfolding regulates_at regulator link_of link_at
not_regulating s l codes i j t n = go (regulates (link_kind_of (byte_at s (link_place l j + 2))) (status_of (get_or codes j 0))) refl
  where
    kind : ℕ
    kind = byte_at s (link_place l j + 2)

    go : (b : Bool) → regulates (link_kind_of kind) (status_of (get_or codes j 0)) ≡ b → b ≡ false
    go false e = refl
    go true e = clash (sym (rw t at n) ∙ regulating kind (get_or codes j 0) e)

-- ---- a link at a node without an Active regulator

module _ (s : List ℕ) (l : Layout) (read : read_of s ≡ Ok l) where
  pub link_lifts : (flows : List Float) (codes : List ℕ) (excess : List Float) (i j : ℕ) → j < l.links → T (fits binary64 (get_or flows j nan)) → wild_of (get_or flows j nan) ≡ false → touches s l i j ≡ true → regulates_at s l codes i j ≡ false
      → Lifting (coefficients_at s l flows codes excess (link_of s l j) j)
  unfolding coefficients_at Held
  link_lifts flows codes excess i j h fit tame t n =
      let k = link_of s l j in
      let c = link_conducts k (status_of (get_or codes j 0)) (get_or flows j nan) _ _ _ _ (sound_link s l read j h) fit tame (not_regulating s l codes i j t n) in
      record {
        conductance = record { held = link_held k (status_of (get_or codes j 0)) (get_or flows j nan) _ _ _ _; risen = test_above _ c.above };
        no_start = c.no_start;
        no_end = c.no_end;
      }
