-- Every link of an accepted sheet but an Active PRV or PSV has a conductance above zero and holds no head, whatever flow below 2 ^ 64 it carries. Statements only.
use Rattle.std.specs.Prelude.{◌≡◌, Bool, true, false, T, Float, None}
use Rattle.std.specs.Float.{binary64}
use Rattle.std.specs.Float.Ieee.{fits, lt, le}
use Rattle.float.specs.Order.{wild_of}
use Rattle.codes.specs.declared.LinkKind.{LinkKind}
use Rattle.codes.specs.declared.LinkKind.TheVariants.{Pipe, Prv, Psv, Pbv, Fcv, Tcv, Pcv}
use Rattle.codes.specs.declared.Status.{Status}
use Rattle.codes.specs.declared.Status.TheVariants.{Closed, Open, Active, TempClosed, FixedClosed, FixedOpen, XPressure, Xhead}
use Rattle.records.specs.declared.records.Link.{Link}
use Rattle.fields.specs.Fields.{base_bounds, within}
use Rattle.constants.specs.Constants.{zero}
use Rattle.model.specs.Rules.{coefficients_of}
use Rattle.coefficient.specs.declared.Coefficients.{Coefficients}

-- a PRV or PSV that is Active
unfoldable pub regulates : LinkKind → Status → Bool
regulates Pipe status = false
regulates Prv Closed = false
regulates Prv Open = false
regulates Prv Active = true
regulates Prv TempClosed = false
regulates Prv FixedClosed = false
regulates Prv FixedOpen = false
regulates Prv XPressure = false
regulates Prv Xhead = false
regulates Psv Closed = false
regulates Psv Open = false
regulates Psv Active = true
regulates Psv TempClosed = false
regulates Psv FixedClosed = false
regulates Psv FixedOpen = false
regulates Psv XPressure = false
regulates Psv Xhead = false
regulates Pbv status = false
regulates Fcv status = false
regulates Tcv status = false
regulates Pcv status = false

-- the numbers of a link that was read, as far as its coefficients use them: each within its bounds, a valve's diameter not below the least
pub record Sound (k : Link) : Type 0 where
  pub setting : within base_bounds k.setting ≡ true
  pub minor : within base_bounds k.minor ≡ true
  pub diameter : within base_bounds k.diameter ≡ true
  pub resistance : within base_bounds k.resistance ≡ true
  pub diameter_least : (k.kind ≡ Pipe → ⊥) → le base_bounds.diameter k.diameter ≡ true

-- a conductance above zero, and no addition to a node
pub record Conducts (c : Coefficients) : Type 0 where
  pub above : lt zero c.conductance ≡ true
  pub no_start : c.upstream ≡ None
  pub no_end : c.downstream ≡ None

abbrev pub LinkConducts : Type 0
LinkConducts =
    (k : Link) (status : Status) (q excessUp excessDown up down : Float) → Sound k → T (fits binary64 q) → wild_of q ≡ false → regulates k.kind status ≡ false
    → Conducts (coefficients_of k status q excessUp excessDown up down)
