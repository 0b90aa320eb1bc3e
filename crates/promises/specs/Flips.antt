-- What the number of an ST or OK entry says (document 02, [2]), in terms of the state before its trial: which link, why, and that no lower one changed. Definitions only.
use Rattle.std.specs.Prelude.{ℕ, ◌+◌, ◌<◌, ◌≡◌, ◌⊎◌, Bool, true, false, ◌&&◌, cond, List, get_or, Float, None, Some}
use Rattle.std.specs.Float.{nan}
use Rattle.std.specs.Float.Ieee.{lt, neg}
use Rattle.layout.specs.declared.places.Layout.{Layout}
use Rattle.links.specs.Links.{link_of}
use Rattle.links.specs.declared.LinkIndex.{LinkIndex}
use Rattle.nodes.specs.Nodes.{enabled}
use Rattle.codes.specs.declared.Status.{Status}
use Rattle.codes.specs.declared.Status.TheVariants.{Closed, Open, Active, TempClosed, FixedClosed, FixedOpen, XPressure, Xhead}
use Rattle.codes.specs.declared.LinkKind.{LinkKind}
use Rattle.codes.specs.declared.LinkKind.TheVariants.{Pipe, Prv, Psv, Pbv, Fcv, Tcv, Pcv}
use Rattle.constants.specs.Arithmetic.{plus, minus}
use Rattle.constants.specs.Constants.{q_tol, h_tol}
use Rattle.causes.specs.Causes.{cause_code, Flip}
use Rattle.causes.specs.declared.Cause.{Cause}
use Rattle.causes.specs.declared.Cause.TheVariants as cause
use Rattle.substitution.specs.Substitution.{solved}
use Rattle.state.specs.State.{State, solved_heads}
use Rattle.update.specs.Update.{Basis, basis, flow_change, change_at}
use Rattle.damping.specs.declared.steps.Damping.{Damping}
use Rattle.entries.specs.declared.Entry.{Entry}
use Rattle.entries.specs.declared.Entry.TheVariants.{Stepped, Converged}
use Rattle.trial.specs.Trial.{system_of, factors_of}
use Rattle.status.specs.Rules.{Change}

-- what a trial of a state whose matrix is factored moves the links by: the heads that it finds, the system's g and y, and the damping factor
unfoldable pub basis_of : List ℕ → Layout → Damping → State → Basis
basis_of s l d t =
    let a = system_of s l t in
    basis (solved_heads s l (solved (factors_of s l t) l.unknowns a.rhs) l.nodes t.heads) a.g a.y d.factor

-- the change of link j's status by the flow update, from the flows and the codes before it; none where an end is disabled
unfoldable pub change_of : List ℕ → Layout → Basis → List Float → List ℕ → ℕ → Change
change_of s l b q c j =
    let k = link_of s l j in
    cond (enabled s l k.start && enabled s l k.end) (change_at s l b.heads k (get_or c j 0) (minus (get_or q j nan) (flow_change b k j))) None

-- of the first n links, whose changes are f: nothing is told where none changes; else the lowest that does, with its cause
pub record Tells (n : ℕ) (f : ℕ → Change) (flip : Flip) : Type 0 where
  pub nothing : flip ≡ None → (j : ℕ) → j < n → f j ≡ None
  pub link : (i : LinkIndex) (c : Cause) → flip ≡ Some (i, c) → (i.0 < n) × (((new : Status) × (f i.0 ≡ Some (new, c))) × ((j : ℕ) → j < i.0 → f j ≡ None))

-- an ST or OK entry that tells so
abbrev pub Steps : Entry → Flip → Type 0
Steps e flip = (e ≡ Converged flip) ⊎ ((next : Damping) × (e ≡ Stepped next flip))

-- what is told, in an entry's two bytes: the link's number plus 1 and the cause, or 0 and 0
pub record Bytes (flip : Flip) (low high : ℕ) : Type 0 where
  pub nothing : flip ≡ None → (low ≡ 0) × (high ≡ 0)
  pub link : (i : LinkIndex) (c : Cause) → flip ≡ Some (i, c) → (low ≡ i.0 + 1) × (high ≡ cause_code c)

-- a status whose leaving is called reopened
unfoldable pub shut : Status → Bool
shut Closed = true
shut TempClosed = true
shut Xhead = true
shut Open = false
shut Active = false
shut FixedClosed = false
shut FixedOpen = false
shut XPressure = false

-- the head that a PRV holds at its end, or a PSV at its start: its setting above that node (up and down are the elevations of start and end)
unfoldable pub target : LinkKind → Float → Float → Float → Float
target Prv setting up down = plus setting down
target Psv setting up down = plus setting up
target Pipe setting up down = setting
target Pbv setting up down = setting
target Fcv setting up down = setting
target Tcv setting up down = setting
target Pcv setting up down = setting

-- why a link of status old changed, at the flow q and the heads of its ends
pub record Because (k : LinkKind) (old : Status) (setting q headUp headDown up down : Float) (c : Cause) : Type 0 where
  pub some : c ≡ cause.None → ⊥
  pub reverse : c ≡ cause.ReverseFlow → lt q (neg q_tol) ≡ true
  pub low : c ≡ cause.InletTooLow → lt headUp (minus (target k setting up down) h_tol) ≡ true
  pub high : c ≡ cause.OutletTooHigh → lt (plus (target k setting up down) h_tol) headDown ≡ true
  pub reopened : c ≡ cause.Reopened → shut old ≡ true
  pub leaves : shut old ≡ true → c ≡ cause.Reopened
