-- Each kind and status comes back from its code. Assumes nothing.
use mathlib.Core.Path.{◌≡◌, refl}
use Rattle.codes.specs.Codes.{node_code, link_code, status_code, node_kind_of, link_kind_of, status_of}
use Rattle.codes.specs.declared.NodeKind.{NodeKind}
use Rattle.codes.specs.declared.NodeKind.TheVariants.{Junction, Reservoir, Tank}
use Rattle.codes.specs.declared.LinkKind.{LinkKind}
use Rattle.codes.specs.declared.LinkKind.TheVariants.{Pipe, Prv, Psv, Pbv, Fcv, Tcv, Pcv}
use Rattle.codes.specs.declared.Status.{Status}
use Rattle.codes.specs.declared.Status.TheVariants.{Closed, Open, Active, TempClosed, FixedClosed, FixedOpen, XPressure, Xhead}

pub node_back : (k : NodeKind) → node_kind_of (node_code k) ≡ k
unfolding node_kind_of node_code
node_back Junction = refl
node_back Reservoir = refl
node_back Tank = refl

pub link_back : (k : LinkKind) → link_kind_of (link_code k) ≡ k
unfolding link_kind_of link_code
link_back Pipe = refl
link_back Prv = refl
link_back Psv = refl
link_back Pbv = refl
link_back Fcv = refl
link_back Tcv = refl
link_back Pcv = refl

pub status_back : (k : Status) → status_of (status_code k) ≡ k
unfolding status_of status_code
status_back Closed = refl
status_back Open = refl
status_back Active = refl
status_back TempClosed = refl
status_back FixedClosed = refl
status_back FixedOpen = refl
status_back XPressure = refl
status_back Xhead = refl
