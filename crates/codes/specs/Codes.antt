-- The codes of the sheet. Definitions only.
use Rattle.std.specs.Prelude.{ℕ, List, [], ◌∷◌, get_or}
use Rattle.codes.specs.declared.NodeKind.{NodeKind}
use Rattle.codes.specs.declared.NodeKind.TheVariants.{Junction, Reservoir, Tank}
use Rattle.codes.specs.declared.LinkKind.{LinkKind}
use Rattle.codes.specs.declared.LinkKind.TheVariants.{Pipe, Prv, Psv, Pbv, Fcv, Tcv, Pcv}
use Rattle.codes.specs.declared.Status.{Status}
use Rattle.codes.specs.declared.Status.TheVariants.{Closed, Open, Active, TempClosed, FixedClosed, FixedOpen, XPressure, Xhead}

-- each kind and status has its code
unfoldable pub node_code : NodeKind → ℕ
node_code Junction = 0
node_code Reservoir = 1
node_code Tank = 2

unfoldable pub link_code : LinkKind → ℕ
link_code Pipe = 0
link_code Prv = 1
link_code Psv = 2
link_code Pbv = 3
link_code Fcv = 4
link_code Tcv = 5
link_code Pcv = 6

unfoldable pub status_code : Status → ℕ
status_code Closed = 0
status_code Open = 1
status_code Active = 2
status_code TempClosed = 3
status_code FixedClosed = 4
status_code FixedOpen = 5
status_code XPressure = 6
status_code Xhead = 7

-- and back: the kinds and statuses in the order of their codes, all but the last. What is past the end is read as the last; a greater code is never met in a sheet that is not refused
abbrev pub node_kinds : List NodeKind
node_kinds = Junction ∷ Reservoir ∷ []

abbrev pub link_kinds : List LinkKind
link_kinds = Pipe ∷ Prv ∷ Psv ∷ Pbv ∷ Fcv ∷ Tcv ∷ []

abbrev pub statuses : List Status
statuses = Closed ∷ Open ∷ Active ∷ TempClosed ∷ FixedClosed ∷ FixedOpen ∷ XPressure ∷ []

unfoldable pub node_kind_of : ℕ → NodeKind
node_kind_of code = get_or node_kinds code Tank

unfoldable pub link_kind_of : ℕ → LinkKind
link_kind_of code = get_or link_kinds code Pcv

unfoldable pub status_of : ℕ → Status
status_of code = get_or statuses code Xhead
