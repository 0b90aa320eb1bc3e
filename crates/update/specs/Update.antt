-- hydraulicsolver.rs `update_links`: flows and statuses after the heads, and what moved; and which link's status changed first, with the cause (document 02, [2]). Definitions only.
use Rattle.std.specs.Prelude.{ℕ, zero, suc, Bool, true, false, cond, ◌&&◌, ◌||◌, List, get_or, set, Float, None, Some}
use Rattle.std.specs.Float.{nan}
use Rattle.std.specs.Float.Ieee.{lt}
use Rattle.float.specs.Sign.{abs_of}
use Rattle.layout.specs.declared.places.Layout.{Layout}
use Rattle.links.specs.Links.{link_of}
use Rattle.codes.specs.Codes.{status_of, status_code}
use Rattle.codes.specs.declared.Status.{Status}
use Rattle.codes.specs.declared.Status.TheVariants.{Closed, Open, Active, TempClosed, FixedClosed, FixedOpen, XPressure, Xhead}
use Rattle.records.specs.declared.records.Link.{Link}
use Rattle.constants.specs.Arithmetic.{plus, minus, times}
use Rattle.constants.specs.Constants as constant
use Rattle.causes.specs.Causes.{first_flip, Flip}
use Rattle.status.specs.Rules.{updated_of, Change}
use Rattle.nodes.specs.Nodes.{enabled, elevation_of}
use Rattle.update.specs.declared.Stats.{Stats}
use Rattle.update.specs.declared.Updated.{Updated}

-- nothing moved yet, and nothing changed
abbrev pub still : Updated
still = record { stats = record { moved = constant.zero; total = constant.zero; largest = constant.zero; changed = false }; flip = None }

-- a flow change, the flow after it, and whether a status change counts, taken into the statistics
unfoldable pub noted : Float → Float → Bool → Stats → Stats
unfolding abs_of
noted dq q changes m =
    record {
      moved = plus m.moved (abs_of dq);
      total = plus m.total (abs_of q);
      largest = cond (lt m.largest (abs_of dq)) (abs_of dq) m.largest;
      changed = m.changed || changes;
    }

-- a new status counts unless it left TempClosed or Xhead
unfoldable pub leaves : Status → Bool
leaves TempClosed = false
leaves Xhead = false
leaves Closed = true
leaves Open = true
leaves Active = true
leaves FixedClosed = true
leaves FixedOpen = true
leaves XPressure = true

unfoldable pub counts : Status → Change → Bool
unfolding leaves
counts old None = false
counts old (Some (new, cause)) = leaves old

-- the code of link i after a change
unfoldable pub recoded : List ℕ → ℕ → Change → List ℕ
recoded codes i None = codes
recoded codes i (Some (new, cause)) = set codes i (status_code new)

-- any change is told, whether it counts or not
unfoldable pub telling : Flip → ℕ → Change → Flip
unfolding first_flip
telling flip j None = flip
telling flip j (Some (new, cause)) = first_flip flip j cause

-- the flows and the status codes as they stand, the statistics so far and the first change
pub record Stepping : Type 0 where
  pub flows : List Float
  pub codes : List ℕ
  pub updated : Updated

abbrev pub stepping : List Float → List ℕ → Updated → Stepping
stepping q c u = record { flows = q; codes = c; updated = u }

-- what the links are moved by: the heads, the links' g and y, and the damping factor
pub record Basis : Type 0 where
  pub heads : List Float
  pub g : List Float
  pub y : List Float
  pub factor : Float

abbrev pub basis : List Float → List Float → List Float → Float → Basis
basis h g y factor = record { heads = h; g = g; y = y; factor = factor }

-- the flow change of link j, which is k: the factor times (y less g times the fall of the head)
unfoldable pub flow_change : Basis → Link → ℕ → Float
flow_change b k j =
    times b.factor (minus (get_or b.y j nan) (times (get_or b.g j nan) (minus (get_or b.heads k.start nan) (get_or b.heads k.end nan))))

-- the change of its status at its new flow q
unfoldable pub change_at : List ℕ → Layout → List Float → Link → ℕ → Float → Change
unfolding elevation_of
change_at s l h k code q =
    updated_of k.kind (status_of code) k.setting q
    (get_or h k.start nan) (get_or h k.end nan)
    (elevation_of s l k.start) (elevation_of s l k.end)

-- link j in service, with its code, its flow change, its new flow and the change of its status
unfoldable pub link_set : ℕ → ℕ → Float → Float → Change → Stepping → Stepping
unfolding noted counts recoded telling
link_set j code dq q change w =
    record {
      flows = set w.flows j q;
      codes = recoded w.codes j change;
      updated = record { stats = noted dq q (counts (status_of code) change) w.updated.stats; flip = telling w.updated.flip j change };
    }

unfoldable pub link_moved : List ℕ → Layout → Basis → Link → ℕ → Stepping → Stepping
unfolding flow_change change_at link_set
link_moved s l b k j w =
    let dq = flow_change b k j in
    let q = minus (get_or w.flows j nan) dq in
    let code = get_or w.codes j 0 in
    link_set j code dq q (change_at s l b.heads k code q) w

-- a link with a disabled end gets flow +0.0 and nothing else
unfoldable pub link_update : List ℕ → Layout → Basis → Link → ℕ → Stepping → Stepping
unfolding link_moved
link_update s l b k j w =
    cond (enabled s l k.start && enabled s l k.end) (link_moved s l b k j w)
    (stepping (set w.flows j constant.zero) w.codes w.updated)

-- the first j links, in order
unfoldable pub link_updates : List ℕ → Layout → Basis → ℕ → Stepping → Stepping
unfolding link_update
link_updates s l b zero w = w
link_updates s l b (suc j) w = link_update s l b (link_of s l j) j (link_updates s l b j w)

-- all of them
unfoldable pub update_of : List ℕ → Layout → Basis → List Float → List ℕ → Stepping
unfolding link_updates
update_of s l b q c = link_updates s l b l.links (stepping q c still)
