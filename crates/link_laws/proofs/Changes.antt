-- Line 5: that the change is the update's, what is told of one link, where the search begins, and what it tells of all links. Assumes nothing.
use mathlib.Core.Path.{◌≡◌, sym, subst}
use mathlib.Core.Bool.{Bool, true, false, not, ◌&&◌, ◌||◌}
use mathlib.Core.List.{List}
use Prim.Native.Nat.{ℕ, ◌<◌}
use lib.Dec.{T}
use lib.ListN.{get_or}
use lib.Ieee.{Float, nan}
use Rattle.layout.specs.declared.places.Layout.{Layout}
use Rattle.found.specs.Searches.{first_from, First}
use Rattle.found.proofs.Firsts.{first_start, first_is, first_none}
use Rattle.records.specs.declared.records.Link.{Link}
use Rattle.links.specs.Links.{link_of}
use Rattle.constants.specs.Arithmetic.{times}
use Rattle.coefficient.specs.declared.Coefficients.{Coefficients}
use Rattle.nodes.specs.Nodes.{enabled}
use Rattle.link_rows.specs.LinkRows.{View, coefficients_at}
use Rattle.update.specs.Update.{basis, flow_change}
use Rattle.tolerance.specs.Within.{within_of}
use Rattle.tolerance.specs.declared.Limits.{Limits}
use Rattle.link_laws.specs.LinkLaws.{change_by, slight, moves_by, moves, unsettled_of}
use Rattle.std.specs.Prelude.{None, Some}

-- the update moves a link by the factor times this change, where its coefficients stand in the columns
pub update_changes : (heads g y : List Float) (factor : Float) (k : Link) (c : Coefficients) (j : ℕ) → get_or g j nan ≡ c.conductance → get_or y j nan ≡ c.offset
    → flow_change (basis heads g y factor) k j ≡ times factor (change_by heads k c)
unfolding flow_change change_by
update_changes heads g y factor k c j a b = rw (a, b)

pub slight_is : (m g : Float) (limits : Limits) (f h : Bool) → f ≡ within_of m limits.flow → h ≡ within_of m (times limits.head g) → (f || h) ≡ slight m g limits
unfolding slight
slight_is m g limits f h a b = rw (a, b)

-- what moves not, and is in service, is small
small_of : (a b small : Bool) → ((a && b) && not small) ≡ false → a ≡ true → b ≡ true → small ≡ true
small_of true true true h p q = p
small_of true true false h p q = sym h
small_of true false small h p q = absurd (subst T (sym q) tt)
small_of false b small h p q = absurd (subst T (sym p) tt)

module _ (s : List ℕ) (l : Layout) (v : View) (limits : Limits) where
  module _ (j : ℕ) (k : Link) (read : k ≡ link_of s l j) (p q : Bool) (hp : p ≡ enabled s l k.start) (hq : q ≡ enabled s l k.end) where
    pub moves-in : (c : Coefficients) (m : Float) (small : Bool) → (p && q) ≡ true → c ≡ coefficients_at s l v.flows v.statuses v.excess k j
        → m ≡ change_by v.heads k c → small ≡ slight m c.conductance limits → not small ≡ moves s l v limits j
    unfolding moves moves_by
    moves-in c m small h e f n =
        let on : (enabled s l k.start && enabled s l k.end) ≡ true = rw (← hp, ← hq) h in
        rw (← read, on, ← e, ← f, ← n)

    pub moves_out : (p && q) ≡ false → false ≡ moves s l v limits j
    unfolding moves moves_by
    moves_out h =
        let off : (enabled s l k.start && enabled s l k.end) ≡ false = rw (← hp, ← hq) h in
        rw (← read, off)

  pub moves_start : (k : ℕ) → k ≡ l.links → first_from (moves s l v limits) k 0 ≡ unsettled_of s l v limits
  unfolding unsettled_of
  moves_start k h = first_start (moves s l v limits) l.links k h

  -- link j, by its record and its coefficients
  module _ (j : ℕ) where
    abbrev k : Link
    k = link_of s l j

    abbrev c : Coefficients
    c = coefficients_at s l v.flows v.statuses v.excess k j

    -- no 5: the change of every link in service is slight
    pub all-slight : unsettled_of s l v limits ≡ None → j < l.links → enabled s l k.start ≡ true → enabled s l k.end ≡ true → slight (change_by v.heads k c) c.conductance limits ≡ true
    unfolding unsettled_of moves moves_by
    all-slight none h p q =
        small_of (enabled s l k.start) (enabled s l k.end) (slight (change_by v.heads k c) c.conductance limits) (first_none (moves s l v limits) l.links none j h) p q

    -- 5: this link is not, and none lower that moves
    pub lowest-unsettled : unsettled_of s l v limits ≡ Some j → First (moves s l v limits) l.links j
    unfolding unsettled_of
    lowest-unsettled h = first_is (moves s l v limits) l.links j h
