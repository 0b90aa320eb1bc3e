-- What is read of a link, as laws of the definitions. Assumes nothing.
use mathlib.Core.Path.{◌≡◌, refl}
use mathlib.Core.Bool.{◌||◌}
use mathlib.Core.List.{List}
use Prim.Native.Nat.{ℕ, ◌+◌, ◌<◌}
use lib.Dec.{eqb}
use lib.ListN.{get_or}
use Rattle.layout.specs.Places.{link_place}
use Rattle.layout.specs.declared.places.Layout.{Layout}
use Rattle.records.specs.Records.{pair_at, link_at}
use Rattle.records.specs.declared.records.Link.{Link}
use Rattle.links.specs.Links.{link_of, link_start, link_end, link_status, regulator, EndsIn}

module _ (s : List ℕ) (l : Layout) (j at : ℕ) (here : at ≡ link_place l j) where
  pub link_is : (r : Link) → r ≡ link_at s at → r ≡ link_of s l j
  unfolding link_of
  link_is r h = rw (h, here)

  pub start_is : (r : ℕ) → r ≡ pair_at s (at + 5) → r ≡ link_start s l j
  unfolding link_start
  start_is r h = rw (h, here)

  pub end_is : (r : ℕ) → r ≡ pair_at s (at + 7) → r ≡ link_end s l j
  unfolding link_end
  end_is r h = rw (h, here)

  pub status_is : get_or s (at + 4) 0 ≡ link_status s l j
  unfolding link_status
  status_is = rw here

  pub regulator_is : (eqb (get_or s (at + 2) 0) 1 || eqb (get_or s (at + 2) 0) 2) ≡ regulator s l j
  unfolding regulator
  regulator_is = rw here

-- the ends in the whole record are those read alone
module _ (s : List ℕ) (l : Layout) (j : ℕ) where
  pub start_of : (link_of s l j).start ≡ link_start s l j
  unfolding link_of link_start link_at
  start_of = refl

  pub end_of : (link_of s l j).end ≡ link_end s l j
  unfolding link_of link_end link_at
  end_of = refl

-- the ends of a link that was read are nodes
module _ (s : List ℕ) (l : Layout) (j : ℕ) (k : Link) (ends : EndsIn l s) (here : j < l.links) (read : k ≡ link_of s l j) where
  pub start_below : k.start < l.nodes
  start_below = rw (read, start_of s l j) (ends.start j here)

  pub end_below : k.end < l.nodes
  end_below = rw (read, end_of s l j) (ends.end j here)
