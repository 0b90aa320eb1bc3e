-- Line 4: what is told of one node, where the search begins, and what it tells of all nodes. Assumes nothing.
use mathlib.Core.Path.{◌≡◌, refl, sym}
use mathlib.Core.Bool.{Bool, true, false, not, ◌&&◌}
use mathlib.Core.List.{List}
use Prim.Native.Nat.{ℕ, ◌<◌}
use lib.ListN.{get_or}
use lib.Ieee.{Float, nan}
use Rattle.layout.specs.declared.places.Layout.{Layout}
use Rattle.found.specs.Searches.{first_from, First}
use Rattle.found.proofs.Firsts.{first_start, first_is, first_none}
use Rattle.nodes.specs.Nodes.{in_service}
use Rattle.tolerance.specs.Within.{within_of}
use Rattle.balances.specs.Balances.{leaks, unbalanced_of}
use Rattle.std.specs.Prelude.{None, Some}

-- what is no leak in service is near
near : (serves b : Bool) → (serves && not b) ≡ false → serves ≡ true → b ≡ true
near true true h t = t
near true false h t = sym h
near false true h t = refl
near false false h t = t

module _ (s : List ℕ) (l : Layout) (e : List Float) (flow : Float) where
  pub leaks_is : (i : ℕ) (serves near : Bool) → serves ≡ in_service s l i → near ≡ within_of (get_or e i nan) flow → (serves && not near) ≡ leaks s l e flow i
  unfolding leaks
  leaks_is i serves near a b = rw (a, b)

  pub leaks_start : (k : ℕ) → k ≡ l.nodes → first_from (leaks s l e flow) k 0 ≡ unbalanced_of s l e flow
  unfolding unbalanced_of
  leaks_start k h = first_start (leaks s l e flow) l.nodes k h

  -- no 4: at every junction in service the flows add up
  pub all_balanced : unbalanced_of s l e flow ≡ None → (i : ℕ) → i < l.nodes → in_service s l i ≡ true → within_of (get_or e i nan) flow ≡ true
  unfolding unbalanced_of leaks
  all_balanced none i h t = near (in_service s l i) (within_of (get_or e i nan) flow) (first_none (leaks s l e flow) l.nodes none i h) t

  -- 4: they do not at this one, and at none lower that leaks
  pub lowest_leak : (i : ℕ) → unbalanced_of s l e flow ≡ Some i → First (leaks s l e flow) l.nodes i
  unfolding unbalanced_of
  lowest_leak i h = first_is (leaks s l e flow) l.nodes i h
