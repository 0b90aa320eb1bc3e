-- What the search finds of the marks that the sweeps leave: the lowest node that needs a way and has none. Assumes nothing.
use Prim.Native.Nat.{ℕ}
use mathlib.Core.Path.{◌≡◌, refl, sym, ◌∙◌}
use mathlib.Core.List.{List}
use mathlib.Core.Bool.{Bool, true, false, not, ◌&&◌, true≢false, false≢true}
use lib.ListN.{get_or}
use Rattle.found.specs.Searches.{first_of}
use Rattle.found.proofs.Firsts.{first_is, first_none}
use Rattle.reach.specs.Reach.{lacks}
use Rattle.reach.specs.Way.{Joined, Cut}
use Rattle.reach.specs.Way.Cut.{cut_off, whole}
use Rattle.std.specs.Prelude.{None, Option, Some}

and_not : (x y : Bool) → (x && not y) ≡ true → (x ≡ true) × (y ≡ false)
and_not false y e = absurd (false≢true e)
and_not true false e = (refl, refl)
and_not true true e = absurd (false≢true e)

not_and_not : (x y : Bool) → (x && not y) ≡ false → x ≡ true → y ≡ true
not_and_not false y e h = absurd (false≢true h)
not_and_not true true e h = refl
not_and_not true false e h = absurd (true≢false e)

module _ (needs reached : List Bool) where
  lacking : (i : ℕ) → lacks needs reached i ≡ true → (get_or needs i false ≡ true) × (get_or reached i false ≡ false)
  unfolding lacks
  lacking i e = and_not (get_or needs i false) (get_or reached i false) e

  -- a node that needs to be reached, and is not among those that lack it, is reached
  reached_at : (h : ℕ) → lacks needs reached h ≡ false → get_or needs h false ≡ true → get_or reached h false ≡ true
  unfolding lacks
  reached_at h f e = not_and_not (get_or needs h false) (get_or reached h false) f e

  module _ (starts ends : List ℕ) (joins : List Bool) (k n : ℕ) (held : List Bool) (marks-mean : Joined starts ends joins k n held reached) where
    cut_of : (u : Option ℕ) → first_of (lacks needs reached) n ≡ u → Cut starts ends joins k n held needs u
    cut_of (Some i) e =
        let w = first_is (lacks needs reached) n i e in
        let x = lacking i w.holds in
        cut_off i w.below x.0 (λ way. true≢false (sym (marks-mean.marked i way) ∙ x.1)) (λ h g f. marks-mean.way h (reached_at h (w.lower h g) f))
    cut_of None e = whole (λ h g f. marks-mean.way h (reached_at h (first_none (lacks needs reached) n e h g) f))

    pub cut_in : Cut starts ends joins k n held needs (first_of (lacks needs reached) n)
    cut_in = cut_of (first_of (lacks needs reached) n) refl
