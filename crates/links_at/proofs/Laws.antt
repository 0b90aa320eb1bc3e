-- The columns of ends: what they hold. Assumes nothing.
use Prim.Native.Nat.{ℕ, suc, ◌≤◌, ◌<◌}
use mathlib.Core.Path.{◌≡◌, ap, ◌∙◌}
use mathlib.Core.List.{List, ◌++◌}
use native.Mathlib.Omega.{arith}
use lib.ListN.{drop, replicate, length-replicate}
use Rattle.layout.specs.declared.places.Layout.{Layout}
use Rattle.links.specs.Links.{link_start, link_end}
use Rattle.touching.specs.Touching.{in_column, place_of, places_of, listed_of}
use Rattle.touching.proofs.Same.{Same, place_same, places_same, listed_same}
use Rattle.fills.specs.Fills.{filled}
use Rattle.fills.proofs.Laws.{filled_at}

-- the columns say what they were filled with
column_same : (f : ℕ → ℕ) (m : ℕ) (x : List ℕ) → m ≤ 128 → x ≡ filled f m (replicate 128 0) → (j : ℕ) → j < m → in_column x j ≡ f j
unfolding in_column
column_same f m x few e j h = ap (λ (z : List ℕ). in_column z j) e ∙ filled_at f 0 m (replicate 128 0) (omega (arith, few, length-replicate {A = ℕ} 128 0)) j h

pub ends_same : (s : List ℕ) (l : Layout) (x y : List ℕ) → l.links ≤ 128 → x ≡ filled (link_start s l) l.links (replicate 128 0) → y ≡ filled (link_end s l) l.links (replicate 128 0)
    → Same (in_column x) (in_column y) (link_start s l) (link_end s l) l.links
ends_same s l x y few ex ey = record { starts = column_same (link_start s l) l.links x few ex; ends = column_same (link_end s l) l.links y few ey }

-- what the columns list is what the links list
module _ (start end f g : ℕ → ℕ) (m n : ℕ) (same : Same start end f g m) where
  pub places_made : (x x₀ : List ℕ) → x ≡ places_of start end m (suc n) ++ drop (suc n) x₀ → x ≡ places_of f g m (suc n) ++ drop (suc n) x₀
  places_made x x₀ e = e ∙ ap (λ (z : List ℕ). z ++ drop (suc n) x₀) (places_same start end f g m same (suc n))

  pub listed_made : (y y₀ : List ℕ) → y ≡ listed_of start end m n ++ drop (place_of start end m n) y₀ → y ≡ listed_of f g m n ++ drop (place_of f g m n) y₀
  listed_made y y₀ e = rw (← listed_same start end f g m same n, ← place_same start end f g m same n) e
