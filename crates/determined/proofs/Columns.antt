-- That the ends in the columns are nodes, and that the code's columns are the definition's. Assumes nothing.
use Prim.Native.Nat.{ℕ, zero, suc, ◌≤◌, ◌<◌}
use mathlib.Core.Path.{◌≡◌, refl, sym, ap, ◌∙◌, subst}
use mathlib.Core.Bool.{Bool, false}
use mathlib.Core.List.{List}
use mathlib.Core.Logic.{⊎_elim}
use native.Mathlib.Nat.{eq-or-lt_of_le, le_of_suc-le-suc}
use native.Mathlib.Omega.{arith}
use lib.ListN.{length, get_or, set, replicate, length-set, length-replicate}
use lib.Seq.{get_or-set_same, get_or-set_other}
use lib.Ieee.{Float}
use Rattle.layout.specs.declared.places.Layout.{Layout}
use Rattle.found.specs.Searches.{first_of}
use Rattle.nodes.specs.Nodes.{fixed_node, in_service}
use Rattle.links.specs.Links.{link_start, link_end, EndsIn}
use Rattle.fills.specs.Fills.{filled}
use Rattle.fills.proofs.Laws.{filled_at}
use Rattle.reach.specs.Reach.{sweeps, lacks, EndsBelow}
use Rattle.determined.specs.Determined.{joins_at, held_at, with_held, starts_of, ends_of, joins_of, held_of, needs_of, reached_of, undetermined_of}
use Rattle.determined.proofs.Laws.{mark_long}
use Rattle.std.specs.Prelude.{Option}

-- ---- the ends are nodes

pub ends_fit : (s : List ℕ) (l : Layout) → EndsIn l s → l.links ≤ 128 → (a b : List ℕ) → a ≡ filled (link_start s l) l.links (replicate 128 0) → b ≡ filled (link_end s l) l.links (replicate 128 0) → EndsBelow l.nodes l.links a b
ends_fit s l ends few a b e f =
    record {
      start = λ j h. subst (λ (x : ℕ). x < l.nodes) (sym (ap (λ (x : List ℕ). get_or x j 0) e ∙ filled_at (link_start s l) 0 l.links (replicate 128 0) fits j h)) (ends.start j h);
      end = λ j h. subst (λ (x : ℕ). x < l.nodes) (sym (ap (λ (x : List ℕ). get_or x j 0) f ∙ filled_at (link_end s l) 0 l.links (replicate 128 0) fits j h)) (ends.end j h);
    }
  where
    fits : l.links ≤ length (replicate {A = ℕ} 128 0)
    fits = omega (arith, length-replicate {A = ℕ} 128 0)

pub held_long : (s : List ℕ) (l : Layout) (c : List ℕ) (j : ℕ) (m : List Bool) → length (with_held s l c j m) ≡ length m
unfolding with_held
held_long s l c zero m = refl
held_long s l c (suc j) m = mark_long (held_at s l c j) (with_held s l c j m) ∙ held_long s l c j m

-- ---- the whole

module _ (s : List ℕ) (l : Layout) (q : List Float) (c : List ℕ) where
  pub undetermined_of_lem : (a b : List ℕ) (j g h n r : List Bool) (f : Option ℕ)
      → a ≡ filled (link_start s l) l.links (replicate 128 0) → b ≡ filled (link_end s l) l.links (replicate 128 0)
      → j ≡ filled (joins_at s l q c) l.links (replicate 128 false)
      → g ≡ filled (fixed_node s l) l.nodes (replicate 64 false) → h ≡ with_held s l c l.links g
      → n ≡ filled (in_service s l) l.nodes (replicate 64 false)
      → r ≡ sweeps a b j l.links l.nodes h → f ≡ first_of (lacks n r) l.nodes → f ≡ undetermined_of s l q c
  unfolding undetermined_of needs_of reached_of starts_of ends_of joins_of held_of
  undetermined_of_lem a b j g h n r f ea eb ej eg eh en er ef = rw (ef, er, ea, eb, ej, eh, eg, en)
