-- Worked examples: the definitions compute. Assumes nothing.
use Prim.Native.Nat.{ℕ, zero, suc, ◌<◌}
use mathlib.Core.Path.{◌≡◌, refl}
use mathlib.Core.Bool.{Bool, true, false, false≢true}
use mathlib.Core.List.{List, [], ◌∷◌}
use native.Mathlib.Omega.{arith}
use lib.ListN.{get_or}
use Rattle.found.specs.Searches.{first_from, first_of}
use Rattle.reach.specs.Reach.{EndsBelow, marks, passed, followed, follows, swept, stirred, sweeps, lacks}
use Rattle.reach.specs.Way.{Way}
use Rattle.reach.proofs.Ways.{joined}
use Rattle.std.specs.Prelude.{None, Some}

-- four nodes, 0 held; links from 2 to 3, which does not conduct, from 1 to 2, and from 1 to 0
abbrev starts : List ℕ
starts = 2 ∷ 1 ∷ 1 ∷ []

abbrev ends : List ℕ
ends = 3 ∷ 2 ∷ 0 ∷ []

abbrev joins : List Bool
joins = false ∷ true ∷ true ∷ []

abbrev held : List Bool
held = true ∷ false ∷ false ∷ false ∷ []

-- one sweep is not enough
once : swept starts ends joins 3 held ≡ true ∷ true ∷ false ∷ false ∷ []
unfolding marks passed followed swept
once = refl

all : sweeps starts ends joins 3 4 held ≡ true ∷ true ∷ true ∷ false ∷ []
unfolding marks passed followed swept sweeps
all = refl

-- the third sweep marks nothing, and the second does
ends_early : (stirred starts ends joins 3 (true ∷ true ∷ false ∷ false ∷ []) ≡ true) × (stirred starts ends joins 3 (true ∷ true ∷ true ∷ false ∷ []) ≡ false)
unfolding marks passed followed follows swept stirred
ends_early = (refl, refl)

-- node 3 is not reached
third : (first_of (lacks (false ∷ true ∷ true ∷ true ∷ []) (true ∷ true ∷ true ∷ false ∷ [])) 4 ≡ Some 3) × (first_of (lacks (false ∷ true ∷ true ∷ false ∷ []) (true ∷ true ∷ true ∷ false ∷ [])) 4 ≡ None)
unfolding lacks first_from first_of
third = (refl, refl)

-- the ends are below 4, as the contract asks: so a way leads to node 2, and none to node 3
below_four : (l : List ℕ) → (get_or l 0 0 < 4) × (get_or l 1 0 < 4) × (get_or l 2 0 < 4) → (j : ℕ) → j < 3 → get_or l j 0 < 4
below_four l h zero g = h.0
below_four l h (suc zero) g = h.1
below_four l h (suc (suc zero)) g = h.2
below_four l h (suc (suc (suc j))) g = absurd (let y : ⊥ = omega arith in y)

fit : EndsBelow 4 3 starts ends
fit = record { start = below_four starts (omega arith); end = below_four ends (omega arith) }

way_to : Way starts ends joins 3 held 2
unfolding marks passed followed swept sweeps
way_to = (joined starts ends joins 3 4 fit held (omega arith)).way 2 refl

no_way_to : Way starts ends joins 3 held 3 → ⊥
unfolding marks passed followed swept sweeps
no_way_to w = false≢true ((joined starts ends joins 3 4 fit held (omega arith)).marked 3 w)
