-- Demand 3: what a failed factorization at a node leads to. Definitions only.
use Rattle.std.specs.Prelude.{ℕ, zero, suc, Bool, true, false, cond, ◌&&◌, ◌||◌, List, eqb, get_or, set, None, Option, Some}
use Rattle.layout.specs.declared.places.Layout.{Layout}
use Rattle.links.specs.Links.{link_start, link_end, regulator}
use Rattle.entries.specs.declared.Entry.{Entry}
use Rattle.entries.specs.declared.Entry.TheVariants.{Freed, Grounded, Singular}

-- link j starts or ends at node i
unfoldable pub touches : List ℕ → Layout → ℕ → ℕ → Bool
touches s l i j = eqb (link_start s l j) i || eqb (link_end s l j) i

-- it is a PRV or PSV there, and Active (2)
unfoldable pub regulates_at : List ℕ → Layout → List ℕ → ℕ → ℕ → Bool
unfolding touches
regulates_at s l codes i j = regulator s l j && (touches s l i j && eqb (get_or codes j 0) 2)

-- the first of m links, from link j on, that is an Active PRV or PSV at node i
unfoldable pub regulator_from : List ℕ → Layout → List ℕ → ℕ → ℕ → ℕ → Option ℕ
unfolding regulates_at
regulator_from s l codes i zero j = None
regulator_from s l codes i (suc m) j = cond (regulates_at s l codes i j) (Some j) (regulator_from s l codes i m (suc j))

unfoldable pub regulator_at : List ℕ → Layout → List ℕ → ℕ → Option ℕ
unfolding regulator_from
regulator_at s l codes i = regulator_from s l codes i l.links 0

-- the record's entry, and the status codes and grounded marks after it
pub record Repaired : Type 0 where
  pub entry : Entry
  pub codes : List ℕ
  pub marks : List Bool

abbrev pub repaired : Entry → List ℕ → List Bool → Repaired
repaired e c z = record { entry = e; codes = c; marks = z }

-- where no Active regulator touches the node: it is grounded, or, grounded already, the solve is refused
unfoldable pub ground_node : Bool → List ℕ → List Bool → ℕ → Repaired
ground_node true codes marks node = repaired (Singular (record { 0 = node })) codes marks
ground_node false codes marks node = repaired (Grounded (record { 0 = node })) codes (set marks node true)

-- where one does: it is freed, which is XPressure (6)
unfoldable pub free : Option ℕ → List ℕ → List Bool → ℕ → Repaired
unfolding ground_node
free (Some j) codes marks node = repaired (Freed (record { 0 = j })) (set codes j 6) marks
free None codes marks node = ground_node (get_or marks node false) codes marks node

unfoldable pub repair_at : List ℕ → Layout → List ℕ → List Bool → ℕ → Repaired
unfolding regulator_at free
repair_at s l codes marks i = free (regulator_at s l codes i) codes marks i
