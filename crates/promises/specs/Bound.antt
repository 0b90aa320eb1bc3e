-- What the bound on repairs counts. Definitions only.
use Rattle.std.specs.Prelude.{ℕ, suc, List, [], ◌∷◌, Bool, cond, ◌&&◌, ◌||◌, not, false, eqb, get_or}
use Rattle.layout.specs.declared.places.Layout.{Layout}
use Rattle.nodes.specs.Nodes.{in_service}
use Rattle.links.specs.Links.{regulator}
use Rattle.state.specs.State.{State}
use Rattle.entries.specs.declared.Entry.{Entry}
use Rattle.promises.specs.Count.{count}
use Rattle.promises.specs.Repairs.{fails}
use Rattle.promises.specs.Marks.{marked}

-- how many entries fail before the first that does not
unfoldable pub failing : List Entry → ℕ
unfolding fails
failing [] = 0
failing (e ∷ es) = cond {A = ℕ} (fails e) (suc (failing es)) 0

-- the ith entry's letters, in the bytes of a record, are VF, GN or SG
unfoldable pub fails_at : List ℕ → ℕ → Bool
fails_at bytes i = marked 86 70 bytes i || marked 71 78 bytes i || marked 83 71 bytes i

-- V: the PRVs and PSVs that are Active (2) in a state
unfoldable pub is_active : List ℕ → Layout → List ℕ → ℕ → Bool
is_active s l codes j = regulator s l j && eqb (get_or codes j 0) 2

unfoldable pub active : List ℕ → Layout → State → ℕ
unfolding is_active count
active s l t = count l.links (is_active s l t.statuses)

-- the junctions in service that are not grounded
unfoldable pub is_loose : List ℕ → Layout → List Bool → ℕ → Bool
is_loose s l marks i = in_service s l i && not (get_or marks i false)

unfoldable pub loose : List ℕ → Layout → State → ℕ
unfolding is_loose count
loose s l t = count l.nodes (is_loose s l t.grounded)
