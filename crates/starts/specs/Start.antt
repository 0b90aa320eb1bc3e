-- state.rs: the columns that a solve starts from, whole. Definitions only.
use Rattle.std.specs.Prelude.{ℕ, List, false, replicate}
use Rattle.layout.specs.declared.places.Layout.{Layout}
use Rattle.columns.specs.Columns.{zeros}
use Rattle.state.specs.State.{State, state, heads_from, demands_from, flows_from, codes_from}

-- as the sheet gives them: drawn flows are the demands, and no node is grounded
unfoldable pub start_of : List ℕ → Layout → State
start_of s l =
    state (heads_from s l l.nodes (zeros 64)) (demands_from s l l.nodes (zeros 64)) (demands_from s l l.nodes (zeros 64))
    (flows_from s l l.links (zeros 128)) (codes_from s l l.links (replicate 128 0)) (replicate 64 false)
