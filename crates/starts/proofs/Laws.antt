-- How long the first columns are, whatever the sheet. Assumes nothing.
use Prim.Native.Nat.{ℕ}
use mathlib.Core.Path.{◌≡◌, ◌∙◌}
use mathlib.Core.List.{List}
use mathlib.Core.Bool.{false}
use lib.ListN.{length, length-replicate}
use Rattle.layout.specs.declared.places.Layout.{Layout}
use Rattle.columns.specs.Columns.{zeros}
use Rattle.columns.proofs.Laws.{zeros_long}
use Rattle.state.specs.State.{State}
use Rattle.state.proofs.Kept.{heads_long, demands_long, flows_long, codes_long}
use Rattle.starts.specs.Start.{start_of}

pub record Full (t : State) : Type 0 where
  pub heads : length t.heads ≡ 64
  pub demands : length t.demands ≡ 64
  pub drawn : length t.drawn ≡ 64
  pub flows : length t.flows ≡ 128
  pub statuses : length t.statuses ≡ 128
  pub grounded : length t.grounded ≡ 64

pub start_full : (s : List ℕ) (l : Layout) → Full (start_of s l)
unfolding start_of
start_full s l =
    record {
      heads = heads_long s l l.nodes (zeros 64) ∙ zeros_long 64;
      demands = demands_long s l l.nodes (zeros 64) ∙ zeros_long 64;
      drawn = demands_long s l l.nodes (zeros 64) ∙ zeros_long 64;
      flows = flows_long s l l.links (zeros 128) ∙ zeros_long 128;
      statuses = codes_long s l l.links _ ∙ length-replicate {A = ℕ} 128 0;
      grounded = length-replicate 64 false;
    }

pub full : (t u : State) → t ≡ u → Full u → Full t
full t u e f = rw e f
