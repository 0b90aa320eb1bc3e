-- `starts::start_columns` meets its contract. Assumes nothing.
use borrow.Author.Rules.{rules}
use mathlib.Core.Path.{◌≡◌}
use mathlib.Core.Bool.{false}
use mathlib.Core.List.{List}
use Prim.Native.Nat.{ℕ}
use lib.ListN.{replicate}
use lib.Ieee.{Float}
use Rattle.layout.specs.declared.places.Layout.{Layout}
use Rattle.columns.specs.Columns.{zeros}
use Rattle.state.specs.State.{state, heads_from, demands_from, flows_from, codes_from}
use Rattle.starts.specs.Start.{start_of}
use Rattle.starts.proofs.start_columns.Goals as goal

started : (s : List ℕ) (l : Layout) (h d q : List Float) (codes : List ℕ) → h ≡ heads_from s l l.nodes (zeros 64) → d ≡ demands_from s l l.nodes (zeros 64)
    → q ≡ flows_from s l l.links (zeros 128) → codes ≡ codes_from s l l.links (replicate 128 0) → state h d d q codes (replicate 64 false) ≡ start_of s l
unfolding start_of
started s l h d q codes eh ed eq ec = rw (eh, ed, eq, ec)

pub returns : goal.returns
unfolding zeros
returns c = started c.args.sheet.now c.args.l _ _ _ _ c.start_nodes.ensures.heads c.start_nodes.ensures.demands c.start_links.ensures.flows c.start_links.ensures.statuses
