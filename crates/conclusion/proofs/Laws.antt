-- The ends of a run, over plain variables. Assumes nothing.
use Prim.Native.Nat.{ℕ}
use mathlib.Core.Path.{◌≡◌, ap, ◌∙◌}
use mathlib.Core.Bool.{Bool, true, false}
use mathlib.Core.List.{List}
use lib.Ieee.{Float}
use Rattle.nodes.specs.declared.NodeIndex.{NodeIndex}
use Rattle.layout.specs.declared.places.Layout.{Layout}
use Rattle.columns.specs.Columns.{copied}
use Rattle.state.specs.State.{State}
use Rattle.drawing.specs.Drawing.{counting}
use Rattle.balance.specs.Balance.{balance_of, settled_of}
use Rattle.balance.specs.declared.Totals.{Totals}
use Rattle.entries.specs.declared.Ended.{Ended}
use Rattle.entries.specs.declared.Ended.TheVariants.{Balanced, Failed, Strayed, Limit}
use Rattle.entries.specs.declared.Tally.{Tally}
use Rattle.answers.specs.declared.Answer.{Answer}
use Rattle.answers.specs.Answers.{Lent, lent, failed_of}
use Rattle.conclusion.specs.Conclusion.{emptied, unsolved, delivered, told}

module _ (s : List ℕ) (l : Layout) (trials : ℕ) (b : Lent) (t : State) (tally : Tally) (bytes : List ℕ) (ended : Ended) where
  pub told_balanced : (w : Totals) (counted h d d' q : List Float) (codes : List ℕ) → ended ≡ Balanced → w ≡ balance_of s l t.demands t.flows
      → counted ≡ counting l.pressures t.drawn t.demands → h ≡ copied l.nodes t.heads b.heads → d ≡ copied l.nodes counted b.demands → d' ≡ settled_of l.nodes d
      → q ≡ copied l.links t.flows b.flows → codes ≡ copied l.links t.statuses b.statuses
      → record {
        answer = record { number = 0; place = 0; trials = tally.trials; freed = tally.freed; grounded = tally.grounded; demand = w.demand; supply = w.supply; error = w.error };
        lent = lent h d' q codes bytes (emptied b.scratch);
      } ≡ told s l trials b t tally bytes ended
  unfolding told delivered
  told_balanced w counted h d d' q codes e eb en eh ed es eq ec =
      let k : d' ≡ settled_of l.nodes (copied l.nodes (counting l.pressures t.drawn t.demands) b.demands) =
      es ∙ ap (settled_of l.nodes) (ed ∙ ap (λ (x : List Float). copied l.nodes x b.demands) en) in
      rw (e, ← eb, eh, k, eq, ec)

  pub told_failed : (a : Answer) (node : NodeIndex) → ended ≡ Failed node → a ≡ failed_of 6 node.0 tally
      → record { answer = a; lent = lent b.heads b.demands b.flows b.statuses bytes (emptied b.scratch) } ≡ told s l trials b t tally bytes ended
  unfolding told unsolved
  told_failed a node e ea = rw (e, ea)

  pub told_strayed : (a : Answer) (place : ℕ) → ended ≡ Strayed place → a ≡ failed_of 7 place tally
      → record { answer = a; lent = lent b.heads b.demands b.flows b.statuses bytes (emptied b.scratch) } ≡ told s l trials b t tally bytes ended
  unfolding told unsolved
  told_strayed a place e ea = rw (e, ea)

  pub told_limit : (a : Answer) → ended ≡ Limit → a ≡ failed_of 8 trials tally
      → record { answer = a; lent = lent b.heads b.demands b.flows b.statuses bytes (emptied b.scratch) } ≡ told s l trials b t tally bytes ended
  unfolding told unsolved
  told_limit a e ea = rw (e, ea)
