-- What each end of a run tells and changes (document 01, "What the desk is told"). Definitions only.
use Rattle.std.specs.Prelude.{ℕ, List, ◌++◌, drop, Float}
use Rattle.layout.specs.declared.places.Layout.{Layout}
use Rattle.columns.specs.Columns.{zeros, copied}
use Rattle.state.specs.State.{State}
use Rattle.drawing.specs.Drawing.{counting}
use Rattle.balance.specs.Balance.{balance_of, settled_of}
use Rattle.entries.specs.declared.Ended.{Ended}
use Rattle.entries.specs.declared.Ended.TheVariants.{Balanced, Failed, Strayed, Limit}
use Rattle.entries.specs.declared.Tally.{Tally}
use Rattle.answers.specs.Answers.{Lent, lent, Solved, failed_of}

-- the first 4,096 numbers +0.0; those past them stay
unfoldable pub emptied : List Float → List Float
emptied x = zeros 4096 ++ drop 4096 x

-- 6, 7 and 8 change only the record and the scratch
unfoldable pub unsolved : ℕ → ℕ → Tally → List ℕ → Lent → Solved
unfolding failed_of emptied
unsolved number place tally bytes b =
    record {
      answer = failed_of number place tally;
      lent = lent b.heads b.demands b.flows b.statuses bytes (emptied b.scratch);
    }

-- 0: the balance by what is asked, then the results are written, then each demand, the one that counts, gains +0.0
unfoldable pub delivered : List ℕ → Layout → Lent → State → Tally → List ℕ → Solved
unfolding copied emptied
delivered s l b t tally bytes =
    let w = balance_of s l t.demands t.flows in
    record {
      answer = record { number = 0; place = 0; trials = tally.trials; freed = tally.freed; grounded = tally.grounded; demand = w.demand; supply = w.supply; error = w.error };
      lent =
          lent (copied l.nodes t.heads b.heads) (settled_of l.nodes (copied l.nodes (counting l.pressures t.drawn t.demands) b.demands))
          (copied l.links t.flows b.flows) (copied l.links t.statuses b.statuses) bytes (emptied b.scratch);
    }

-- how the end of a run of at most so many trials is told
unfoldable pub told : List ℕ → Layout → ℕ → Lent → State → Tally → List ℕ → Ended → Solved
unfolding delivered unsolved
told s l trials b t tally bytes Balanced = delivered s l b t tally bytes
told s l trials b t tally bytes (Failed i) = unsolved 6 i.0 tally bytes b
told s l trials b t tally bytes (Strayed place) = unsolved 7 place tally bytes b
told s l trials b t tally bytes Limit = unsolved 8 trials tally bytes b
