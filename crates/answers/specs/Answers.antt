-- The answer and the six lent buffers (document 01, "What the desk is told"), and refusals before any trial. Definitions only.
use Rattle.std.specs.Prelude.{ℕ, ◌*◌, ◌≤◌, List, cond, ltb, length, Float, None, Option, Some}
use Rattle.layout.specs.declared.places.Layout.{Layout}
use Rattle.constants.specs.Constants as constant
use Rattle.entries.specs.Entries.{none}
use Rattle.entries.specs.declared.Tally.{Tally}
use Rattle.answers.specs.declared.Answer.{Answer}

-- what the caller lends
pub record Lent : Type 0 where
  pub heads : List Float
  pub demands : List Float
  pub flows : List Float
  pub statuses : List ℕ
  pub entries : List ℕ
  pub scratch : List Float

abbrev pub lent : List Float → List Float → List Float → List ℕ → List ℕ → List Float → Lent
lent h d q c r x = record { heads = h; demands = d; flows = q; statuses = c; entries = r; scratch = x }

-- the answer, and what was lent after it
pub record Solved : Type 0 where
  pub answer : Answer
  pub lent : Lent

-- refusal 5: the lowest place of a buffer that is too short, by the buffers' lengths
unfoldable pub too_short : Layout → ℕ → ℕ → ℕ → ℕ → ℕ → ℕ → ℕ → Option ℕ
too_short l trials heads demands flows statuses entries scratch =
    cond (ltb heads l.nodes) (Some 0)
    (cond (ltb demands l.nodes) (Some 1)
    (cond (ltb flows l.links) (Some 2)
    (cond (ltb statuses l.links) (Some 3)
    (cond (ltb entries (4 * trials)) (Some 4)
    (cond (ltb scratch 4096) (Some 5) None)))))

-- an answer without results: a number, its place and the counts, with totals of +0.0
unfoldable pub failed_of : ℕ → ℕ → Tally → Answer
failed_of number place t =
    record { number = number; place = place; trials = t.trials; freed = t.freed; grounded = t.grounded; demand = constant.zero; supply = constant.zero; error = constant.zero }

-- numbers 1 to 5 change nothing lent and report zero counts
unfoldable pub refused_of : ℕ → ℕ → Lent → Solved
unfolding failed_of
refused_of number place b = record { answer = failed_of number place none; lent = b }

-- no buffer is too short
pub record Enough (l : Layout) (trials : ℕ) (b : Lent) : Type 0 where
  pub heads : l.nodes ≤ length b.heads
  pub demands : l.nodes ≤ length b.demands
  pub flows : l.links ≤ length b.flows
  pub statuses : l.links ≤ length b.statuses
  pub entries : 4 * trials ≤ length b.entries
  pub scratch : 4096 ≤ length b.scratch
