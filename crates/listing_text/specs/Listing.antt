-- The whole listing of a sheet (document 01, "The listing program"). Definitions only.
use Rattle.std.specs.Prelude.{ℕ, List, [], ◌++◌, cond, eqb, replicate, Float, Err, Ok}
use Rattle.sheet.specs.Read.{read_of, Reading}
use Rattle.layout.specs.declared.places.Layout.{Layout}
use Rattle.columns.specs.Columns.{zeros}
use Rattle.answers.specs.Answers.{Lent, lent}
use Rattle.answers.specs.declared.Answer.{Answer}
use Rattle.solver.specs.Solve.{solve_of}
use Rattle.text.specs.Lines.{answer_line, record_lines}
use Rattle.results.specs.Lines.{node_lines, link_lines, balance_line}

-- A, then T for each entry of the record
unfoldable pub head_lines : Answer → List ℕ → List ℕ
head_lines a entries = answer_line a.number a.place a.trials a.freed a.grounded ++ record_lines entries a.trials

-- N for each node, L for each link, then B
unfoldable pub result_lines : Layout → Answer → List Float → List Float → List Float → List ℕ → List ℕ
result_lines l a heads demands flows statuses =
    node_lines heads demands l.nodes ++ link_lines flows statuses l.links ++ balance_line a.demand a.supply a.error

-- results for number 0 alone, of a sheet that was read
unfoldable pub results_for : Reading → Answer → List Float → List Float → List Float → List ℕ → List ℕ
unfolding result_lines
results_for (Err r) a heads demands flows statuses = []
results_for (Ok l) a heads demands flows statuses = cond (eqb a.number 0) (result_lines l a heads demands flows statuses) []

-- all lines, of a reading, an answer and what was lent after it
unfoldable pub lines_of : Reading → Answer → List Float → List Float → List Float → List ℕ → List ℕ → List ℕ
unfolding head_lines results_for
lines_of reading a heads demands flows statuses entries = head_lines a entries ++ results_for reading a heads demands flows statuses

-- zeros for what is lent, enough for every good sheet
unfoldable pub blank : Lent
blank = lent (zeros 64) (zeros 64) (zeros 128) (replicate 128 0) (replicate 800 0) (zeros 4096)

unfoldable pub listing_of : List ℕ → List ℕ
unfolding lines_of
listing_of s =
    let o = solve_of s blank in
    lines_of (read_of s) o.answer o.lent.heads o.lent.demands o.lent.flows o.lent.statuses o.lent.entries
