-- Document 01, item 8: one trial, in the order of hydraulicsolver.rs. What a failed factorization leads to is a parameter, so that the solver that repairs and one
-- that stops at its first failure are two instances of one definition. Definitions only.
use Rattle.std.specs.Prelude.{ℕ, List, Float, Err, Ok}
use Rattle.linear.specs.Factorization.{factor_of, Factored}
use Rattle.substitution.specs.Substitution.{solved}
use Rattle.columns.specs.Columns.{zeros}
use Rattle.layout.specs.declared.places.Layout.{Layout}
use Rattle.numbering.specs.Numbering.{node_numbered}
use Rattle.drawing.specs.Drawing.{counting}
use Rattle.excess.specs.Excess.{excess_of}
use Rattle.assembly.specs.Assembly.{System, system, view, assemble_of}
use Rattle.state.specs.State.{State, state}
use Rattle.repair.specs.Repair.{repair_at}
use Rattle.entries.specs.declared.Entry.TheVariants.{Singular}
use Rattle.damping.specs.declared.steps.Damping.{Damping}
pub use Rattle.step.specs.Step.{Outcome, outcome, Room}
unfoldable pub use Rattle.step.specs.Step.{judged, step_entry, step_of}

-- what a factorization that stopped at a node leads to
abbrev pub Repair : Type 0
Repair = List ℕ → Layout → State → ℕ → Outcome

-- demand 3: statuses or marks change, and nothing else
unfoldable pub repair_of : Repair
unfolding repair_at
repair_of s l t i =
    let r = repair_at s l t.statuses t.grounded i in
    outcome r.entry (state t.heads t.demands t.drawn t.flows r.codes r.marks)

-- a solver that repairs nothing
unfoldable pub no_repair : Repair
no_repair s l t i = outcome (Singular (record { 0 = i })) t

-- after the factorization, which leaves f: a stop at an unknown is one at its node
unfoldable pub factored : Repair → List ℕ → Layout → Damping → State → System → List Float → Factored → Outcome
unfolding step_of node_numbered
factored repair s l d t a f (Err u) = repair s l t (node_numbered s l l.nodes u.0)
factored repair s l d t a f (Ok tt) = step_of s l d t a.g a.y (solved f l.unknowns a.rhs)

-- the system of a state: excess flows of the demands that count, then the assembly
unfoldable pub system_of : List ℕ → Layout → State → System
system_of s l t =
    let e = excess_of s l (counting l.pressures t.drawn t.demands) t.flows (zeros 64) in
    assemble_of s l (view t.heads t.flows t.statuses e) t.demands t.drawn t.grounded (system (zeros 4096) (zeros 64) (zeros 128) (zeros 128))

-- what a trial leaves in the scratch, which held whatever it held: the factors, as far as they go
unfoldable pub factors_of : List ℕ → Layout → State → List Float
unfolding system_of
factors_of s l t = (factor_of l.unknowns (system_of s l t).matrix).matrix

-- one trial
unfoldable pub trial_with : Repair → List ℕ → Layout → Damping → State → Outcome
unfolding system_of factored
trial_with repair s l d t =
    let a = system_of s l t in
    let f = factor_of l.unknowns a.matrix in
    factored repair s l d t a f.matrix f.answer

abbrev pub trial_of : List ℕ → Layout → Damping → State → Outcome
trial_of = trial_with repair_of
