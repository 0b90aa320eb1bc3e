-- What the answer counts of the trial record, and what follows an entry: the trial's, or the end of the run. Definitions only.
use Rattle.std.specs.Prelude.{◌+◌, List, [], ◌∷◌, false, None}
use Rattle.std.specs.Float.{inf}
use Rattle.constants.specs.Constants as constant
use Rattle.damping.specs.declared.steps.Damping.{Damping}
use Rattle.entries.specs.declared.Entry.{Entry}
use Rattle.entries.specs.declared.Entry.TheVariants.{Freed, Grounded, Singular, Wild, Stepped, Converged}
use Rattle.entries.specs.declared.Ended.{Ended}
use Rattle.entries.specs.declared.Ended.TheVariants.{Balanced, Failed, Strayed, Limit}
use Rattle.entries.specs.declared.Tally.{Tally}
use Rattle.std.proofs.Common.{Break, Continue, ControlFlow}

-- damping starts at factor 1 with the previous change infinite
unfoldable pub damping_start : Damping
damping_start = record { factor = constant.one; previous = inf false }

-- the next trial's damping, or the end of the run
abbrev pub Going : Type 0
Going = ControlFlow Ended Damping

-- what follows an entry: a repair keeps the damping, a step gives the next one, and the others end the run
unfoldable pub going_of : Damping → Entry → Going
going_of d (Freed i) = Continue d
going_of d (Grounded i) = Continue d
going_of d (Singular i) = Break (Failed i)
going_of d (Wild p) = Break (Strayed p)
going_of d (Stepped next flip) = Continue next
going_of d (Converged flip) = Break Balanced

-- trials, freed valves and grounded nodes, with one entry more
unfoldable pub counted : Tally → Entry → Tally
counted t (Freed i) = record { trials = t.trials + 1; freed = t.freed + 1; grounded = t.grounded }
counted t (Grounded i) = record { trials = t.trials + 1; freed = t.freed; grounded = t.grounded + 1 }
counted t (Singular i) = record { trials = t.trials + 1; freed = t.freed; grounded = t.grounded }
counted t (Wild p) = record { trials = t.trials + 1; freed = t.freed; grounded = t.grounded }
counted t (Stepped next flip) = record { trials = t.trials + 1; freed = t.freed; grounded = t.grounded }
counted t (Converged flip) = record { trials = t.trials + 1; freed = t.freed; grounded = t.grounded }

unfoldable pub tallied : Tally → List Entry → Tally
unfolding counted
tallied t [] = t
tallied t (e ∷ es) = tallied (counted t e) es

-- what a list of entries is read to hold past its end
abbrev pub no_entry : Entry
no_entry = Converged None

abbrev pub none : Tally
none = record { trials = 0; freed = 0; grounded = 0 }
