-- Which trials of a solve repaired something. Definitions only.
use Rattle.std.specs.Prelude.{ℕ, Bool, List, get_or}
use Rattle.layout.specs.declared.places.Layout.{Layout}
use Rattle.entries.specs.Entries.{no_entry}
use Rattle.promises.specs.Repairs.{mends}
use Rattle.promises.specs.Trials.{run_in}

-- the ith trial freed a valve or grounded a node
unfoldable pub mended : List ℕ → Layout → ℕ → Bool
mended s l i = mends (get_or (run_in s l).entries i no_entry)
