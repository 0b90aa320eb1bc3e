-- Where a node's grounded mark comes from. Definitions only.
use Rattle.std.specs.Prelude.{ℕ, ◌-◌, ◌<◌, ◌≡◌, true, false, List, get_or}
use Rattle.layout.specs.declared.places.Layout.{Layout}
use Rattle.entries.specs.Entries.{no_entry}
use Rattle.entries.specs.declared.Entry.TheVariants.{Grounded}
use Rattle.answers.specs.Answers.{Solved}
use Rattle.promises.specs.Trials.{run_in, point_in}
use Rattle.promises.specs.Marks.{marked, number_at}

-- node v carries the grounded mark before trial i
abbrev pub Carries : List ℕ → Layout → ℕ → ℕ → Type 0
Carries s l i v = get_or (point_in s l i).state.grounded v false ≡ true

-- an earlier entry than the ith is the GN of node v
pub record Entered (s : List ℕ) (l : Layout) (i v : ℕ) : Type 0 where
  pub entry : ℕ
  pub earlier : entry < i
  pub is : get_or (run_in s l).entries entry no_entry ≡ Grounded (record { 0 = v })

-- the same of the bytes of a record
pub record GnBefore (bytes : List ℕ) (i v : ℕ) : Type 0 where
  pub entry : ℕ
  pub earlier : entry < i
  pub mark : marked 71 78 bytes entry ≡ true
  pub number : number_at bytes entry ≡ v

-- the last entry of the record is the SG of the node that the answer names, and an earlier one is its GN
pub record SixShown (o : Solved) : Type 0 where
  pub mark : marked 83 71 o.lent.entries (o.answer.trials - 1) ≡ true
  pub number : number_at o.lent.entries (o.answer.trials - 1) ≡ o.answer.place
  pub grounding : GnBefore o.lent.entries (o.answer.trials - 1) o.answer.place
