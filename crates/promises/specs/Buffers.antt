-- What a solve leaves in the lent buffers and in the answer, by its number. Definitions only.
use Rattle.std.specs.Prelude.{ℕ, ◌*◌, ◌≤◌, ◌<◌, ◌≡◌, List, get_or}
use Rattle.std.specs.Float.{nan}
use Rattle.constants.specs.Arithmetic.{plus}
use Rattle.constants.specs.Constants as constant
use Rattle.layout.specs.declared.places.Layout.{Layout}
use Rattle.state.specs.State.{State}
use Rattle.drawing.specs.Drawing.{counting}
use Rattle.balance.specs.Balance.{balance_of}
use Rattle.answers.specs.Answers.{Lent, Solved}

-- nothing lent changes, and the counts are zero
pub record Untouched (b : Lent) (o : Solved) : Type 0 where
  pub lent : o.lent ≡ b
  pub trials : o.answer.trials ≡ 0
  pub freed : o.answer.freed ≡ 0
  pub grounded : o.answer.grounded ≡ 0

-- the four buffers for results are as they were
pub record Withheld (b : Lent) (o : Solved) : Type 0 where
  pub heads : o.lent.heads ≡ b.heads
  pub demands : o.lent.demands ≡ b.demands
  pub flows : o.lent.flows ≡ b.flows
  pub statuses : o.lent.statuses ≡ b.statuses

-- the totals are +0.0
pub record NoTotals (o : Solved) : Type 0 where
  pub demand : o.answer.demand ≡ constant.zero
  pub supply : o.answer.supply ≡ constant.zero
  pub error : o.answer.error ≡ constant.zero

-- any solve
pub record Buffers (b : Lent) (o : Solved) : Type 0 where
  pub number : o.answer.number ≤ 8
  pub untouched : 1 ≤ o.answer.number → o.answer.number ≤ 5 → Untouched b o
  pub withheld : 6 ≤ o.answer.number → Withheld b o
  pub totals : 1 ≤ o.answer.number → NoTotals o
  pub cleared : 1 ≤ o.answer.trials → (i : ℕ) → i < 4096 → get_or o.lent.scratch i nan ≡ constant.zero
  pub scratch_past : (i : ℕ) → 4096 ≤ i → get_or o.lent.scratch i nan ≡ get_or b.scratch i nan
  pub entries_past : (i : ℕ) → 4 * o.answer.trials ≤ i → get_or o.lent.entries i 0 ≡ get_or b.entries i 0

-- the first n entries of a column are those of one, the later ones those of another
pub record Over {A : Type 0} (n : ℕ) (z : A) (from to column : List A) : Type 0 where
  pub first : (i : ℕ) → i < n → get_or column i z ≡ get_or from i z
  pub later : (i : ℕ) → n ≤ i → get_or column i z ≡ get_or to i z

-- the results are those of a state, one entry a node or a link, over what was lent; each demand that counts, drawn where a PD stands, gained +0.0; the totals are the state's
-- balance, by what is asked
pub record Delivered (s : List ℕ) (l : Layout) (t : State) (b : Lent) (o : Solved) : Type 0 where
  pub heads : Over l.nodes nan t.heads b.heads o.lent.heads
  pub demands : (i : ℕ) → i < l.nodes → get_or o.lent.demands i nan ≡ plus (get_or (counting l.pressures t.drawn t.demands) i nan) constant.zero
  pub demands_later : (i : ℕ) → l.nodes ≤ i → get_or o.lent.demands i nan ≡ get_or b.demands i nan
  pub flows : Over l.links nan t.flows b.flows o.lent.flows
  pub statuses : Over l.links 0 t.statuses b.statuses o.lent.statuses
  pub demand : o.answer.demand ≡ (balance_of s l t.demands t.flows).demand
  pub supply : o.answer.supply ≡ (balance_of s l t.demands t.flows).supply
  pub error : o.answer.error ≡ (balance_of s l t.demands t.flows).error
