-- `fills::fill_with` meets its contract. Assumes nothing.
use Rattle.std.proofs.Common.{◌≡◌, ℕ, ◌<◌, length}
use Rattle.fills.proofs.Laws.{Filled}
use Rattle.fills.proofs.fill_with.Given as goal

abbrev pub invariant-loop-i : goal.invariant-loop-i
invariant-loop-i g l =
    (length l.column ≡ length l.initial.column)
    × ((f : ℕ → _) → ((i : ℕ) (v : _) → i < l.n → goal.F-post g l.value i v → v ≡ f i) → Filled f l.n l.initial.column l.column l.i)
