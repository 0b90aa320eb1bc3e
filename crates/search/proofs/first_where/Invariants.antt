-- `search::first_where` meets its contract: what is left to search answers for the whole. Assumes nothing.
use Rattle.std.proofs.Common.{◌≡◌, ℕ, Bool, ◌<◌, ◌-◌}
use Rattle.found.specs.Searches.{first_from, first_of}
use Rattle.search.proofs.first_where.Given as goal

abbrev pub invariant-loop-i : goal.invariant-loop-i
invariant-loop-i g l =
    (t : ℕ → Bool) → ((i : ℕ) (b : Bool) → i < l.n → goal.F-post g l.test i b → b ≡ t i) → first_from t (l.n - l.i) l.i ≡ first_of t l.n
