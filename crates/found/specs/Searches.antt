-- Searches: the first number that a test holds of, and two searches one after the other. Definitions only.
use Rattle.std.specs.Prelude.{ℕ, zero, suc, ◌<◌, ◌≡◌, Bool, true, false, cond, Option, Some, None}

-- what the first of two searches found, else what the second did
abbrev pub or_else : Option ℕ → Option ℕ → Option ℕ
or_else (Some at) other = Some at
or_else None other = other

-- the first of k numbers, from i on, that a test holds of
unfoldable pub first_from : (ℕ → Bool) → ℕ → ℕ → Option ℕ
first_from test zero i = None
first_from test (suc k) i = cond (test i) (Some i) (first_from test k (suc i))

-- of the numbers below n
unfoldable pub first_of : (ℕ → Bool) → ℕ → Option ℕ
unfolding first_from
first_of test n = first_from test n 0

-- number i is below n, the test holds of it, and of no lower one
pub record First (test : ℕ → Bool) (n i : ℕ) : Type 0 where
  pub below : i < n
  pub holds : test i ≡ true
  pub lower : (h : ℕ) → h < i → test h ≡ false
