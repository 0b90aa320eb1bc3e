-- Room for more digits. Definitions only.
use Rattle.std.specs.Prelude.{ℕ, ◌+◌, ◌*◌, ◌^◌, ◌≤◌}

-- k digits more keep n below 10 ^ 17
unfoldable pub Room : ℕ → ℕ → Type 0
Room n k = (n + 1) * 10 ^ k ≤ 10 ^ 17
