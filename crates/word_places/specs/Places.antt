-- The places of a line's first ten words. Definitions only.
use Rattle.std.specs.Prelude.{ℕ, ◌<◌, ◌≡◌, List, length, get_or}
use Rattle.line_words.specs.declared.Word.{Word}
use Rattle.line_words.specs.Words.{word_at}

pub record Words (l : List ℕ) (places : List Word) : Type 0 where
  pub long : length places ≡ 10
  pub each : (k : ℕ) → k < 10 → get_or places k (record { start = 0; end = 0 }) ≡ word_at l k
