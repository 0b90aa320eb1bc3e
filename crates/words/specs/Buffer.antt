-- A text put into a buffer. Definitions only.
use Rattle.std.specs.Prelude.{ℕ, ◌+◌, ◌≡◌, List, [], ◌∷◌, length, set}

-- the buffer with the bytes of a text, one after the other, from `at` on; the rest as it was
unfoldable pub placed : List ℕ → ℕ → List ℕ → List ℕ
placed out at [] = out
placed out at (b ∷ text) = placed (set out at b) (at + 1) text

-- a text was put at `at`, and `end` is the position after it
pub record Put (old : List ℕ) (at : ℕ) (text new : List ℕ) (end : ℕ) : Type 0 where
  pub bytes : new ≡ placed old at text
  pub next : end ≡ at + length text
