-- The lines one after the other: a turn of the loop, and how long the lines are at most. Assumes nothing.
use Prim.Native.Nat.{ℕ, zero, suc, ◌+◌, ◌*◌, ◌≤◌}
use mathlib.Core.Path.{◌≡◌}
use mathlib.Core.List.{List}
use native.Mathlib.Numerals.{add-one}
use native.Mathlib.Omega.{arith}
use lib.ListN.{length, get_or, length-append}
use Rattle.patterns.specs.Bytes.{little_endian}
use Rattle.words.specs.Buffer.{Put}
use Rattle.words.proofs.Laws.{nothing, then}
use Rattle.words.proofs.WordLaws.{number_length}
use Rattle.text.specs.Lines.{answer_line, record_line, record_lines}

module _ {old out new : List ℕ} {at p r : ℕ} where
  pub record_turn : (s : List ℕ) (i n : ℕ) → n ≡ little_endian 2 s (4 * i + 2) → Put old at (record_lines s i) out p → Put out p (record_line (get_or s (4 * i) 0) (get_or s (4 * i + 1) 0) n) new r → Put old at (record_lines s (i + 1)) new r
  unfolding record_lines
  record_turn s i n e x y = rw (add-one, ← e) (then x y)

pub no_records : (s out : List ℕ) (at : ℕ) → Put out at (record_lines s 0) out at
unfolding record_lines
no_records s out at = nothing out at

pub answer_length : (number place trials freed grounded : ℕ) → length (answer_line number place trials freed grounded) ≤ 128
unfolding answer_line
answer_length a b c d e = simp length-append (omega (arith, number_length a, number_length b, number_length c, number_length d, number_length e))

record_length : (first second n : ℕ) → length (record_line first second n) ≤ 128
unfolding record_line
record_length a b n = simp length-append (omega (arith, number_length n))

pub records_length : (s : List ℕ) (k : ℕ) → length (record_lines s k) ≤ 128 * k
unfolding record_lines
records_length s zero = omega arith
records_length s (suc k) = simp length-append (omega (arith, records_length s k, record_length (get_or s (4 * k) 0) (get_or s (4 * k + 1) 0) (little_endian 2 s (4 * k + 2))))
