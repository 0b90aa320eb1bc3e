-- What stands at the start of a buffer that a text was put into. Assumes nothing.
use Prim.Native.Nat.{ℕ, ◌+◌, ◌≤◌}
use mathlib.Core.Path.{◌≡◌, ◌∙◌}
use mathlib.Core.List.{List, ◌++◌}
use native.Mathlib.Omega.{arith}
use lib.Ieee.{Float, to_bits, binary64}
use lib.ListN.{length, take, drop}
use Rattle.std.proofs.Math.Seq.{take-append_seam}
use Rattle.words.specs.Buffer.{placed}
use Rattle.words.specs.Digits.{hex_of}
use Rattle.words.specs.Words.{float_word}
use Rattle.words.proofs.DigitLaws.{hex_length}
use Rattle.text.specs.Lines.{answer_line}
use Rattle.text.proofs.LineLaws.{answer_length}
use Rattle.words.proofs.Laws.{placed_parts}

-- the text, and what the buffer had behind it
parts : (old new text : List ℕ) → new ≡ placed old 0 text → length text ≤ length old → new ≡ text ++ drop (0 + length text) old
parts old new text put h = put ∙ placed_parts old 0 text (omega (arith, h))

pub put_first : (old new text : List ℕ) (n : ℕ) → new ≡ placed old 0 text → n ≡ 0 + length text → n ≤ length old → take n new ≡ text
put_first old new text n put end h =
    let whole : n ≡ length text = omega (arith, end) in
    rw (whole, parts old new text put (omega (arith, whole, h))) (take-append_seam text (drop (0 + length text) old))

-- the digits stand behind a space
pub put_digits : (old new : List ℕ) (x : Float) → new ≡ placed old 0 (float_word x) → 17 ≤ length old → take 16 (drop 1 new) ≡ hex_of (to_bits binary64 x)
unfolding float_word
put_digits old new x put h =
    let digits = hex_of (to_bits binary64 x) in
    let rest = drop (0 + length (float_word x)) old in
    let few : length digits ≡ 16 = hex_length (to_bits binary64 x) in
    rw (parts old new (float_word x) put (omega (arith, few, h)), ← few) (take-append_seam digits rest)

pub line_few : (number place trials freed grounded n : ℕ) → n ≡ 0 + length (answer_line number place trials freed grounded) → n ≤ 128
line_few number place trials freed grounded n end = omega (arith, end, answer_length number place trials freed grounded)
