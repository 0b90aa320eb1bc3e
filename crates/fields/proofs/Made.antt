-- What the code puts together from its calls' results is what the definitions say, over plain variables. Assumes nothing.
use mathlib.Core.Path.{◌≡◌}
use mathlib.Core.Bool.{Bool, ◌&&◌, ◌||◌}
use mathlib.Core.List.{List}
use Prim.Native.Nat.{ℕ, ◌+◌, ◌*◌}
use native.Mathlib.Numerals.{add-one}
use lib.Dec.{eqb, leb, ltb}
use lib.Ieee.{Float, lt, le}
use Rattle.patterns.specs.Bytes.{from_bytes}
use Rattle.records.specs.Records.{byte_at, pair_at}
use Rattle.fields.specs.Fields.{null, within, all_within, options_good, pressures_good, node_good, link_codes, link_numbers, link_good}
use Rattle.fields.specs.declared.fields.Bounds.{Bounds}

module _ (s : List ℕ) where
  pub options_good_lem : (b : Bounds) (r : Bool) (x y z : Float) (t : ℕ) → r ≡ all_within b 3 s 2 → x ≡ from_bytes s 2 → y ≡ from_bytes s 10 → z ≡ from_bytes s 18 → t ≡ pair_at s 26 → (r && lt null x && le null y && le null z && leb 1 t && leb t b.trials && leb (byte_at s 28) b.unit) ≡ options_good b s
  unfolding options_good
  options_good_lem b r x y z t a c d e f = rw (a, c, d, e, f)

  pub pressures_good_lem : (b : Bounds) (r : Bool) (x y : Float) → r ≡ all_within b 2 s 31 → x ≡ from_bytes s 31 → y ≡ from_bytes s 39 → (r && le x y) ≡ pressures_good b s
  unfolding pressures_good
  pressures_good_lem b r x y a c d = rw (a, c, d)

  pub node_good_lem : (b : Bounds) (at : ℕ) (r : Bool) → r ≡ all_within b 5 s (at + 4) → (leb (byte_at s (at + 2)) 2 && leb (byte_at s (at + 3)) 1 && r && leb (byte_at s (at + 44)) 1) ≡ node_good b s at
  unfolding node_good
  node_good_lem b at r a = rw a

  pub link_codes_lem : (n at x y : ℕ) → x ≡ pair_at s (at + 5) → y ≡ pair_at s (at + 7) → (leb (byte_at s (at + 2)) 6 && leb (byte_at s (at + 3)) 1 && leb (byte_at s (at + 4)) 7 && ltb x n && ltb y n) ≡ link_codes n s at
  unfolding link_codes
  link_codes_lem n at x y a b = rw (a, b)

  pub link_numbers_lem : (b : Bounds) (at : ℕ) (r : Bool) (x y z : Float) → r ≡ all_within b 5 s (at + 9) → x ≡ from_bytes s (at + 17) → y ≡ from_bytes s (at + 33) → z ≡ from_bytes s (at + 25) → (r && le null x && le null y && (eqb (byte_at s (at + 2)) 0 || le b.diameter z)) ≡ link_numbers b s at
  unfolding link_numbers
  link_numbers_lem b at r x y z a c d e = rw (a, c, d, e)

  pub link_good_lem : (b : Bounds) (n at : ℕ) (x y : Bool) → x ≡ link_codes n s at → y ≡ link_numbers b s at → (x && y) ≡ link_good b n s at
  unfolding link_good
  link_good_lem b n at x y a c = rw (a, c)

-- one more float
pub within_more : (b : Bounds) (i : ℕ) (s : List ℕ) (at : ℕ) (good w : Bool) → good ≡ all_within b i s at → w ≡ within b (from_bytes s (at + 8 * i)) → (good && w) ≡ all_within b (i + 1) s at
unfolding all_within
within_more b i s at good w e f = rw (add-one i, e, f)
