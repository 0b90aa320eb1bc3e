-- What was put is what crate records reads. Assumes nothing.
use Prim.Native.Nat.{ℕ, zero, suc, ◌+◌, ◌/◌, ◌%◌, ◌^◌, ◌≤◌, ◌<◌}
use mathlib.Core.Path.{◌≡◌, refl, ap, ◌∙◌, subst}
use mathlib.Core.Bool.{Bool, true, false}
use mathlib.Core.List.{List, [], ◌∷◌, ◌++◌, append_assoc}
use native.Mathlib.Nat.{pow-suc}
use native.Mathlib.Omega.{arith}
use lib.Dec.{T, eqb}
use lib.Ieee.{Float, binary64, fits, of_bits, to_bits}
use lib.Ieee.Bits.{of_bits-to_bits, to_bits-lt}
use lib.ListN.{length, take, drop}
use lib.Seq.{get_or-append-add, length-take-le}
use Rattle.patterns.specs.Bytes.{little_endian, from_bytes}
use Rattle.codes.proofs.Back.{node_back, link_back, status_back}
use Rattle.words.specs.Buffer.{placed}
use Rattle.words.proofs.Laws.{placed_parts}
use Rattle.records.specs.Records.{byte_at, pair_at, options_of, pressures_of, node_at, link_at}
use Rattle.records.specs.declared.records.Options.{Options}
use Rattle.records.specs.declared.records.Pressures.{Pressures}
use Rattle.records.specs.declared.records.Node.{Node}
use Rattle.records.specs.declared.records.Link.{Link}
use Rattle.spelled.specs.Texts.{bytes_of}
use Rattle.sheet_bytes.specs.Bytes.{number_bytes, float_bytes, flag_byte, options_bytes, pressures_bytes, node_bytes, link_bytes}
use Rattle.sheet_bytes.proofs.Lengths.{options_length, pressures_length, node_length, link_length}
use Rattle.sheet_bytes.specs.Back.{OptionsFit, PressuresFit, NodeFits, LinkFits, ReadBack}

-- ---- a number, a float and a flag come back from their bytes

past : (k : ℕ) (xs ys : List ℕ) (j : ℕ) → little_endian k (xs ++ ys) (length xs + j) ≡ little_endian k ys j
unfolding little_endian
past zero xs ys j = refl
past (suc k) xs ys j =
    let e : length xs + j + 1 ≡ length xs + (j + 1) = omega arith in
    rw (get_or-append-add xs ys j 0, e, past k xs ys (j + 1))

pub number_back : (k n : ℕ) → n < 256 ^ k → little_endian k (number_bytes k n) 0 ≡ n
unfolding little_endian number_bytes
number_back zero n h = omega arith
number_back (suc k) n h =
    let e : little_endian k (n % 256 ∷ number_bytes k (n / 256)) 1 ≡ n / 256 = past k (n % 256 ∷ []) (number_bytes k (n / 256)) 0 ∙ number_back k (n / 256) (omega (arith, pow-suc 256 k)) in
    rw e (omega arith)

pub float_back : (x : Float) → T (fits binary64 x) → from_bytes (float_bytes x) 0 ≡ x
unfolding from_bytes float_bytes
float_back x h = rw (number_back 8 (to_bits binary64 x) (omega (arith, to_bits-lt binary64 x h))) (of_bits-to_bits binary64 x h)

pub flag_back : (flag : Bool) → eqb (flag_byte flag) 1 ≡ flag
unfolding flag_byte
flag_back true = refl
flag_back false = refl

-- ---- fields behind other bytes

byte_past : (xs ys : List ℕ) (j : ℕ) → byte_at (xs ++ ys) (length xs + j) ≡ byte_at ys j
byte_past xs ys j = get_or-append-add xs ys j 0

pair_past : (xs ys : List ℕ) (j : ℕ) → pair_at (xs ++ ys) (length xs + j) ≡ pair_at ys j
unfolding pair_at
pair_past xs ys j = past 2 xs ys j

float_past : (xs ys : List ℕ) (j : ℕ) → from_bytes (xs ++ ys) (length xs + j) ≡ from_bytes ys j
unfolding from_bytes
float_past xs ys j = ap (of_bits binary64) (past 8 xs ys j)

-- ---- each record, whatever stands before and behind it

pub options_in_lem : (ys : List ℕ) (o : Options) → OptionsFit o → options_of (options_bytes o ++ ys) ≡ o
unfolding options_of pair_at options_bytes float_bytes number_bytes bytes_of from_bytes little_endian
options_in_lem ys o f =
    let u : o.unit % 256 ≡ o.unit = omega (arith, f.unit) in
    rw (float_back o.accuracy f.accuracy, float_back o.damping f.damping, float_back o.change f.change, number_back 2 o.trials f.trials, u)

pressures_first : (ys : List ℕ) (p : Pressures) → PressuresFit p → (from_bytes (pressures_bytes p ++ ys) 2 ≡ p.minimum) × (from_bytes (pressures_bytes p ++ ys) 10 ≡ p.required)
unfolding pressures_bytes float_bytes number_bytes bytes_of from_bytes little_endian
pressures_first ys p f = (float_back p.minimum f.minimum, float_back p.required f.required)

pub pressures_in_lem : (xs ys : List ℕ) (p : Pressures) → PressuresFit p → length xs ≡ 29 → pressures_of (xs ++ pressures_bytes p ++ ys) ≡ p
unfolding pressures_of
pressures_in_lem xs ys p f h =
    let a : 31 ≡ length xs + 2 = omega arith in
    let b : 39 ≡ length xs + 10 = omega arith in
    let s : List ℕ = pressures_bytes p ++ ys in
    let m : from_bytes (xs ++ s) 31 ≡ p.minimum = ap (from_bytes (xs ++ s)) a ∙ float_past xs s 2 ∙ (pressures_first ys p f).0 in
    let r : from_bytes (xs ++ s) 39 ≡ p.required = ap (from_bytes (xs ++ s)) b ∙ float_past xs s 10 ∙ (pressures_first ys p f).1 in
    rw (append_assoc xs (pressures_bytes p) ys, m, r)

node_first : (ys : List ℕ) (n : Node) → NodeFits n → node_at (node_bytes n ++ ys) 0 ≡ n
unfolding node_at node_bytes float_bytes number_bytes bytes_of from_bytes little_endian
node_first ys n f =
    rw (node_back n.kind, flag_back n.disabled, float_back n.elevation f.elevation, float_back n.demand f.demand, float_back n.head f.head, float_back n.highest f.highest, float_back n.lowest f.lowest, flag_back n.overflow)

node_past : (xs ys : List ℕ) → node_at (xs ++ ys) (length xs) ≡ node_at ys 0
unfolding node_at
node_past xs ys =
    rw (byte_past xs ys 2, byte_past xs ys 3, float_past xs ys 4, float_past xs ys 12, float_past xs ys 20, float_past xs ys 28, float_past xs ys 36, byte_past xs ys 44)

pub node_in : (xs ys : List ℕ) (n : Node) → NodeFits n → node_at (xs ++ node_bytes n ++ ys) (length xs) ≡ n
node_in xs ys n f = rw (append_assoc xs (node_bytes n) ys) (node_past xs (node_bytes n ++ ys) ∙ node_first ys n f)

link_first : (ys : List ℕ) (k : Link) → LinkFits k → link_at (link_bytes k ++ ys) 0 ≡ k
unfolding link_at pair_at link_bytes float_bytes number_bytes bytes_of from_bytes little_endian
link_first ys k f =
    rw (link_back k.kind, flag_back k.check, status_back k.status, number_back 2 k.start f.start, number_back 2 k.end f.end, float_back k.setting f.setting, float_back k.minor f.minor, float_back k.diameter f.diameter, float_back k.resistance f.resistance, float_back k.flow f.flow)

link_past : (xs ys : List ℕ) → link_at (xs ++ ys) (length xs) ≡ link_at ys 0
unfolding link_at
link_past xs ys =
    rw (byte_past xs ys 2, byte_past xs ys 3, byte_past xs ys 4, pair_past xs ys 5, pair_past xs ys 7, float_past xs ys 9, float_past xs ys 17, float_past xs ys 25, float_past xs ys 33, float_past xs ys 41)

pub link_in : (xs ys : List ℕ) (k : Link) → LinkFits k → link_at (xs ++ link_bytes k ++ ys) (length xs) ≡ k
link_in xs ys k f = rw (append_assoc xs (link_bytes k) ys) (link_past xs (link_bytes k ++ ys) ∙ link_first ys k f)

-- ---- the theorem

options_read : (s : List ℕ) (o : Options) → OptionsFit o → 29 ≤ length s → options_of (placed s 0 (options_bytes o)) ≡ o
options_read s o f h = rw (placed_parts s 0 (options_bytes o) (omega (arith, options_length o))) (options_in_lem (drop (0 + length (options_bytes o)) s) o f)

pressures_read : (s : List ℕ) (p : Pressures) → PressuresFit p → 47 ≤ length s → pressures_of (placed s 29 (pressures_bytes p)) ≡ p
pressures_read s p f h =
    rw (placed_parts s 29 (pressures_bytes p) (omega (arith, pressures_length p))) (pressures_in_lem (take 29 s) (drop (29 + length (pressures_bytes p)) s) p f (length-take-le 29 s (omega arith)))

node_read : (s : List ℕ) (at : ℕ) (n : Node) → NodeFits n → at + 45 ≤ length s → node_at (placed s at (node_bytes n)) at ≡ n
node_read s at n f h =
    let e : length (take at s) ≡ at = length-take-le at s (omega arith) in
    rw (placed_parts s at (node_bytes n) (omega (arith, node_length n)))
    (subst (λ (j : ℕ). node_at (take at s ++ node_bytes n ++ drop (at + length (node_bytes n)) s) j ≡ n) e (node_in (take at s) (drop (at + length (node_bytes n)) s) n f))

link_read : (s : List ℕ) (at : ℕ) (k : Link) → LinkFits k → at + 49 ≤ length s → link_at (placed s at (link_bytes k)) at ≡ k
link_read s at k f h =
    let e : length (take at s) ≡ at = length-take-le at s (omega arith) in
    rw (placed_parts s at (link_bytes k) (omega (arith, link_length k)))
    (subst (λ (j : ℕ). link_at (take at s ++ link_bytes k ++ drop (at + length (link_bytes k)) s) j ≡ k) e (link_in (take at s) (drop (at + length (link_bytes k)) s) k f))

pub read_back : ReadBack
read_back = record { options = options_read; pressures = pressures_read; node = node_read; link = link_read }
