-- How many bytes each record has. Assumes nothing.
use Prim.Native.Nat.{ℕ, zero, suc, ◌/◌}
use mathlib.Core.Path.{◌≡◌, refl, ap}
use lib.Ieee.{Float}
use lib.ListN.{length}
use Rattle.spelled.specs.Texts.{bytes_of}
use Rattle.records.specs.declared.records.Options.{Options}
use Rattle.records.specs.declared.records.Pressures.{Pressures}
use Rattle.records.specs.declared.records.Node.{Node}
use Rattle.records.specs.declared.records.Link.{Link}
use Rattle.sheet_bytes.specs.Bytes.{number_bytes, float_bytes, options_bytes, pressures_bytes, node_bytes, link_bytes}

pub number_length : (k n : ℕ) → length (number_bytes k n) ≡ k
unfolding number_bytes
number_length zero n = refl
number_length (suc k) n = ap suc (number_length k (n / 256))

pub float_length : (x : Float) → length (float_bytes x) ≡ 8
unfolding float_bytes number_bytes
float_length x = refl

pub options_length : (o : Options) → length (options_bytes o) ≡ 29
unfolding options_bytes float_bytes number_bytes bytes_of
options_length o = refl

pub pressures_length : (p : Pressures) → length (pressures_bytes p) ≡ 18
unfolding pressures_bytes float_bytes number_bytes bytes_of
pressures_length p = refl

pub node_length : (n : Node) → length (node_bytes n) ≡ 45
unfolding node_bytes float_bytes number_bytes bytes_of
node_length n = refl

pub link_length : (k : Link) → length (link_bytes k) ≡ 49
unfolding link_bytes float_bytes number_bytes bytes_of
link_length k = refl
