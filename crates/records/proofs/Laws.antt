-- A record put together from its fields. Assumes nothing.
use mathlib.Core.Path.{◌≡◌}
use mathlib.Core.List.{List}
use Prim.Native.Nat.{ℕ, ◌+◌}
use lib.Dec.{eqb}
use lib.Ieee.{Float}
use Rattle.patterns.specs.Bytes.{from_bytes}
use Rattle.codes.specs.Codes.{node_kind_of, link_kind_of, status_of}
use Rattle.records.specs.Records.{byte_at, pair_at, options_of, node_at, link_at}
use Rattle.codes.specs.declared.NodeKind.{NodeKind}
use Rattle.codes.specs.declared.LinkKind.{LinkKind}
use Rattle.codes.specs.declared.Status.{Status}
use Rattle.records.specs.declared.records.Options.{Options}
use Rattle.records.specs.declared.records.Node.{Node}
use Rattle.records.specs.declared.records.Link.{Link}

module _ (s : List ℕ) where
  pub options : (x y z : Float) (t : ℕ) → x ≡ from_bytes s 2 → y ≡ from_bytes s 10 → z ≡ from_bytes s 18 → t ≡ pair_at s 26 → ◌≡◌ {A = Options} (record { accuracy = x; damping = y; change = z; trials = t; unit = byte_at s 28 }) (options_of s)
  unfolding options_of
  options x y z t a b c d = rw (a, b, c, d)

  pub node : (at : ℕ) (k : NodeKind) (v w x y z : Float) → k ≡ node_kind_of (byte_at s (at + 2)) → v ≡ from_bytes s (at + 4) → w ≡ from_bytes s (at + 12) → x ≡ from_bytes s (at + 20) → y ≡ from_bytes s (at + 28) → z ≡ from_bytes s (at + 36) → ◌≡◌ {A = Node} (record { kind = k; disabled = eqb (byte_at s (at + 3)) 1; elevation = v; demand = w; head = x; highest = y; lowest = z; overflow = eqb (byte_at s (at + 44)) 1 }) (node_at s at)
  unfolding node_at
  node at k v w x y z a b c d e f = rw (a, b, c, d, e, f)

  pub link : (at : ℕ) (k : LinkKind) (t : Status) (m n : ℕ) (v w x y z : Float) → k ≡ link_kind_of (byte_at s (at + 2)) → t ≡ status_of (byte_at s (at + 4)) → m ≡ pair_at s (at + 5) → n ≡ pair_at s (at + 7) → v ≡ from_bytes s (at + 9) → w ≡ from_bytes s (at + 17) → x ≡ from_bytes s (at + 25) → y ≡ from_bytes s (at + 33) → z ≡ from_bytes s (at + 41) → ◌≡◌ {A = Link} (record { kind = k; check = eqb (byte_at s (at + 3)) 1; status = t; start = m; end = n; setting = v; minor = w; diameter = x; resistance = y; flow = z }) (link_at s at)
  unfolding link_at
  link at k t m n v w x y z a b c d e f g h i = rw (a, b, c, d, e, f, g, h, i)
