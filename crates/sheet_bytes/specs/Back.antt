-- What was put is what crate records reads, for records whose fields fit into their bytes. Definitions only.
use Rattle.std.specs.Prelude.{ℕ, ◌+◌, ◌≤◌, ◌<◌, ◌≡◌, List, T, length}
use Rattle.std.specs.Float.{binary64}
use Rattle.std.specs.Float.Ieee.{fits}
use Rattle.words.specs.Buffer.{placed}
use Rattle.records.specs.Records.{options_of, pressures_of, node_at, link_at}
use Rattle.records.specs.declared.records.Options.{Options}
use Rattle.records.specs.declared.records.Pressures.{Pressures}
use Rattle.records.specs.declared.records.Node.{Node}
use Rattle.records.specs.declared.records.Link.{Link}
use Rattle.sheet_bytes.specs.Bytes.{options_bytes, pressures_bytes, node_bytes, link_bytes}

-- each float is an f64, as every float of a program is, and each number is one of its bytes
pub record OptionsFit (o : Options) : Type 0 where
  pub accuracy : T (fits binary64 o.accuracy)
  pub damping : T (fits binary64 o.damping)
  pub change : T (fits binary64 o.change)
  pub trials : o.trials < 65536
  pub unit : o.unit < 256

pub record PressuresFit (p : Pressures) : Type 0 where
  pub minimum : T (fits binary64 p.minimum)
  pub required : T (fits binary64 p.required)

pub record NodeFits (n : Node) : Type 0 where
  pub elevation : T (fits binary64 n.elevation)
  pub demand : T (fits binary64 n.demand)
  pub head : T (fits binary64 n.head)
  pub highest : T (fits binary64 n.highest)
  pub lowest : T (fits binary64 n.lowest)

pub record LinkFits (k : Link) : Type 0 where
  pub start : k.start < 65536
  pub end : k.end < 65536
  pub setting : T (fits binary64 k.setting)
  pub minor : T (fits binary64 k.minor)
  pub diameter : T (fits binary64 k.diameter)
  pub resistance : T (fits binary64 k.resistance)
  pub flow : T (fits binary64 k.flow)

-- in every buffer that has room: OP and PD at their places, nodes and links anywhere
pub record ReadBack : Type 0 where
  pub options : (s : List ℕ) (o : Options) → OptionsFit o → 29 ≤ length s → options_of (placed s 0 (options_bytes o)) ≡ o
  pub pressures : (s : List ℕ) (p : Pressures) → PressuresFit p → 47 ≤ length s → pressures_of (placed s 29 (pressures_bytes p)) ≡ p
  pub node : (s : List ℕ) (at : ℕ) (n : Node) → NodeFits n → at + 45 ≤ length s → node_at (placed s at (node_bytes n)) at ≡ n
  pub link : (s : List ℕ) (at : ℕ) (k : Link) → LinkFits k → at + 49 ≤ length s → link_at (placed s at (link_bytes k)) at ≡ k
