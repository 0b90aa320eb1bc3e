-- The records of a sheet as their bytes, field by field as the sheet lays them out. Definitions only.
use Rattle.std.specs.Prelude.{ℕ, zero, suc, ◌/◌, ◌%◌, Bool, cond, List, [], ◌∷◌, ◌++◌, Float}
use Rattle.std.specs.Float.{binary64}
use Rattle.std.specs.Float.Ieee.{to_bits}
use Rattle.spelled.specs.Texts.{bytes_of}
use Rattle.codes.specs.Codes.{node_code, link_code, status_code}
use Rattle.records.specs.declared.records.Options.{Options}
use Rattle.records.specs.declared.records.Pressures.{Pressures}
use Rattle.records.specs.declared.records.Node.{Node}
use Rattle.records.specs.declared.records.Link.{Link}

-- the k lowest bytes of a number, the lowest first
unfoldable pub number_bytes : ℕ → ℕ → List ℕ
number_bytes zero n = []
number_bytes (suc k) n = n % 256 ∷ number_bytes k (n / 256)

-- the pattern of an f64; a NaN has its one pattern
unfoldable pub float_bytes : Float → List ℕ
float_bytes x = number_bytes 8 (to_bits binary64 x)

unfoldable pub flag_byte : Bool → ℕ
flag_byte flag = cond {A = ℕ} flag 1 0

-- 29 bytes: accuracy, damping limit, max flow change, trials, flow unit
unfoldable pub options_bytes : Options → List ℕ
options_bytes o = bytes_of "OP" ++ float_bytes o.accuracy ++ float_bytes o.damping ++ float_bytes o.change ++ number_bytes 2 o.trials ++ number_bytes 1 o.unit

-- 18 bytes: minimum and required pressure
unfoldable pub pressures_bytes : Pressures → List ℕ
pressures_bytes p = bytes_of "PD" ++ float_bytes p.minimum ++ float_bytes p.required

-- 45 bytes: kind, disabled, elevation, demand, head, max level, min level, overflow
unfoldable pub node_bytes : Node → List ℕ
node_bytes n = bytes_of "ND" ++ node_code n.kind ∷ flag_byte n.disabled ∷ [] ++ float_bytes n.elevation ++ float_bytes n.demand ++ float_bytes n.head ++ float_bytes n.highest ++ float_bytes n.lowest ++ flag_byte n.overflow ∷ []

-- 49 bytes: kind, check valve, status, start, end, setting, minor loss, diameter, resistance, flow
unfoldable pub link_bytes : Link → List ℕ
link_bytes k = bytes_of "LK" ++ link_code k.kind ∷ flag_byte k.check ∷ status_code k.status ∷ [] ++ number_bytes 2 k.start ++ number_bytes 2 k.end ++ float_bytes k.setting ++ float_bytes k.minor ++ float_bytes k.diameter ++ float_bytes k.resistance ++ float_bytes k.flow
