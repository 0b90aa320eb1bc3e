-- Where the records of a sheet stand. Definitions only.
use Rattle.std.specs.Prelude.{ℕ, ◌+◌, ◌*◌, ◌≤◌, Bool, true, false, List, length}
use Rattle.layout.specs.declared.places.Layout.{Layout}

-- what stands before the first node: the OP of 29 bytes, and a PD of 18 where there is one
abbrev pub heading : Bool → ℕ
heading true = 47
heading false = 29

-- in a sheet of one OP, a PD or none, then all ND of 45 bytes, then all LK of 49: the offsets of node i, and of link j behind n nodes
abbrev pub node_offset : Bool → ℕ → ℕ
node_offset pressures i = heading pressures + 45 * i

abbrev pub link_offset : Bool → ℕ → ℕ → ℕ
link_offset pressures n j = heading pressures + 45 * n + 49 * j

-- the layout of such a sheet of n nodes, k links and u unknowns; and of one with no PD
abbrev pub planned : Bool → ℕ → ℕ → ℕ → Layout
planned pressures n k u =
    record { nodes = n; links = k; unknowns = u; node0 = heading pressures; link0 = node_offset pressures n; stride = 49; pressures = pressures }

abbrev pub plain : ℕ → ℕ → ℕ → Layout
plain n k u = planned false n k u

-- the offsets of node i and of link j by a layout
abbrev pub node_place : Layout → ℕ → ℕ
node_place l i = l.node0 + 45 * i

unfoldable pub link_place : Layout → ℕ → ℕ
link_place l j = l.link0 + l.stride * j

-- a sheet is long enough for its layout, and for its OP and PD
pub record Laid (l : Layout) (s : List ℕ) : Type 0 where
  pub options : heading l.pressures ≤ l.node0
  pub nodes : node_place l l.nodes ≤ length s
  pub links : link_place l l.links ≤ length s
  pub stride : 49 ≤ l.stride
