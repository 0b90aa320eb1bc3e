-- Request [11], junction.rs and the assembly of the Rust: what demands that give way to pressure add to the matrix and to the right side. Definitions only.
use Rattle.std.specs.Prelude.{ℕ, zero, suc, ◌≤◌, Bool, cond, List, length, get_or, Float}
use Rattle.std.specs.Float.{nan}
use Rattle.std.specs.Float.Ieee.{lt}
use Rattle.layout.specs.Places.{Laid}
use Rattle.layout.specs.declared.places.Layout.{Layout}
use Rattle.records.specs.Records.{pressures_of}
use Rattle.records.specs.declared.records.Pressures.{Pressures}
use Rattle.constants.specs.Arithmetic.{plus, times, over}
use Rattle.constants.specs.Constants as constant
use Rattle.nodes.specs.Nodes.{in_service, elevation_of}
use Rattle.drawing.specs.Drawing.{gives_way, range_of, bend_of}
use Rattle.drawing.specs.declared.Bend.{Bend}
use Rattle.numbering.specs.Numbering.{row_at, RowsRight, Row}
use Rattle.rows.specs.Rows.{on_row, on_diagonal}

-- the bend of node i's demand, which has this row, in the right side and on the diagonal, where it has a gradient above 0
unfoldable pub bend_row : Bend → Float → Float → Row → List Float → List Float
bend_row b elevation minimum row r =
    cond (lt constant.zero (over constant.one b.conductance)) (on_row row (times (plus (plus b.offset elevation) minimum) b.conductance) r) r

unfoldable pub bend_diagonal : Bend → Row → List Float → List Float
bend_diagonal b row m = cond (lt constant.zero (over constant.one b.conductance)) (on_diagonal row b.conductance m) m

-- the demand of node i gives way
unfoldable pub bends : List ℕ → Layout → List Float → ℕ → Bool
bends s l asked i = gives_way (in_service s l i) (get_or asked i nan)

-- the bend of node i, on its diagonal and in its row
unfoldable pub node_diagonal : List ℕ → Layout → Pressures → List Float → List Float → ℕ → List Float → List Float
node_diagonal s l p asked drawn i m = cond (bends s l asked i) (bend_diagonal (bend_of (get_or drawn i nan) (get_or asked i nan) (range_of p)) (row_at s l i) m) m

unfoldable pub node_row : List ℕ → Layout → Pressures → List Float → List Float → ℕ → List Float → List Float
node_row s l p asked drawn i r =
    cond (bends s l asked i) (bend_row (bend_of (get_or drawn i nan) (get_or asked i nan) (range_of p)) (elevation_of s l i) p.minimum (row_at s l i) r) r

-- those of the first i nodes
unfoldable pub diagonal_bends : List ℕ → Layout → Pressures → List Float → List Float → ℕ → List Float → List Float
diagonal_bends s l p asked drawn zero m = m
diagonal_bends s l p asked drawn (suc i) m = node_diagonal s l p asked drawn i (diagonal_bends s l p asked drawn i m)

unfoldable pub row_bends : List ℕ → Layout → Pressures → List Float → List Float → ℕ → List Float → List Float
row_bends s l p asked drawn zero r = r
row_bends s l p asked drawn (suc i) r = node_row s l p asked drawn i (row_bends s l p asked drawn i r)

-- what bending asks of a sheet, of a column of numbers and of the two columns of demands
pub record Bending (l : Layout) (s unknowns : List ℕ) (asked drawn : List Float) : Type 0 where
  pub laid : Laid l s
  pub few : l.nodes ≤ 64
  pub numbers : l.nodes ≤ length unknowns
  pub asked_long : l.nodes ≤ length asked
  pub drawn_long : l.nodes ≤ length drawn
  pub rows : RowsRight l s unknowns

-- all of them, where a PD stands
unfoldable pub bent_matrix : List ℕ → Layout → List Float → List Float → List Float → List Float
bent_matrix s l asked drawn m = cond l.pressures (diagonal_bends s l (pressures_of s) asked drawn l.nodes m) m

unfoldable pub bent_right : List ℕ → Layout → List Float → List Float → List Float → List Float
bent_right s l asked drawn r = cond l.pressures (row_bends s l (pressures_of s) asked drawn l.nodes r) r
