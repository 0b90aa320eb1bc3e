-- The bends: what each function makes, one turn of the loop, and the lengths that they keep, as laws of the definitions. Assumes nothing.
use mathlib.Core.Path.{◌≡◌, refl, sym, ap, ◌∙◌}
use mathlib.Core.Bool.{Bool, true, false}
use mathlib.Core.List.{List}
use Prim.Native.Nat.{ℕ, zero, suc, ◌+◌, ◌≤◌, ◌<◌}
use native.Mathlib.Numerals.{add-one}
use native.Mathlib.Omega.{arith}
use lib.ListN.{length, get_or}
use lib.Ieee.{Float, nan, lt}
use Rattle.layout.specs.declared.places.Layout.{Layout}
use Rattle.records.specs.Records.{pressures_of}
use Rattle.records.specs.declared.records.Pressures.{Pressures}
use Rattle.constants.specs.Arithmetic.{plus, times, over}
use Rattle.constants.specs.Constants as constant
use Rattle.nodes.specs.Nodes.{in_service, elevation_of}
use Rattle.drawing.specs.Drawing.{gives_way, range_of, bend_of}
use Rattle.drawing.specs.declared.Bend.{Bend}
use Rattle.drawing.proofs.Laws.{with_pressures, without_pressures}
use Rattle.numbering.specs.Numbering.{row_at, Row}
use Rattle.rows.specs.Rows.{on_row, on_diagonal}
use Rattle.rows.proofs.Lengths.{on_row_long, on_diagonal_long}
use Rattle.scatter.proofs.Lengths.{either_long}
use Rattle.bends.specs.Bends.{bend_row, bend_diagonal, bends, node_diagonal, node_row, diagonal_bends, row_bends, bent_matrix, bent_right}

module _ (b : Bend) (elevation minimum : Float) (row : Row) where
  pub bend_on : (m m₁ r r₁ : List Float) → lt constant.zero (over constant.one b.conductance) ≡ true → m₁ ≡ on_diagonal row b.conductance m → r₁ ≡ on_row row (times (plus (plus b.offset elevation) minimum) b.conductance) r
      → (m₁ ≡ bend_diagonal b row m) × (r₁ ≡ bend_row b elevation minimum row r)
  unfolding bend_diagonal bend_row
  bend_on m m₁ r r₁ t em er = (rw (t, em), rw (t, er))

  pub bend_off : (m r : List Float) → lt constant.zero (over constant.one b.conductance) ≡ false → (m ≡ bend_diagonal b row m) × (r ≡ bend_row b elevation minimum row r)
  unfolding bend_diagonal bend_row
  bend_off m r t = (rw t, rw t)

module _ (s : List ℕ) (l : Layout) (p : Pressures) (asked drawn : List Float) where
  pub node_bent : (i : ℕ) (serving gives : Bool) (row : Row) (b : Bend) (range up : Float) (m m₁ r r₁ : List Float) → serving ≡ in_service s l i → gives ≡ gives_way serving (get_or asked i nan) → gives ≡ true
      → row ≡ row_at s l i → range ≡ range_of p → b ≡ bend_of (get_or drawn i nan) (get_or asked i nan) range → up ≡ elevation_of s l i
      → m₁ ≡ bend_diagonal b row m → r₁ ≡ bend_row b up p.minimum row r → (m₁ ≡ node_diagonal s l p asked drawn i m) × (r₁ ≡ node_row s l p asked drawn i r)
  unfolding node_diagonal node_row bends
  node_bent i serving gives row b range up m m₁ r r₁ es eg t ew er eb eu em ek =
      let bend : b ≡ bend_of (get_or drawn i nan) (get_or asked i nan) (range_of p) = eb ∙ ap (bend_of (get_or drawn i nan) (get_or asked i nan)) er in (
        rw (← es, ← eg, t) (em ∙ ap (λ (w : Row). bend_diagonal b w m) ew ∙ ap (λ (c : Bend). bend_diagonal c (row_at s l i) m) bend),
        rw (← es, ← eg, t) (ek ∙ ap (λ (x : Float). bend_row b x p.minimum row r) eu ∙ ap (λ (w : Row). bend_row b (elevation_of s l i) p.minimum w r) ew ∙ ap (λ (c : Bend). bend_row c (elevation_of s l i) p.minimum (row_at s l i) r) bend),
      )

  pub node_straight : (i : ℕ) (serving gives : Bool) (m r : List Float) → serving ≡ in_service s l i → gives ≡ gives_way serving (get_or asked i nan) → gives ≡ false → (m ≡ node_diagonal s l p asked drawn i m) × (r ≡ node_row s l p asked drawn i r)
  unfolding node_diagonal node_row bends
  node_straight i serving gives m r es eg t = (rw (← es, ← eg, t), rw (← es, ← eg, t))

  -- the loop after i nodes, with the columns as they are and as they were
  pub record Bent (m₀ r₀ m r : List Float) (i : ℕ) : Type 0 where
    pub upto : i ≤ l.nodes
    pub diagonals : m ≡ diagonal_bends s l p asked drawn i m₀
    pub right : r ≡ row_bends s l p asked drawn i r₀
    pub m_long : length m ≡ length m₀
    pub r_long : length r ≡ length r₀

  pub none_bent : (m r : List Float) → Bent m r m r 0
  unfolding diagonal_bends row_bends
  none_bent m r = record { upto = omega arith; diagonals = refl; right = refl; m_long = refl; r_long = refl }

  pub next_bent : (m₀ r₀ m r m₁ r₁ : List Float) (i : ℕ) → Bent m₀ r₀ m r i → i < l.nodes → m₁ ≡ node_diagonal s l p asked drawn i m → r₁ ≡ node_row s l p asked drawn i r → length m₁ ≡ length m → length r₁ ≡ length r → Bent m₀ r₀ m₁ r₁ (i + 1)
  unfolding diagonal_bends row_bends
  next_bent m₀ r₀ m r m₁ r₁ i w more em er lm lr =
      record { upto = omega arith; diagonals = rw (add-one i, em, w.diagonals); right = rw (add-one i, er, w.right); m_long = lm ∙ w.m_long; r_long = lr ∙ w.r_long }

  pub bent_whole : (m₀ r₀ m r : List Float) (i : ℕ) → i ≡ l.nodes → Bent m₀ r₀ m r i → (m ≡ diagonal_bends s l p asked drawn l.nodes m₀) × (r ≡ row_bends s l p asked drawn l.nodes r₀)
  bent_whole m₀ r₀ m r i e w = (w.diagonals ∙ ap (λ (n : ℕ). diagonal_bends s l p asked drawn n m₀) e, w.right ∙ ap (λ (n : ℕ). row_bends s l p asked drawn n r₀) e)

bend_row_long : (b : Bend) (up minimum : Float) (row : Row) (r : List Float) → length (bend_row b up minimum row r) ≡ length r
unfolding bend_row
bend_row_long b up minimum row r = either_long (lt constant.zero (over constant.one b.conductance)) _ r r (on_row_long row _ r) refl

bend_diagonal_long : (b : Bend) (row : Row) (m : List Float) → length (bend_diagonal b row m) ≡ length m
unfolding bend_diagonal
bend_diagonal_long b row m = either_long (lt constant.zero (over constant.one b.conductance)) _ m m (on_diagonal_long row b.conductance m) refl

module _ (s : List ℕ) (l : Layout) (p : Pressures) (asked drawn : List Float) where
  diagonals_long : (i : ℕ) (m : List Float) → length (diagonal_bends s l p asked drawn i m) ≡ length m
  unfolding diagonal_bends node_diagonal
  diagonals_long zero m = refl
  diagonals_long (suc i) m = either_long (bends s l asked i) _ (diagonal_bends s l p asked drawn i m) m (bend_diagonal_long _ (row_at s l i) (diagonal_bends s l p asked drawn i m) ∙ diagonals_long i m) (diagonals_long i m)

  rows_long : (i : ℕ) (r : List Float) → length (row_bends s l p asked drawn i r) ≡ length r
  unfolding row_bends node_row
  rows_long zero r = refl
  rows_long (suc i) r = either_long (bends s l asked i) _ (row_bends s l p asked drawn i r) r (bend_row_long _ _ _ (row_at s l i) (row_bends s l p asked drawn i r) ∙ rows_long i r) (rows_long i r)

module _ (s : List ℕ) (l : Layout) (asked drawn : List Float) where
  -- where a PD stands, and where none does
  pub bent_pressures : (p : Pressures) (m m₁ r r₁ : List Float) → l.pressures ≡ true → p ≡ pressures_of s → m₁ ≡ diagonal_bends s l p asked drawn l.nodes m → r₁ ≡ row_bends s l p asked drawn l.nodes r
      → (m₁ ≡ bent_matrix s l asked drawn m) × (r₁ ≡ bent_right s l asked drawn r)
  unfolding bent_matrix bent_right
  bent_pressures p m m₁ r r₁ t e em er =
      (em ∙ ap (λ (v : Pressures). diagonal_bends s l v asked drawn l.nodes m) e ∙ sym (with_pressures l.pressures _ m t), er ∙ ap (λ (v : Pressures). row_bends s l v asked drawn l.nodes r) e ∙ sym (with_pressures l.pressures _ r t))

  pub bent_none : (m r : List Float) → l.pressures ≡ false → (m ≡ bent_matrix s l asked drawn m) × (r ≡ bent_right s l asked drawn r)
  unfolding bent_matrix bent_right
  bent_none m r t = (sym (without_pressures l.pressures _ m t), sym (without_pressures l.pressures _ r t))

  pub bent_matrix_long : (m : List Float) → length (bent_matrix s l asked drawn m) ≡ length m
  unfolding bent_matrix
  bent_matrix_long m = either_long l.pressures _ m m (diagonals_long s l (pressures_of s) asked drawn l.nodes m) refl

  pub bent_right_long : (r : List Float) → length (bent_right s l asked drawn r) ≡ length r
  unfolding bent_right
  bent_right_long r = either_long l.pressures _ r r (rows_long s l (pressures_of s) asked drawn l.nodes r) refl
