-- One diagonal entry of the matrix, and what a link between two rows does to it. Assumes nothing.
use Prim.Native.Nat.{ℕ, ◌+◌, ◌*◌, ◌<◌}
use mathlib.Core.Path.{◌≡◌, refl, sym, ap, ◌∙◌}
use mathlib.Core.Logic.{⊎_elim}
use mathlib.Core.Bool.{Bool, true, false, cond}
use mathlib.Core.List.{List}
use native.Mathlib.Omega.{arith}
use lib.ListN.{length, get_or}
use lib.Seq.{get_or-set_same, get_or-set_other}
use lib.Ieee.{Float, nan, binary64, add, sub}
use Rattle.linear.specs.declared.factorization.UnknownIndex.{UnknownIndex}
use Rattle.coefficient.specs.declared.Coefficients.{Coefficients}
use Rattle.coefficient.specs.declared.NodeAddition.{NodeAddition}
use Rattle.columns.specs.Columns.{add_to, take_from}
use Rattle.rows.specs.Rows.{on_diagonal, lower, off_between}
use Rattle.rows.proofs.Lengths.{on_diagonal_long}
use Rattle.scatter.specs.Scatter.{given_diagonal, link_matrix}
use Rattle.repairs_bound.proofs.Joined.{lower_is}
use Rattle.std.specs.Prelude.{None, Option, Some}
use Rattle.numbering.specs.Numbering.{Row}

-- ---- rows

-- a row is not the unknown w
abbrev pub Off : ℕ → Row → Type 0
Off w row = (u : UnknownIndex) → row ≡ Some u → (u.0 < 64) × (u.0 ≡ w → ⊥)

-- unknown w
abbrev pub own : ℕ → Row
own w = Some (record { 0 = w })

module _ (w : ℕ) (small : w < 64) where
  pub diagonal_off : (row : Row) (x : Float) (m : List Float) → Off w row → get_or (on_diagonal row x m) (64 * w + w) nan ≡ get_or m (64 * w + w) nan
  unfolding on_diagonal add_to
  diagonal_off (Some u) x m a =
      let o = a u refl in
      get_or-set_other m (64 * u.0 + u.0) (64 * w + w) (add binary64 (get_or m (64 * u.0 + u.0) nan) x) nan (λ e. o.1 (omega (arith, e)))
  diagonal_off None x m a = refl

  pub diagonal_own : (x : Float) (m : List Float) → length m ≡ 4096 → get_or (on_diagonal (own w) x m) (64 * w + w) nan ≡ add binary64 (get_or m (64 * w + w) nan) x
  unfolding on_diagonal add_to
  diagonal_own x m long = get_or-set_same m (64 * w + w) (add binary64 (get_or m (64 * w + w) nan) x) nan (omega (arith, long))

  between_off : (u v : Row) (x : Float) (m : List Float) → ((i j : UnknownIndex) → u ≡ Some i → v ≡ Some j → 64 * w + w ≡ lower i.0 j.0 → ⊥)
      → get_or (off_between u v x m) (64 * w + w) nan ≡ get_or m (64 * w + w) nan
  unfolding off_between take_from
  between_off (Some u) (Some v) x m a = get_or-set_other m (lower u.0 v.0) (64 * w + w) (sub binary64 (get_or m (lower u.0 v.0) nan) x) nan (a u v refl refl)
  between_off (Some u) None x m a = refl
  between_off None v x m a = refl

  given_off : (a : Option NodeAddition) (row : Row) (m : List Float) → Off w row → get_or (given_diagonal a row m) (64 * w + w) nan ≡ get_or m (64 * w + w) nan
  unfolding given_diagonal
  given_off None row m d = refl
  given_off (Some a) row m d = diagonal_off row a.diagonal m d

  given_none : (a : Option NodeAddition) (row : Row) (m : List Float) → a ≡ None → given_diagonal a row m ≡ m
  unfolding given_diagonal
  given_none a row m e = rw e

  -- a link between two other rows, from the row, and to the row
  pub link_off : (u v : Row) (c : Coefficients) (m : List Float) → Off w u → Off w v → get_or (link_matrix u v c m) (64 * w + w) nan ≡ get_or m (64 * w + w) nan
  unfolding link_matrix
  link_off u v c m a b =
      given_off c.downstream v _ b ∙ given_off c.upstream u _ a
      ∙ between_off u v c.conductance _ (λ i j e f p. ⊎_elim (λ q. (a i e).1 q.0) (λ q. (a i e).1 q.1) (lower_is i.0 j.0 w w (a i e).0 (b j f).0 small (sym p)))
      ∙ diagonal_off v c.conductance _ b ∙ diagonal_off u c.conductance m a

  pub link_start_lem : (v : Row) (c : Coefficients) (m : List Float) → length m ≡ 4096 → Off w v → c.upstream ≡ None → get_or (link_matrix (own w) v c m) (64 * w + w) nan ≡ add binary64 (get_or m (64 * w + w) nan) c.conductance
  unfolding link_matrix
  link_start_lem v c m long b e =
      let a₁ = on_diagonal (own w) c.conductance m in
      let a₂ = on_diagonal v c.conductance a₁ in
      let a₃ = off_between (own w) v c.conductance a₂ in
      given_off c.downstream v (given_diagonal c.upstream (own w) a₃) b
      ∙ ap (λ (x : List Float). get_or x (64 * w + w) nan) (given_none c.upstream (own w) a₃ e)
      ∙ between_off (own w) v c.conductance a₂ (λ i j x f p. let q : w ≡ i.0 = cc in ⊎_elim (λ z. (b j f).1 z.1) (λ z. (b j f).1 z.0) (lower_is i.0 j.0 w w (omega (arith, q, small)) (b j f).0 small (sym p)))
      ∙ diagonal_off v c.conductance a₁ b ∙ diagonal_own c.conductance m long

  pub link_end_lem : (u : Row) (c : Coefficients) (m : List Float) → length m ≡ 4096 → Off w u → c.downstream ≡ None → get_or (link_matrix u (own w) c m) (64 * w + w) nan ≡ add binary64 (get_or m (64 * w + w) nan) c.conductance
  unfolding link_matrix
  link_end_lem u c m long a e =
      let a₁ = on_diagonal u c.conductance m in
      let a₂ = on_diagonal (own w) c.conductance a₁ in
      let a₃ = off_between u (own w) c.conductance a₂ in
      ap (λ (x : List Float). get_or x (64 * w + w) nan) (given_none c.downstream (own w) (given_diagonal c.upstream u a₃) e)
      ∙ given_off c.upstream u a₃ a
      ∙ between_off u (own w) c.conductance a₂ (λ i j x f p. let q : w ≡ j.0 = cc in ⊎_elim (λ z. (a i x).1 z.0) (λ z. (a i x).1 z.1) (lower_is i.0 j.0 w w (a i x).0 (omega (arith, q, small)) small (sym p)))
      ∙ diagonal_own c.conductance a₁ (on_diagonal_long u c.conductance m ∙ long)
      ∙ ap (λ (x : Float). add binary64 x c.conductance) (diagonal_off u c.conductance m a)
