-- Item 6: entries of the assembled matrix that no link fills, no grounded diagonal, and no demand that gives way, are +0.0. Assumes nothing.
use Prim.Native.Nat.{ℕ, zero, suc, ◌+◌, ◌*◌, ◌<◌}
use mathlib.Core.Path.{◌≡◌, refl, ◌∙◌}
use mathlib.Core.Bool.{Bool, true, false, cond, ◌&&◌}
use mathlib.Core.List.{List}
use native.Mathlib.Omega.{arith}
use lib.ListN.{length, get_or}
use lib.Seq.{get_or-set_other}
use lib.Ieee.{Float, nan, binary64, of_bits, add, sub, lt}
use Rattle.layout.specs.declared.places.Layout.{Layout}
use Rattle.links.specs.Links.{link_of}
use Rattle.records.specs.declared.records.Link.{Link}
use Rattle.constants.specs.Constants.{small_value}
use Rattle.coefficient.specs.declared.Coefficients.{Coefficients}
use Rattle.coefficient.specs.declared.NodeAddition.{NodeAddition}
use Rattle.columns.specs.Columns.{cleared, add_to, take_from}
use Rattle.columns.proofs.Laws.{cleared_at}
use Rattle.nodes.specs.Nodes.{enabled}
use Rattle.numbering.specs.Numbering.{row_at, Row}
use Rattle.scatter.specs.Scatter.{on_diagonal, lower, off_between, given_diagonal, link_matrix}
use Rattle.assembly.specs.Assembly.{System, system, View, coefficients_at, link_placed, link_added, with_links, ground_of, grounded_of, assemble_of}
use Rattle.records.specs.Records.{pressures_of}
use Rattle.records.specs.declared.records.Pressures.{Pressures}
use Rattle.constants.specs.Arithmetic.{over}
use Rattle.constants.specs.Constants as constant
use Rattle.drawing.specs.Drawing.{range_of, bend_of}
use Rattle.drawing.specs.declared.Bend.{Bend}
use Rattle.bends.specs.Bends.{bends, bend_diagonal, node_diagonal, diagonal_bends, bent_matrix}
use Rattle.assembly.specs.Unfilled.{OffDiagonal, Apart, Unfilled}
use Rattle.std.specs.Prelude.{None, Option, Some}

module _ (p : ℕ) where
  diagonal_apart : (row : Row) (x : Float) (m : List Float) → OffDiagonal row p → get_or (on_diagonal row x m) p nan ≡ get_or m p nan
  unfolding on_diagonal add_to
  diagonal_apart (Some u) x m a = get_or-set_other m (64 * u.0 + u.0) p (add binary64 (get_or m (64 * u.0 + u.0) nan) x) nan (a.off u refl)
  diagonal_apart None x m a = refl

  between_apart : (u v : Row) (x : Float) (m : List Float) → Apart u v p → get_or (off_between u v x m) p nan ≡ get_or m p nan
  unfolding off_between take_from
  between_apart (Some u) (Some v) x m a = get_or-set_other m (lower u.0 v.0) p (sub binary64 (get_or m (lower u.0 v.0) nan) x) nan (a.between u v refl refl)
  between_apart (Some u) None x m a = refl
  between_apart None v x m a = refl

  either : (b : Bool) (z m : List Float) → get_or z p nan ≡ get_or m p nan → get_or (cond b z m) p nan ≡ get_or m p nan
  either true z m h = h
  either false z m h = refl

  given_apart : (a : Option NodeAddition) (row : Row) (m : List Float) → OffDiagonal row p → get_or (given_diagonal a row m) p nan ≡ get_or m p nan
  unfolding given_diagonal
  given_apart None row m d = refl
  given_apart (Some a) row m d = diagonal_apart row a.diagonal m d

  link_apart : (u v : Row) (c : Coefficients) (m : List Float) → Apart u v p → get_or (link_matrix u v c m) p nan ≡ get_or m p nan
  unfolding link_matrix
  link_apart u v c m a =
      given_apart c.downstream v _ a.end ∙ given_apart c.upstream u _ a.start ∙ between_apart u v c.conductance _ a ∙ diagonal_apart v c.conductance _ a.end ∙ diagonal_apart u c.conductance m a.start

  links_apart : (s : List ℕ) (l : Layout) (v : View) (t : System) (k : ℕ)
      → ((i : ℕ) → i < k → (enabled s l (link_of s l i).start && enabled s l (link_of s l i).end) ≡ true → Apart (row_at s l (link_of s l i).start) (row_at s l (link_of s l i).end) p)
      → get_or (with_links s l v k t).matrix p nan ≡ get_or t.matrix p nan
  unfolding with_links link_added link_placed
  links_apart s l v t zero h = refl
  links_apart s l v t (suc k) h =
      go (link_of s l k) (h k (omega arith)) ∙ links_apart s l v t k (λ i z. h i (omega arith))
    where
      was : System
      was = with_links s l v k t

      go : (z : Link) → ((enabled s l z.start && enabled s l z.end) ≡ true → Apart (row_at s l z.start) (row_at s l z.end) p) → get_or (link_added s l v z k was).matrix p nan ≡ get_or was.matrix p nan
      go z a = on (enabled s l z.start && enabled s l z.end) refl
        where
          on : (b : Bool) → (enabled s l z.start && enabled s l z.end) ≡ b → get_or (cond b (link_placed s l v z (coefficients_at s l v.flows v.statuses v.excess z k) k was) was).matrix p nan ≡ get_or was.matrix p nan
          on true e = link_apart (row_at s l z.start) (row_at s l z.end) (coefficients_at s l v.flows v.statuses v.excess z k) was.matrix (a e)
          on false e = refl

  grounded_apart : (s : List ℕ) (l : Layout) (marks : List Bool) (m : List Float) (n : ℕ) → ((i : ℕ) → i < n → get_or marks i false ≡ true → OffDiagonal (row_at s l i) p) → get_or (grounded_of s l marks n m) p nan ≡ get_or m p nan
  unfolding grounded_of ground_of
  grounded_apart s l marks m zero h = refl
  grounded_apart s l marks m (suc n) h = on (get_or marks n false) refl ∙ grounded_apart s l marks m n (λ i z. h i (omega arith))
    where
      was : List Float
      was = grounded_of s l marks n m

      on : (b : Bool) → get_or marks n false ≡ b → get_or (cond b (on_diagonal (row_at s l n) small_value was) was) p nan ≡ get_or was p nan
      on true e = diagonal_apart (row_at s l n) small_value was (h n (omega arith) e)
      on false e = refl

  -- the bends, where a PD stands
  bend_apart : (b : Bend) (row : Row) (m : List Float) → OffDiagonal row p → get_or (bend_diagonal b row m) p nan ≡ get_or m p nan
  unfolding bend_diagonal
  bend_apart b row m d = either (lt constant.zero (over constant.one b.conductance)) (on_diagonal row b.conductance m) m (diagonal_apart row b.conductance m d)

  bends_apart : (s : List ℕ) (l : Layout) (r : Pressures) (demands drawn m : List Float) (n : ℕ) → ((i : ℕ) → i < n → bends s l demands i ≡ true → OffDiagonal (row_at s l i) p)
      → get_or (diagonal_bends s l r demands drawn n m) p nan ≡ get_or m p nan
  unfolding diagonal_bends node_diagonal
  bends_apart s l r demands drawn m zero h = refl
  bends_apart s l r demands drawn m (suc n) h = on (bends s l demands n) refl ∙ bends_apart s l r demands drawn m n (λ i z. h i (omega arith))
    where
      was : List Float
      was = diagonal_bends s l r demands drawn n m

      bend : Bend
      bend = bend_of (get_or drawn n nan) (get_or demands n nan) (range_of r)

      on : (b : Bool) → bends s l demands n ≡ b → get_or (cond b (bend_diagonal bend (row_at s l n) was) was) p nan ≡ get_or was p nan
      on true e = bend_apart bend (row_at s l n) was (h n (omega arith) e)
      on false e = refl

  bent_apart : (s : List ℕ) (l : Layout) (demands drawn m : List Float) → (l.pressures ≡ true → (i : ℕ) → i < l.nodes → bends s l demands i ≡ true → OffDiagonal (row_at s l i) p)
      → get_or (bent_matrix s l demands drawn m) p nan ≡ get_or m p nan
  unfolding bent_matrix
  bent_apart s l demands drawn m h = on l.pressures refl
    where
      on : (b : Bool) → l.pressures ≡ b → get_or (cond b (diagonal_bends s l (pressures_of s) demands drawn l.nodes m) m) p nan ≡ get_or m p nan
      on true e = bends_apart s l (pressures_of s) demands drawn m l.nodes (h e)
      on false e = refl

-- "entries that no link fills are +0.0", whatever was lent
pub unfilled : (s : List ℕ) (l : Layout) (v : View) (demands drawn : List Float) (marks : List Bool) (t : System) (p : ℕ)
    → length t.matrix ≡ 4096 → p < 4096 → Unfilled s l demands marks p → get_or (assemble_of s l v demands drawn marks t).matrix p nan ≡ of_bits binary64 0
unfolding assemble_of
unfilled s l v demands drawn marks t p long here a =
    let w : System = system (cleared 4096 t.matrix) (cleared 64 t.rhs) t.g t.y in
    grounded_apart p s l marks (bent_matrix s l demands drawn (with_links s l v l.links w).matrix) l.nodes a.nodes
    ∙ bent_apart p s l demands drawn (with_links s l v l.links w).matrix a.giving
    ∙ links_apart p s l v w l.links a.links ∙ cleared_at 4096 t.matrix (omega arith) p here
