-- Every entry of an assembled matrix is an f64: each comes from an operation. Assumes nothing.
use Prim.Native.Nat.{ℕ, zero, suc, ◌+◌, ◌*◌}
use mathlib.Core.Bool.{Bool, true, false, cond, ◌&&◌}
use mathlib.Core.List.{List, [], ◌∷◌}
use lib.Dec.{T}
use lib.ListN.{get_or, set, replicate}
use lib.Ieee.{Float, nan, binary64, fits, of_bits, add, sub, lt}
use lib.Ieee.Bits.{of_bits-fits}
use lib.Ieee.Fits.{nan-fits, add-fits, sub-fits}
use Rattle.layout.specs.declared.places.Layout.{Layout}
use Rattle.links.specs.Links.{link_of}
use Rattle.records.specs.Records.{pressures_of}
use Rattle.records.specs.declared.records.Link.{Link}
use Rattle.records.specs.declared.records.Pressures.{Pressures}
use Rattle.constants.specs.Arithmetic.{over}
use Rattle.constants.specs.Constants as constant
use Rattle.coefficient.specs.declared.Coefficients.{Coefficients}
use Rattle.coefficient.specs.declared.NodeAddition.{NodeAddition}
use Rattle.columns.specs.Columns.{cleared, add_to, take_from, zeros}
use Rattle.nodes.specs.Nodes.{enabled}
use Rattle.numbering.specs.Numbering.{row_at, Row}
use Rattle.rows.specs.Rows.{on_diagonal, lower, off_between}
use Rattle.scatter.specs.Scatter.{given_diagonal, link_matrix}
use Rattle.drawing.specs.Drawing.{range_of, bend_of}
use Rattle.drawing.specs.declared.Bend.{Bend}
use Rattle.bends.specs.Bends.{bends, bend_diagonal, node_diagonal, diagonal_bends, bent_matrix}
use Rattle.assembly.specs.Assembly.{System, system, View, coefficients_at, link_placed, link_added, with_links, ground_of, grounded_of, assemble_of}
use Rattle.std.specs.Prelude.{None, Option, Some}

abbrev pub AllFit : List Float → Type 0
AllFit a = (p : ℕ) → T (fits binary64 (get_or a p nan))

pub set_fit : (a : List Float) (i : ℕ) (x : Float) → T (fits binary64 x) → AllFit a → AllFit (set a i x)
set_fit [] i x h f p = f p
set_fit (y ∷ a) zero x h f zero = h
set_fit (y ∷ a) zero x h f (suc p) = f (suc p)
set_fit (y ∷ a) (suc i) x h f zero = f 0
set_fit (y ∷ a) (suc i) x h f (suc p) = set_fit a i x h (λ q. f (suc q)) p

replicate_fit : (n : ℕ) (x : Float) → T (fits binary64 x) → AllFit (replicate n x)
replicate_fit zero x h p = nan-fits binary64
replicate_fit (suc n) x h zero = h
replicate_fit (suc n) x h (suc p) = replicate_fit n x h p

pub zeros_fit : (n : ℕ) → AllFit (zeros n)
unfolding zeros
zeros_fit n = replicate_fit n (of_bits binary64 0) (of_bits-fits binary64 0)

cleared_fit : (n : ℕ) (a : List Float) → AllFit a → AllFit (cleared n a)
unfolding cleared
cleared_fit zero a f = f
cleared_fit (suc n) a f = set_fit (cleared n a) n (of_bits binary64 0) (of_bits-fits binary64 0) (cleared_fit n a f)

diagonal_fit : (row : Row) (x : Float) (m : List Float) → AllFit m → AllFit (on_diagonal row x m)
unfolding on_diagonal add_to
diagonal_fit (Some u) x m f = set_fit m (64 * u.0 + u.0) (add binary64 (get_or m (64 * u.0 + u.0) nan) x) (add-fits binary64 (get_or m (64 * u.0 + u.0) nan) x) f
diagonal_fit None x m f = f

between_fit : (u v : Row) (x : Float) (m : List Float) → AllFit m → AllFit (off_between u v x m)
unfolding off_between take_from
between_fit (Some u) (Some v) x m f = set_fit m (lower u.0 v.0) (sub binary64 (get_or m (lower u.0 v.0) nan) x) (sub-fits binary64 (get_or m (lower u.0 v.0) nan) x) f
between_fit (Some u) None x m f = f
between_fit None v x m f = f

either_fit : (b : Bool) (z m : List Float) → AllFit z → AllFit m → AllFit (cond b z m)
either_fit true z m f g = f
either_fit false z m f g = g

given_fit : (a : Option NodeAddition) (row : Row) (m : List Float) → AllFit m → AllFit (given_diagonal a row m)
unfolding given_diagonal
given_fit None row m f = f
given_fit (Some a) row m f = diagonal_fit row a.diagonal m f

link_fit : (u v : Row) (c : Coefficients) (m : List Float) → AllFit m → AllFit (link_matrix u v c m)
unfolding link_matrix
link_fit u v c m f =
    let a = on_diagonal u c.conductance m in
    let b = on_diagonal v c.conductance a in
    let d = off_between u v c.conductance b in
    given_fit c.downstream v (given_diagonal c.upstream u d)
    (given_fit c.upstream u d (between_fit u v c.conductance b (diagonal_fit v c.conductance a (diagonal_fit u c.conductance m f))))

links_fit : (s : List ℕ) (l : Layout) (v : View) (t : System) (k : ℕ) → AllFit t.matrix → AllFit (with_links s l v k t).matrix
unfolding with_links link_added link_placed
links_fit s l v t zero f = f
links_fit s l v t (suc k) f = go (link_of s l k) (with_links s l v k t) (links_fit s l v t k f)
  where
    go : (z : Link) (was : System) → AllFit was.matrix → AllFit (link_added s l v z k was).matrix
    go z was g = on (enabled s l z.start && enabled s l z.end)
      where
        on : (b : Bool) → AllFit (cond b (link_placed s l v z (coefficients_at s l v.flows v.statuses v.excess z k) k was) was).matrix
        on true = link_fit (row_at s l z.start) (row_at s l z.end) (coefficients_at s l v.flows v.statuses v.excess z k) was.matrix g
        on false = g

bend_fit : (b : Bend) (row : Row) (m : List Float) → AllFit m → AllFit (bend_diagonal b row m)
unfolding bend_diagonal
bend_fit b row m f = either_fit (lt constant.zero (over constant.one b.conductance)) (on_diagonal row b.conductance m) m (diagonal_fit row b.conductance m f) f

bends_fit : (s : List ℕ) (l : Layout) (r : Pressures) (asked drawn m : List Float) (n : ℕ) → AllFit m → AllFit (diagonal_bends s l r asked drawn n m)
unfolding diagonal_bends node_diagonal
bends_fit s l r asked drawn m zero f = f
bends_fit s l r asked drawn m (suc n) f =
    let was = diagonal_bends s l r asked drawn n m in
    let bend = bend_of (get_or drawn n nan) (get_or asked n nan) (range_of r) in
    let g = bends_fit s l r asked drawn m n f in
    either_fit (bends s l asked n) (bend_diagonal bend (row_at s l n) was) was (bend_fit bend (row_at s l n) was g) g

bent_fit : (s : List ℕ) (l : Layout) (asked drawn m : List Float) → AllFit m → AllFit (bent_matrix s l asked drawn m)
unfolding bent_matrix
bent_fit s l asked drawn m f = either_fit l.pressures (diagonal_bends s l (pressures_of s) asked drawn l.nodes m) m (bends_fit s l (pressures_of s) asked drawn m l.nodes f) f

grounded_fit : (s : List ℕ) (l : Layout) (marks : List Bool) (m : List Float) (n : ℕ) → AllFit m → AllFit (grounded_of s l marks n m)
unfolding grounded_of ground_of
grounded_fit s l marks m zero f = f
grounded_fit s l marks m (suc n) f =
    let was = grounded_of s l marks n m in
    let g = grounded_fit s l marks m n f in
    either_fit (get_or marks n false) (on_diagonal (row_at s l n) constant.small_value was) was (diagonal_fit (row_at s l n) constant.small_value was g) g

pub assemble_fit : (s : List ℕ) (l : Layout) (v : View) (asked drawn : List Float) (marks : List Bool) (t : System) → AllFit t.matrix → AllFit (assemble_of s l v asked drawn marks t).matrix
unfolding assemble_of
assemble_fit s l v asked drawn marks t f =
    let w : System = system (cleared 4096 t.matrix) (cleared 64 t.rhs) t.g t.y in
    let m = (with_links s l v l.links w).matrix in
    grounded_fit s l marks (bent_matrix s l asked drawn m) l.nodes (bent_fit s l asked drawn m (links_fit s l v w l.links (cleared_fit 4096 t.matrix f)))
