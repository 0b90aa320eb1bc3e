-- The lines one after the other: a turn of each loop, and how long the lines are at most. Assumes nothing.
use Prim.Native.Nat.{ℕ, zero, suc, ◌+◌, ◌*◌, ◌≤◌}
use mathlib.Core.Path.{◌≡◌}
use mathlib.Core.List.{List}
use native.Mathlib.Numerals.{add-one}
use native.Mathlib.Omega.{arith}
use lib.ListN.{length, get_or, length-append}
use lib.Ieee.{Float, nan}
use Rattle.words.specs.Buffer.{Put}
use Rattle.words.proofs.Laws.{nothing, then}
use Rattle.words.proofs.WordLaws.{number_length, float_length}
use Rattle.results.specs.Lines.{node_line, node_lines, link_line, link_lines, balance_line}

module _ {old out new : List ℕ} {at p r : ℕ} where
  pub node_turn : (h d : List Float) (i : ℕ) → Put old at (node_lines h d i) out p → Put out p (node_line i (get_or h i nan) (get_or d i nan)) new r → Put old at (node_lines h d (i + 1)) new r
  unfolding node_lines
  node_turn h d i x y = rw add-one (then x y)

  pub link_turn : (f : List Float) (s : List ℕ) (i : ℕ) → Put old at (link_lines f s i) out p → Put out p (link_line i (get_or f i nan) (get_or s i 0)) new r → Put old at (link_lines f s (i + 1)) new r
  unfolding link_lines
  link_turn f s i x y = rw add-one (then x y)

pub no_nodes : (h d : List Float) (out : List ℕ) (at : ℕ) → Put out at (node_lines h d 0) out at
unfolding node_lines
no_nodes h d out at = nothing out at

pub no_links : (f : List Float) (s out : List ℕ) (at : ℕ) → Put out at (link_lines f s 0) out at
unfolding link_lines
no_links f s out at = nothing out at

node_length : (i : ℕ) (head demand : Float) → length (node_line i head demand) ≤ 128
unfolding node_line
node_length i h d = simp length-append (omega (arith, number_length i, float_length h, float_length d))

link_length : (i : ℕ) (flow : Float) (status : ℕ) → length (link_line i flow status) ≤ 128
unfolding link_line
link_length i f s = simp length-append (omega (arith, number_length i, float_length f, number_length s))

pub balance_length : (demand supply error : Float) → length (balance_line demand supply error) ≤ 128
unfolding balance_line
balance_length d s e = simp length-append (omega (arith, float_length d, float_length s, float_length e))

pub nodes_length : (h d : List Float) (n : ℕ) → length (node_lines h d n) ≤ 128 * n
unfolding node_lines
nodes_length h d zero = omega arith
nodes_length h d (suc n) = simp length-append (omega (arith, nodes_length h d n, node_length n (get_or h n nan) (get_or d n nan)))

pub links_length : (f : List Float) (s : List ℕ) (k : ℕ) → length (link_lines f s k) ≤ 128 * k
unfolding link_lines
links_length f s zero = omega arith
links_length f s (suc k) = simp length-append (omega (arith, links_length f s k, link_length k (get_or f k nan) (get_or s k 0)))
