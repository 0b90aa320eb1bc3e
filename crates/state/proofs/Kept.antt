-- What the columns keep: their lengths. Assumes nothing.
use mathlib.Core.Path.{◌≡◌, refl, ◌∙◌}
use mathlib.Core.List.{List}
use Prim.Native.Nat.{ℕ, zero, suc}
use lib.ListN.{length, length-set}
use lib.Ieee.{Float}
use Rattle.layout.specs.declared.places.Layout.{Layout}
use Rattle.numbering.specs.Numbering.{row_at, Row}
use Rattle.state.specs.State.{heads_from, demands_from, flows_from, codes_from, with_head, solved_heads}
use Rattle.std.specs.Prelude.{None, Some}

pub heads_long : (s : List ℕ) (l : Layout) (i : ℕ) (x : List Float) → length (heads_from s l i x) ≡ length x
unfolding heads_from
heads_long s l zero x = refl
heads_long s l (suc i) x = length-set (heads_from s l i x) i _ ∙ heads_long s l i x

pub demands_long : (s : List ℕ) (l : Layout) (i : ℕ) (x : List Float) → length (demands_from s l i x) ≡ length x
unfolding demands_from
demands_long s l zero x = refl
demands_long s l (suc i) x = length-set (demands_from s l i x) i _ ∙ demands_long s l i x

pub flows_long : (s : List ℕ) (l : Layout) (i : ℕ) (x : List Float) → length (flows_from s l i x) ≡ length x
unfolding flows_from
flows_long s l zero x = refl
flows_long s l (suc i) x = length-set (flows_from s l i x) i _ ∙ flows_long s l i x

pub codes_long : (s : List ℕ) (l : Layout) (i : ℕ) (x : List ℕ) → length (codes_from s l i x) ≡ length x
unfolding codes_from
codes_long s l zero x = refl
codes_long s l (suc i) x = length-set (codes_from s l i x) i _ ∙ codes_long s l i x

pub head_long : (row : Row) (x : List Float) (i : ℕ) (h : List Float) → length (with_head row x i h) ≡ length h
unfolding with_head
head_long (Some u) x i h = length-set h _ _
head_long None x i h = refl

pub solved_long : (s : List ℕ) (l : Layout) (x : List Float) (i : ℕ) (h : List Float) → length (solved_heads s l x i h) ≡ length h
unfolding solved_heads
solved_long s l x zero h = refl
solved_long s l x (suc i) h = head_long (row_at s l i) x i (solved_heads s l x i h) ∙ solved_long s l x i h
