-- The layout of a sheet read byte by byte, for sheets too long to be held. Definitions only.
use Rattle.std.specs.Prelude.{ℕ, ◌+◌, Bool, true, false, cond, ◌&&◌, ◌||◌, List, [], ◌∷◌, eqb, leb, ltb}
use Rattle.layout.specs.Places.{node_offset, link_offset}
use Rattle.refusals.specs.Refusals.{number_of, place_of}
use Rattle.text.specs.Lines.{answer_line}
use Rattle.refusals.specs.declared.refusals.Refusal.{Refusal}
use Rattle.refusals.specs.declared.refusals.Refusal.TheVariants.{Unreadable, NodeCount, LinkCount}
use Rattle.stream.specs.declared.Progress.{Progress}
use Rattle.stream.specs.declared.Progress.TheVariants.{Options, Pressures, Nodes, Links, Stopped}

-- b may be byte number `got` of a record with the mark's two letters
unfoldable pub fits : ℕ → ℕ → ℕ → ℕ → Bool
fits first second got b = cond (eqb got 0) (eqb b first) (cond (eqb got 1) (eqb b second) true)

-- one byte more: a record grows, is whole with its last byte, or can't be read
unfoldable pub in_links : Bool → ℕ → ℕ → ℕ → ℕ → Progress
unfolding fits
in_links pressures n k got b =
    cond (fits 76 75 got b) (cond (ltb got 48) (Links pressures n k (got + 1)) (Links pressures n (k + 1) 0)) (Stopped (link_offset pressures n k))

unfoldable pub in_nodes : Bool → ℕ → ℕ → ℕ → Progress
unfolding fits
in_nodes pressures n got b =
    cond (fits 78 68 got b) (cond (ltb got 44) (Nodes pressures n (got + 1)) (Nodes pressures (n + 1) 0)) (Stopped (node_offset pressures n))

unfoldable pub in_pressures : ℕ → ℕ → Progress
unfolding fits
in_pressures got b = cond (fits 80 68 got b) (cond (ltb got 17) (Pressures (got + 1)) (Nodes true 0 0)) (Stopped 29)

unfoldable pub in_options : ℕ → ℕ → Progress
unfolding fits
in_options got b = cond (fits 79 80 got b) (cond (ltb got 28) (Options (got + 1)) (Pressures 0)) (Stopped 0)

-- an `L` where a node could start is the first link's
unfoldable pub at_nodes : Bool → ℕ → ℕ → ℕ → Progress
unfolding in_links in_nodes
at_nodes pressures n got b = cond (eqb got 0 && eqb b 76) (in_links pressures n 0 0 b) (in_nodes pressures n got b)

-- straight after the OP a `P` is a PD's; any other byte stands where nodes do
unfoldable pub at_pressures : ℕ → ℕ → Progress
unfolding in_pressures at_nodes
at_pressures got b = cond (ltb 0 got || eqb b 80) (in_pressures got b) (at_nodes false 0 0 b)

unfoldable pub step_of : Progress → ℕ → Progress
unfolding in_links at_nodes at_pressures in_options
step_of (Options got) b = in_options got b
step_of (Pressures got) b = at_pressures got b
step_of (Nodes pressures n got) b = at_nodes pressures n got b
step_of (Links pressures n k got) b = in_links pressures n k got b
step_of (Stopped at) b = Stopped at

unfoldable pub fed_of : Progress → List ℕ → Progress
unfolding step_of
fed_of p [] = p
fed_of p (b ∷ s) = fed_of (step_of p b) s

-- how many nodes and links were read
unfoldable pub count_of : Progress → ℕ
count_of (Options got) = 0
count_of (Pressures got) = 0
count_of (Nodes pressures n got) = n
count_of (Links pressures n k got) = n + k
count_of (Stopped at) = 0

-- why a sheet that is longer than any good one is refused, once its last byte was read: a record is
-- cut, or there are more records than a sheet may have, or no nodes
unfoldable pub end_in_nodes : Bool → ℕ → ℕ → Refusal
end_in_nodes pressures n got = cond (eqb got 0) NodeCount (Unreadable (node_offset pressures n))

unfoldable pub end_in_links : Bool → ℕ → ℕ → ℕ → Refusal
end_in_links pressures n k got = cond (eqb got 0) (cond (leb 1 n && leb n 64) LinkCount NodeCount) (Unreadable (link_offset pressures n k))

-- a PD that is cut is told as a first node that is
unfoldable pub refusal_of : Progress → Refusal
unfolding end_in_nodes end_in_links
refusal_of (Options got) = Unreadable 0
refusal_of (Pressures got) = end_in_nodes false 0 got
refusal_of (Nodes pressures n got) = end_in_nodes pressures n got
refusal_of (Links pressures n k got) = end_in_links pressures n k got
refusal_of (Stopped at) = Unreadable at

-- the listing of such a sheet: its A line alone
unfoldable pub line_of : Refusal → List ℕ
line_of r = answer_line (number_of r) (place_of r) 0 0 0
