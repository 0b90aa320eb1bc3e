-- What stands at the place of 1 to 5, and before it. Definitions only.
use Rattle.std.specs.Prelude.{ℕ, ◌*◌, ◌≤◌, ◌<◌, ◌≡◌, ◌⊎◌, Bool, true, false, List, length}
use Rattle.layout.specs.Places.{node_offset, link_offset, node_place, link_place}
use Rattle.layout.specs.declared.places.Layout.{Layout}
use Rattle.fields.specs.Fields.{base_bounds, options_good, pressures_good, node_good, link_good}
use Rattle.ends.specs.Ends.{ends_good}
use Rattle.sheet.specs.Scan.{readable, layout_of}
use Rattle.answers.specs.Answers.{Lent}

-- of n records, of which record i stands at place i, this one is the first that is not good
pub record FirstBad (good : ℕ → Bool) (place : ℕ → ℕ) (n i : ℕ) : Type 0 where
  pub one : i < n
  pub bad : good (place i) ≡ false
  pub earlier : (j : ℕ) → j < i → good (place j) ≡ true

-- the records that can be read, one behind the other: an OP, a PD or none, n ND and k LK; and there they end
pub record ReadTo (s : List ℕ) (pd : Bool) (n k : ℕ) : Type 0 where
  pub options : readable 79 80 29 s 0 ≡ true
  pub pressures : readable 80 68 18 s 29 ≡ pd
  pub nodes : (i : ℕ) → i < n → readable 78 68 45 s (node_offset pd i) ≡ true
  pub no_node : readable 78 68 45 s (node_offset pd n) ≡ false
  pub links : (j : ℕ) → j < k → readable 76 75 49 s (link_offset pd n j) ≡ true
  pub no_link : readable 76 75 49 s (link_offset pd n k) ≡ false

-- 1: no OP can be read at 0; or they end at the place, and the sheet does not
pub data Unread (s : List ℕ) : ℕ → Type 0 where
  no_options : readable 79 80 29 s 0 ≡ false → Unread s 0
  behind : (pd : Bool) (n k : ℕ) → ReadTo s pd n k → link_offset pd n k < length s → Unread s (link_offset pd n k)

-- the whole sheet can be read, and is laid out so
pub record WholeRead (s : List ℕ) (l : Layout) : Type 0 where
  pub read : ReadTo s l.pressures l.nodes l.links
  pub ends : link_place l l.links ≡ length s

-- 2: no node, or more than 64; or more than 128 links
pub data Miscounted (l : Layout) : ℕ → Type 0 where
  node_count : (l.nodes < 1) ⊎ (64 < l.nodes) → Miscounted l 0
  link_count : 1 ≤ l.nodes → l.nodes ≤ 64 → 128 < l.links → Miscounted l 1

pub record RightCounts (l : Layout) : Type 0 where
  pub some : 1 ≤ l.nodes
  pub nodes : l.nodes ≤ 64
  pub links : l.links ≤ 128

-- the OP's fields, and those of a PD, are within their bounds
pub record HeadingGood (s : List ℕ) (l : Layout) : Type 0 where
  pub options : options_good base_bounds s ≡ true
  pub pressures : l.pressures ≡ true → pressures_good base_bounds s ≡ true

-- 3: the first record that has a field outside its bounds: OP, PD, nodes, links
pub data OutOfBounds (s : List ℕ) (l : Layout) : ℕ → Type 0 where
  in_options_said : options_good base_bounds s ≡ false → OutOfBounds s l 0
  in_pressures_said : options_good base_bounds s ≡ true → l.pressures ≡ true → pressures_good base_bounds s ≡ false → OutOfBounds s l 29
  in_node : (i : ℕ) → HeadingGood s l → FirstBad (node_good base_bounds s) (node_place l) l.nodes i → OutOfBounds s l (node_place l i)
  in_link : (j : ℕ) → HeadingGood s l → ((i : ℕ) → i < l.nodes → node_good base_bounds s (node_place l i) ≡ true)
      → FirstBad (link_good base_bounds l.nodes s) (link_place l) l.links j → OutOfBounds s l (link_place l j)

-- no record has one
pub record InBounds (s : List ℕ) (l : Layout) : Type 0 where
  pub head : HeadingGood s l
  pub nodes : (i : ℕ) → i < l.nodes → node_good base_bounds s (node_place l i) ≡ true
  pub links : (j : ℕ) → j < l.links → link_good base_bounds l.nodes s (link_place l j) ≡ true

-- what stands at the place of 1 to 4, where no lower number has a cause
pub data RefusedFor (s : List ℕ) : ℕ → ℕ → Type 0 where
  unread : (place : ℕ) → Unread s place → RefusedFor s 1 place
  miscounted : (place : ℕ) → WholeRead s (layout_of s) → Miscounted (layout_of s) place → RefusedFor s 2 place
  outside : (place : ℕ) → WholeRead s (layout_of s) → RightCounts (layout_of s) → OutOfBounds s (layout_of s) place → RefusedFor s 3 place
  ends : (j : ℕ) → WholeRead s (layout_of s) → RightCounts (layout_of s) → InBounds s (layout_of s)
      → FirstBad (ends_good (layout_of s) s) (link_place (layout_of s)) (layout_of s).links j → RefusedFor s 4 (link_place (layout_of s) j)

-- buffer i, of this length where so much is asked, is too short if the place is its number, and long enough if the place is higher
pub record Tested (place i has asked : ℕ) : Type 0 where
  pub here : place ≡ i → has < asked
  pub passed : i < place → asked ≤ has

-- 5: the place is that of the lowest buffer that is too short
pub record ShortAt (l : Layout) (trials : ℕ) (b : Lent) (place : ℕ) : Type 0 where
  pub one : place < 6
  pub heads : Tested place 0 (length b.heads) l.nodes
  pub demands : Tested place 1 (length b.demands) l.nodes
  pub flows : Tested place 2 (length b.flows) l.links
  pub statuses : Tested place 3 (length b.statuses) l.links
  pub entries : Tested place 4 (length b.entries) (4 * trials)
  pub scratch : Tested place 5 (length b.scratch) 4096
