-- What the code puts together from its calls' results is what the definition says, over plain variables. Assumes nothing.
use mathlib.Core.Path.{◌≡◌}
use mathlib.Core.Bool.{Bool, not, ◌&&◌, ◌||◌}
use mathlib.Core.List.{List}
use Prim.Native.Nat.{ℕ, ◌+◌}
use lib.Dec.{eqb}
use Rattle.layout.specs.declared.places.Layout.{Layout}
use Rattle.records.specs.Records.{byte_at, pair_at}
use Rattle.nodes.specs.Nodes.{in_service}
use Rattle.ends.specs.Ends.{ends_good}

pub ends_good_lem : (s : List ℕ) (l : Layout) (at m n : ℕ) (x y : Bool) → m ≡ pair_at s (at + 5) → n ≡ pair_at s (at + 7) → x ≡ in_service s l n → y ≡ in_service s l m → (not (eqb m n) && (not (eqb (byte_at s (at + 2)) 1) || x) && (not (eqb (byte_at s (at + 2)) 2) || y)) ≡ ends_good l s at
unfolding ends_good
ends_good_lem s l at m n x y a b c d = rw (c, d, a, b)
