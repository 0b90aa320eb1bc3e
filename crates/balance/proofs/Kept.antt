-- What the demands keep as they settle. Assumes nothing.
use mathlib.Core.Path.{◌≡◌, refl, ◌∙◌}
use mathlib.Core.List.{List}
use Prim.Native.Nat.{ℕ, zero, suc}
use lib.ListN.{length}
use lib.Ieee.{Float}
use Rattle.constants.specs.Constants as constant
use Rattle.columns.proofs.Laws.{add_long}
use Rattle.balance.specs.Balance.{settled_of}

pub settled_long : (i : ℕ) (d : List Float) → length (settled_of i d) ≡ length d
unfolding settled_of
settled_long zero d = refl
settled_long (suc i) d = add_long (settled_of i d) i constant.zero ∙ settled_long i d
