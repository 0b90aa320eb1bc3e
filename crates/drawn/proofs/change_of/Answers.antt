-- `drawn::change_of` meets its contract. Assumes nothing.
use Rattle.drawn.specs.Drawn.{change_of}
use borrow.Author.Rules.{rules}
use native.Mathlib.Omega.{arith}
use Prim.Native.Nat.{ℕ, suc, ◌+◌, ◌*◌, ◌-◌, ◌≤◌, ◌<◌}
use mathlib.Core.Path.{◌≡◌, refl, sym, ap, ◌∙◌}
use native.Mathlib.Numerals.{add-one}
use lib.ListN.{length, get_or, set, length-set}
use Rattle.drawn.proofs.change_of.Goals as goal

pub returns : goal.returns
unfolding change_of
returns c = refl
