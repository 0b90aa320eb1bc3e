-- The search for a repair, as laws of its definition. Assumes nothing.
use mathlib.Core.Path.{◌≡◌, refl}
use mathlib.Core.List.{List}
use Prim.Native.Nat.{ℕ}
use Rattle.found.specs.Searches.{first_of}
use Rattle.repairs_shown.specs.Shown.{shows, repair_shown}

pub shown_first : (bytes : List ℕ) (n : ℕ) → first_of (shows bytes) n ≡ repair_shown bytes n
unfolding repair_shown
shown_first bytes n = refl
