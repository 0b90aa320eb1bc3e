-- What the record and the tally keep. Assumes nothing.
use Prim.Native.Nat.{ℕ}
use mathlib.Core.Path.{◌≡◌}
use mathlib.Core.List.{List}
use lib.ListN.{length, length-set}
use Rattle.marks.specs.Marks.{put_of}
use Rattle.marks.specs.declared.Mark.{Mark}

pub put_long : (r : List ℕ) (i : ℕ) (m : Mark) → length (put_of r i m) ≡ length r
unfolding put_of
put_long r i m = simp length-set
