-- A text as its bytes, so that definitions can name keywords as they are written. Definitions only.
use Rattle.std.specs.Prelude.{ℕ, List, [] as none, ◌∷◌ as ◌then◌}
use Prim.Native.Char.{code}
use Prim.Native.String.{String, [], ◌∷◌}

unfoldable pub bytes_of : String → List ℕ
bytes_of [] = none
bytes_of (c ∷ s) = code c then bytes_of s
