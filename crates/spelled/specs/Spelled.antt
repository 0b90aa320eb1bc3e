-- A word that is a keyword, in capitals or not, and two words that are the same. Definitions only.
use Rattle.std.specs.Prelude.{ℕ, ◌-◌, Bool, true, false, cond, ◌&&◌, List, [], ◌∷◌, eqb, leb}

-- two lists of one length, each byte of the first agreeing with that of the second once f is taken of it
unfoldable pub agree : (ℕ → ℕ) → List ℕ → List ℕ → Bool
agree f [] [] = true
agree f [] (k ∷ ks) = false
agree f (c ∷ cs) [] = false
agree f (c ∷ cs) (k ∷ ks) = eqb (f c) k && agree f cs ks

-- "a" to "z" are 97 to 122, and "A" is 65
unfoldable pub capital_of : ℕ → ℕ
capital_of c = cond {A = ℕ} (leb 97 c && leb c 122) (c - 32) c

unfoldable pub spelled_as : List ℕ → List ℕ → Bool
spelled_as word keyword = agree capital_of word keyword

unfoldable pub itself : ℕ → ℕ
itself c = c

unfoldable pub same_bytes : List ℕ → List ℕ → Bool
same_bytes word other = agree itself word other
