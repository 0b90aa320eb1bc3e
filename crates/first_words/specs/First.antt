-- What the first words of a line are together: the three names of a link, a key of two words. Definitions only.
use Rattle.std.specs.Prelude.{ℕ, Bool, ◌&&◌, List}
use Rattle.line_fields.specs.Fields.{name_at, keyword_at}

-- a link: 0 name, 1 and 2 its nodes
unfoldable pub names_good : List (List ℕ) → Bool
names_good ws = name_at ws 0 && name_at ws 1 && name_at ws 2

-- the key of an option
unfoldable pub pair_is : List (List ℕ) → List ℕ → List ℕ → Bool
pair_is ws first second = keyword_at ws 0 first && keyword_at ws 1 second
