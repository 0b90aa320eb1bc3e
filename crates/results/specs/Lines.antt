-- The lines of nodes, links and the balance as ASCII bytes. Definitions only.
use Rattle.std.specs.Prelude.{ℕ, zero, suc, List, [], ◌∷◌, ◌++◌, get_or, Float}
use Rattle.std.specs.Float.{nan}
use Rattle.words.specs.Words.{number_word, float_word, newline}

-- "N i head demand", for the first n nodes
unfoldable pub node_line : ℕ → Float → Float → List ℕ
node_line i head demand = 78 ∷ [] ++ number_word i ++ float_word head ++ float_word demand ++ newline

unfoldable pub node_lines : List Float → List Float → ℕ → List ℕ
node_lines heads demands zero = []
node_lines heads demands (suc n) = node_lines heads demands n ++ node_line n (get_or heads n nan) (get_or demands n nan)

-- "L i flow status", for the first k links
unfoldable pub link_line : ℕ → Float → ℕ → List ℕ
link_line i flow status = 76 ∷ [] ++ number_word i ++ float_word flow ++ number_word status ++ newline

unfoldable pub link_lines : List Float → List ℕ → ℕ → List ℕ
link_lines flows statuses zero = []
link_lines flows statuses (suc k) = link_lines flows statuses k ++ link_line k (get_or flows k nan) (get_or statuses k 0)

-- "B demand supply error"
unfoldable pub balance_line : Float → Float → Float → List ℕ
balance_line demand supply error = 66 ∷ [] ++ float_word demand ++ float_word supply ++ float_word error ++ newline
