-- What may be relied on of the reading of an EPANET text. Definitions and statements only.
use Rattle.std.specs.Prelude.{ℕ, zero, suc, ◌<◌, ◌≡◌, List, [], Ok, Err, length, get_or, drop}
use Rattle.lines.specs.Lines.{lines_of}
use Rattle.line_words.specs.Words.{words_of}
use Rattle.known.specs.Known.{Known, Verdict, nothing_known, line_fault, line_taken, Surveyed, survey_of}
use Rattle.known.specs.declared.Refused.{Refused}
use Rattle.from_text.specs.FromText.{FromText, from_text}

-- what the first i lines make known
unfoldable pub known_after : List (List ℕ) → ℕ → Known
known_after ls zero = nothing_known
known_after ls (suc i) = line_taken (known_after ls i) (words_of (get_or ls i []))

-- what line i, from 0, is refused with behind them
unfoldable pub fault_at : List (List ℕ) → ℕ → Verdict
unfolding known_after
fault_at ls i = line_fault (known_after ls i) (words_of (get_or ls i []))

-- the earliest line wins: line number i + 1 is refused, and no earlier one is
pub record FirstRefused (ls : List (List ℕ)) (v : Surveyed) (r : Refused) (i : ℕ) : Type 0 where
  pub there : i < length ls
  pub line : r.line ≡ suc i
  pub fault : fault_at ls i ≡ Err r.fault
  pub known : v.known ≡ known_after ls i
  pub earlier : (j : ℕ) → j < i → fault_at ls j ≡ Ok tt

-- no line is refused, and all of them are known
pub record AllTaken (ls : List (List ℕ)) (v : Surveyed) : Type 0 where
  pub every : (j : ℕ) → j < length ls → fault_at ls j ≡ Ok tt
  pub known : v.known ≡ known_after ls (length ls)

-- whatever the text, one of the two
pub record Told (t : List ℕ) : Type 0 where
  pub taken : (survey_of t).told ≡ Ok tt → AllTaken (lines_of t) (survey_of t)
  pub refused : (r : Refused) → (survey_of t).told ≡ Err r → (i : ℕ) × FirstRefused (lines_of t) (survey_of t) r i

-- what is lent, after a call: refused, both buffers are as they were; taken, every byte behind the sheet and behind the names is
pub record Stays (sheet names : List ℕ) (r : FromText) : Type 0 where
  pub refused : (r.taken.number ≡ 0 → ⊥) → (r.sheet ≡ sheet) × (r.names ≡ names)
  pub sheet_behind : r.taken.number ≡ 0 → drop r.taken.bytes r.sheet ≡ drop r.taken.bytes sheet
  pub names_behind : r.taken.number ≡ 0 → drop r.taken.names r.names ≡ drop r.taken.names names

-- of any text and any buffers
pub record Lent : Type 0 where
  pub stays : (t sheet names : List ℕ) → Stays sheet names (from_text t sheet names)
