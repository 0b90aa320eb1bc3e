-- What a reading comes to, by its cases. Assumes nothing.
use Prim.Native.Nat.{ℕ, ◌≤◌}
use mathlib.Core.Path.{◌≡◌, refl, sym, ◌∙◌}
use mathlib.Core.Bool.{Bool, true, false, not, ◌||◌}
use mathlib.Core.List.{List}
use native.Mathlib.Omega.{arith}
use lib.Dec.{ltb, leb}
use lib.ListN.{length}
use borrow.Author.Tests.{leb-true, leb-false, ltb-false, le-ltb, lt-ltb}
use Rattle.std.specs.Prelude.{⊤, Result, Ok, Err}
use Rattle.words.specs.Buffer.{placed}
use Rattle.line_fields.specs.Fields.{number_of}
use Rattle.known.specs.Known.{Known, survey_of}
use Rattle.known.specs.declared.Refused.{Refused}
use Rattle.text_sheet.specs.Sheet.{sheet_of, names_of}
use Rattle.from_text.specs.declared.Taken.{Taken}
use Rattle.from_text.specs.FromText.{FromText, refused, put_of, after_survey, from_text}

-- ---- the whole: refused in a line, or put

module _ (t sheet names : List ℕ) (v : Result ⊤ Refused) (x : Known) (is : record { told = v; known = x } ≡ survey_of t) where
  pub line_refused : (r : Refused) (o : Taken) → v ≡ Err r → o ≡ refused (number_of r.fault) r.line → record { taken = o; sheet = sheet; names = names } ≡ from_text t sheet names
  unfolding from_text after_survey
  line_refused r o h d = rw (← is, h, d) refl

  pub all_taken : (r : FromText) → v ≡ Ok tt → r ≡ put_of x sheet names → r ≡ from_text t sheet names
  unfolding from_text after_survey
  all_taken r h d = rw (← is, h, d) refl

-- ---- what is known: too short a buffer, or put

not_leb : (a b : ℕ) → not (leb b a) ≡ ltb a b
not_leb a b = go (leb b a) refl
  where
    go : (c : Bool) → leb b a ≡ c → not (leb b a) ≡ ltb a b
    go true e = rw e (sym (le-ltb a b (leb-true b a e)))
    go false e = rw e (sym (lt-ltb a b (leb-false b a e)))

-- there is room for each
neither : (a b : Bool) → (a || b) ≡ false → (a ≡ false) × (b ≡ false)
neither true b e = absurd (let z : ◌≡◌ {A = ℕ} 0 1 = cc in omega (arith, z))
neither false b e = (refl, e)

pub room_for : (x : Known) (sheet names : ℕ) → (ltb sheet (length (sheet_of x)) || ltb names (length (names_of x))) ≡ false → (length (sheet_of x) ≤ sheet) × (length (names_of x) ≤ names)
room_for x sheet names e =
    let n = neither (ltb sheet (length (sheet_of x))) (ltb names (length (names_of x))) e in
    (ltb-false sheet (length (sheet_of x)) n.0, ltb-false names (length (names_of x)) n.1)

module _ (x : Known) (sheet names : List ℕ) (bytes : ℕ) (fit : Bool) (b : bytes ≡ length (sheet_of x)) (f : fit ≡ leb (length (names_of x)) (length names)) where
  -- the test of the code is that of the rule
  test_is : (ltb (length sheet) bytes || not fit) ≡ (ltb (length sheet) (length (sheet_of x)) || ltb (length names) (length (names_of x)))
  test_is = rw (b, f, not_leb (length names) (length (names_of x))) refl

  pub too_short_lem : (o : Taken) → (ltb (length sheet) bytes || not fit) ≡ true → o ≡ refused 5 6 → record { taken = o; sheet = sheet; names = names } ≡ put_of x sheet names
  unfolding put_of
  too_short_lem o e d = rw (sym test_is ∙ e, d) refl

  pub both_fit : (ltb (length sheet) bytes || not fit) ≡ false → (length (sheet_of x) ≤ length sheet) × (length (names_of x) ≤ length names)
  both_fit e = room_for x (length sheet) (length names) (sym test_is ∙ e)

  pub both_put : (sheet' names' : List ℕ) (o : Taken) → (ltb (length sheet) bytes || not fit) ≡ false → o ≡ record { number = 0; place = 0; nodes = length x.nodes; links = length x.links; bytes = length (sheet_of x); names = length (names_of x) } → sheet' ≡ placed sheet 0 (sheet_of x) → names' ≡ placed names 0 (names_of x) → record { taken = o; sheet = sheet'; names = names' } ≡ put_of x sheet names
  unfolding put_of
  both_put sheet' names' o e d s n = rw (sym test_is ∙ e, d, s, n) refl

pub same_counts : {n n' k k' b b' z z' : ℕ} → n ≡ n' → k ≡ k' → b ≡ b' → z ≡ z' → ◌≡◌ {A = Taken} (record { number = 0; place = 0; nodes = n; links = k; bytes = b; names = z }) (record { number = 0; place = 0; nodes = n'; links = k'; bytes = b'; names = z' })
same_counts e f g h = rw (e, f, g, h) refl
