-- The places of a line's words, filled in one word at a time, and read back. Assumes nothing.
use mathlib.Core.Path.{◌≡◌, refl, sym, ap, ◌∙◌}
use mathlib.Core.Bool.{Bool, true, false}
use mathlib.Core.Logic.{⊎_elim}
use mathlib.Core.List.{List, [], ◌∷◌}
use Prim.Native.Nat.{ℕ, zero, suc, ◌+◌, ◌≤◌, ◌<◌, zero-le}
use native.Mathlib.Nat.{eq-or-lt_of_le}
use native.Mathlib.Numerals.{add-one}
use native.Mathlib.Omega.{arith}
use borrow.Author.Tests.{ltb-true, ltb-false}
use lib.Dec.{ltb}
use lib.ListN.{length, get_or, set, replicate, length-set}
use lib.Seq.{get_or-set_same, get_or-set_other}
use Rattle.lines.specs.Lines.{passage}
use Rattle.line_words.specs.declared.Word.{Word}
use Rattle.line_words.specs.Words.{words_of, word_from, word_at}
use Rattle.std.proofs.lemmas.List.{get_or-replicate}
use Rattle.line_words.proofs.Words.{word_placed, past_the_end}
use Rattle.word_places.specs.Places.{Words}

-- where word k is looked for
pub begins : List ℕ → ℕ → ℕ
begins l zero = 0
begins l (suc k) = (word_at l k).end

word_from_lem : (l : List ℕ) (k : ℕ) → word_at l k ≡ word_from l (begins l k)
unfolding word_at begins
word_from_lem l zero = refl
word_from_lem l (suc k) = refl

begins_within : (l : List ℕ) (k : ℕ) → begins l k ≤ length l
unfolding begins
begins_within l zero = zero-le
begins_within l (suc k) = (word_placed l k).within

abbrev pub nowhere : Word
nowhere = record { start = 0; end = 0 }

-- where no word stands
abbrev pub none_in : List ℕ → Word
none_in l = record { start = length l; end = length l }

-- a word that is looked for at the end is none, and so are those behind it
begins_on : (l : List ℕ) (k : ℕ) → begins l k ≡ length l → (i : ℕ) → k ≤ i → begins l i ≡ length l
unfolding begins
begins_on l k e zero h = let z : k ≡ 0 = omega arith in rw z at e
begins_on l k e (suc i) h =
    ⊎_elim
    (λ (q : k ≡ suc i). rw q at e)
    (λ (q : k < suc i). ap (λ (w : Word). w.end) (word_from_lem l i ∙ ap (word_from l) (begins_on l k e i (omega arith)) ∙ sym (past_the_end l (length l) (omega arith))))
    (eq-or-lt_of_le h)

none_behind : (l : List ℕ) (k i : ℕ) → begins l k ≡ length l → k ≤ i → word_at l i ≡ none_in l
none_behind l k i e h = word_from_lem l i ∙ ap (word_from l) (begins_on l k e i h) ∙ sym (past_the_end l (length l) (omega arith))

-- ---- the first k words are in their places

pub record Filled (l : List ℕ) (places : List Word) (at k : ℕ) : Type 0 where
  pub long : length places ≡ 10
  pub each : (i : ℕ) → i < k → get_or places i nowhere ≡ word_at l i
  pub from : at ≡ begins l k
  pub few : k ≤ 10

pub first : (l : List ℕ) (places : List Word) → length places ≡ 10 → Filled l places 0 0
unfolding begins
first l places e = record { long = e; each = λ i h. absurd (omega arith); from = refl; few = omega arith }

module _ {l : List ℕ} {places : List Word} {at k : ℕ} (p : Filled l places at k) where
  pub at_within : at ≤ length l
  at_within = omega (arith, p.from, begins_within l k)

  pub next : k < 10 → (w : Word) → w ≡ word_from l at → Filled l (set places k w) w.end (k + 1)
  unfolding begins
  next h w e =
      record {
        long = length-set places k w ∙ p.long;
        each = λ i j. ⊎_elim (λ (q : i ≡ k). rw q this) (λ (q : i < k). other i q) (eq-or-lt_of_le (upto i j));
        from = ap (λ (v : Word). v.end) is ∙ ap (begins l) (sym (add-one k));
        few = omega arith;
      }
    where
      is : w ≡ word_at l k
      is = e ∙ ap (word_from l) p.from ∙ sym (word_from_lem l k)

      upto : (i : ℕ) → i < k + 1 → i ≤ k
      upto i j = omega arith

      this : get_or (set places k w) k nowhere ≡ word_at l k
      this = get_or-set_same places k w nowhere (omega (arith, p.long)) ∙ is

      other : (i : ℕ) → i < k → get_or (set places k w) i nowhere ≡ word_at l i
      other i q = get_or-set_other places k i w nowhere (λ r. omega arith) ∙ p.each i q

  pub all : 10 ≤ k → Words l places
  all h = record { long = p.long; each = λ i j. p.each i (omega arith) }

-- ---- and none in the others

pub record NoneBehind (l : List ℕ) (places : List Word) (at k : ℕ) : Type 0 where
  pub filled : Filled l places at k
  pub rest : (i : ℕ) → k ≤ i → i < 10 → get_or places i nowhere ≡ none_in l

none_yet : (l : List ℕ) → NoneBehind l (replicate 10 (none_in l)) 0 0
none_yet l = record { filled = first l _ refl; rest = λ i h j. get_or-replicate 10 i (none_in l) nowhere j }

module _ {l : List ℕ} {places : List Word} {at k : ℕ} (p : NoneBehind l places at k) where
  pub next_behind : k < 10 → (w : Word) → w ≡ word_from l at → NoneBehind l (set places k w) w.end (k + 1)
  next_behind h w e =
      record {
        filled = next p.filled h w e;
        rest = λ i j m. get_or-set_other places k i w nowhere (λ r. omega arith) ∙ p.rest i (omega arith) m;
      }

  -- the next would be looked for at the end
  pub no_more : at ≡ length l → Words l places
  no_more e = record { long = p.filled.long; each = λ i j. go i j (ltb i k) refl }
    where
      go : (i : ℕ) → i < 10 → (b : Bool) → ltb i k ≡ b → get_or places i nowhere ≡ word_at l i
      go i j true f = p.filled.each i (ltb-true i k f)
      go i j false f = let q : k ≤ i = ltb-false i k f in p.rest i q j ∙ sym (none_behind l k i (sym p.filled.from ∙ e) q)

-- the word found first is in its place
pub first_behind : (l : List ℕ) (w : Word) → w ≡ word_from l 0 → NoneBehind l (w ∷ replicate 9 (none_in l)) w.end 1
first_behind l w is = next_behind (none_yet l) (omega arith) w is

-- ---- read back

module _ {l : List ℕ} {places : List Word} (p : Words l places) (k : ℕ) (h : k < 10) where
  abbrev w : Word
  w = get_or places k nowhere

  pub in_order : w.start ≤ w.end
  in_order = rw (p.each k h) (word_placed l k).to

  pub inside : w.end ≤ length l
  inside = rw (p.each k h) (word_placed l k).within

  pub reads : passage w.start w.end l ≡ get_or (words_of l) k []
  reads = rw (p.each k h) (word_placed l k).word

  pub has : ltb w.start w.end ≡ ltb k (length (words_of l))
  has = rw (p.each k h) (word_placed l k).there
