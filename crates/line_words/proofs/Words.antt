-- The word at a place is the first of the words from there on, and behind it the others stand. Assumes nothing.
use mathlib.Core.Path.{◌≡◌, refl, sym, ap, ◌∙◌, subst}
use mathlib.Core.Bool.{Bool, true, false, cond, not, ◌||◌, false≢true}
use mathlib.Core.List.{List, [], ◌∷◌}
use Prim.Native.Nat.{ℕ, zero, suc, ◌+◌, ◌-◌, ◌≤◌, ◌<◌, zero-le}
use native.Mathlib.Nat.{add-zero}
use native.Mathlib.Numerals.{add-one}
use native.Mathlib.Omega.{arith}
use lib.Dec.{eqb, ltb}
use borrow.Author.Tests.{lt-ltb, le-ltb, eq-eqb, ne_eqb, eqb-true, eqb-false, ltb-true, ltb-false}
use lib.ListN.{length, get_or, take, drop, length-drop, drop_of_length-le, get_or-eq_default}
use lib.Seq.{drop-drop, get_or-drop, drop-cons}
use Rattle.lines.specs.Lines.{pieces, passage, stretch}
use Rattle.lines.proofs.Stretches.{ends}
use Rattle.lines.proofs.Lines.{stretch_within}
use Rattle.line_words.specs.declared.Word.{Word}
use Rattle.line_words.specs.Words.{is_blank, is_comment, before_comment, filled, words_of, not_blank, ends_word, word_from, word_at}

-- ---- the cases of `wordFrom`

pub none_past : (l : List ℕ) (start : ℕ) → length l ≤ start → get_or l start 0 ≡ 59 → ⊥
none_past l start h e = let z : ◌≡◌ {A = ℕ} 0 59 = sym (get_or-eq_default l 0 h) ∙ e in absurd (omega arith)

module _ (l : List ℕ) (at start : ℕ) (is : start ≡ at + stretch not_blank (drop at l)) where
  pub at_comment : get_or l start 0 ≡ 59 → record { start = length l; end = length l } ≡ word_from l at
  unfolding word_from is_comment
  at_comment e = sym (rw (sym is, e))

  pub at_word : (end : ℕ) → (get_or l start 0 ≡ 59 → ⊥) → end ≡ start + stretch ends_word (drop start l) → record { start = start; end = end } ≡ word_from l at
  unfolding word_from is_comment
  at_word end n e = sym (rw (sym is, ne_eqb (get_or l start 0) 59 n, sym e))

  pub at_end : length l ≤ start → record { start = start; end = start } ≡ word_from l at
  at_end h = at_word start (none_past l start h) (omega (arith, ends ends_word l start h))

-- nothing stands behind the last byte
pub past_the_end : (l : List ℕ) (at : ℕ) → length l ≤ at → record { start = at; end = at } ≡ word_from l at
past_the_end l at h = at_end l at at (omega (arith, ends not_blank l at h)) h

-- ---- the words of a list, by its first byte

no_comment : (c : ℕ) → is_blank c ≡ true → is_comment c ≡ false
unfolding is_blank is_comment
no_comment c e = ne_eqb c 59 (λ f. absurd (false≢true (rw f at e)))

pub blank_passed : (c : ℕ) (cs : List ℕ) → is_blank c ≡ true → words_of (c ∷ cs) ≡ words_of cs
unfolding words_of before_comment pieces filled
blank_passed c cs e = rw (no_comment c e, e)

pub comment_none : (c : ℕ) (cs : List ℕ) → is_comment c ≡ true → words_of (c ∷ cs) ≡ []
unfolding words_of before_comment pieces filled
comment_none c cs e = rw e

pub none : words_of [] ≡ []
unfolding words_of before_comment pieces filled
none = refl

-- the first piece, whether it has bytes or not, and the words behind it
record Piece (cs : List ℕ) : Type 0 where
  rest : List (List ℕ)
  is : pieces is_blank (before_comment cs) ≡ take (stretch ends_word cs) cs ∷ rest
  behind : filled rest ≡ words_of (drop (stretch ends_word cs) cs)

filled_none : filled [] ≡ []
unfolding filled
filled_none = refl

words_are : (l : List ℕ) → filled (pieces is_blank (before_comment l)) ≡ words_of l
unfolding words_of
words_are l = refl

ends_is : (d : ℕ) (b k : Bool) → is_blank d ≡ b → is_comment d ≡ k → ends_word d ≡ (b || k)
unfolding ends_word
ends_is d b k e f = rw (e, f)

or_true : (b : Bool) → (b || true) ≡ true
or_true true = refl
or_true false = refl

piece_of : (cs : List ℕ) → Piece cs
unfolding before_comment pieces stretch
piece_of [] = record { rest = []; is = refl; behind = filled_none ∙ sym none }
piece_of (d ∷ ds) = go (piece_of ds) (is_blank d) (is_comment d) refl refl
  where
    go : Piece ds → (b k : Bool) → is_blank d ≡ b → is_comment d ≡ k → Piece (d ∷ ds)
    go p b true e f =
        let w : ends_word d ≡ true = ends_is d b true e f ∙ or_true b in
        record { rest = []; is = rw (w, f); behind = rw w (filled_none ∙ sym (comment_none d ds f)) }
    go p true false e f =
        let w : ends_word d ≡ true = ends_is d true false e f in
        record { rest = pieces is_blank (before_comment ds); is = rw (w, f, e); behind = rw w (words_are ds ∙ sym (blank_passed d ds e)) }
    go p false false e f =
        let w : ends_word d ≡ false = ends_is d false false e f in
        record { rest = p.rest; is = rw (w, f, e, p.is); behind = rw w p.behind }

pub word_first : (c : ℕ) (cs : List ℕ) → is_blank c ≡ false → is_comment c ≡ false → words_of (c ∷ cs) ≡ (c ∷ take (stretch ends_word cs) cs) ∷ words_of (drop (stretch ends_word cs) cs)
unfolding words_of before_comment pieces filled
word_first c cs e f = rw (f, e, (piece_of cs).is) (ap (λ (ws : List (List ℕ)). (c ∷ take (stretch ends_word cs) cs) ∷ ws) (piece_of cs).behind)

pub blanks_passed : (l : List ℕ) → words_of l ≡ words_of (drop (stretch not_blank l) l)
unfolding stretch not_blank
blanks_passed [] = refl
blanks_passed (c ∷ cs) = go (blanks_passed cs) (is_blank c) refl
  where
    go : words_of cs ≡ words_of (drop (stretch not_blank cs) cs) → (b : Bool) → is_blank c ≡ b → words_of (c ∷ cs) ≡ words_of (drop (stretch not_blank (c ∷ cs)) (c ∷ cs))
    go before true e = blank_passed c cs e ∙ before ∙ rw e
    go before false e = rw e

-- a stretch ends at a byte that the test holds of
holds_at_lem : (test : ℕ → Bool) (l : List ℕ) → stretch test l < length l → test (get_or l (stretch test l) 0) ≡ true
unfolding stretch
holds_at_lem test [] h = absurd (omega arith)
holds_at_lem test (c ∷ cs) h = go (holds_at_lem test cs) (test c) refl h
  where
    go : (stretch test cs < length cs → test (get_or cs (stretch test cs) 0) ≡ true) → (b : Bool) → test c ≡ b → cond {A = ℕ} b zero (suc (stretch test cs)) < suc (length cs) → test (get_or (c ∷ cs) (cond {A = ℕ} b zero (suc (stretch test cs))) 0) ≡ true
    go before true e k = e
    go before false e k = before (omega arith)

goes : (test : ℕ → Bool) (c : ℕ) (cs : List ℕ) → test c ≡ false → stretch test (c ∷ cs) ≡ suc (stretch test cs)
unfolding stretch
goes test c cs e = rw e

-- ---- a word by its places is the first of the words from here on, and the others stand behind it

pub record Next (l : List ℕ) (at : ℕ) (r : Word) : Type 0 where
  pub word : passage r.start r.end l ≡ get_or (words_of (drop at l)) 0 []
  pub behind : words_of (drop r.end l) ≡ drop 1 (words_of (drop at l))
  pub there : ltb r.start r.end ≡ ltb 0 (length (words_of (drop at l)))
  pub from : at ≤ r.start
  pub to : r.start ≤ r.end
  pub within : r.end ≤ length l

module _ (l : List ℕ) (at : ℕ) (h : at ≤ length l) where
  abbrev start : ℕ
  start = at + stretch not_blank (drop at l)

  start_within : start ≤ length l
  start_within = omega (arith, rw (length-drop at l) at (stretch_within not_blank (drop at l)))

  passed : words_of (drop at l) ≡ words_of (drop start l)
  passed = blanks_passed (drop at l) ∙ ap words_of (drop-drop (stretch not_blank (drop at l)) at l)

  -- no word is left
  nothing : (n : ℕ) → at ≤ n → n ≤ length l → words_of (drop at l) ≡ [] → words_of (drop n l) ≡ [] → Next l at (record { start = n; end = n })
  nothing n f w e d =
      let z : n - n ≡ 0 = omega arith in
      record { word = rw (z, e); behind = rw (d, e); there = rw (e, le-ltb n n (omega arith)); from = f; to = omega arith; within = w }

  at_the_end : length l ≤ start → Next l at (word_from l at)
  at_the_end k =
      let n : words_of (drop start l) ≡ [] = ap words_of (drop_of_length-le l k) ∙ none in
      subst (Next l at) (at_end l at start refl k) (nothing start (omega arith) start_within (passed ∙ n) n)

  module _ (k : start < length l) where
    abbrev c : ℕ
    c = get_or l start 0

    abbrev cs : List ℕ
    cs = drop (suc start) l

    from-here : drop start l ≡ c ∷ cs
    from-here = drop-cons l start 0 k

    at-a-comment : c ≡ 59 → Next l at (word_from l at)
    unfolding is_comment
    at-a-comment e =
        let n : words_of (drop start l) ≡ [] = ap words_of from-here ∙ comment_none c cs (eq-eqb c 59 e) in
        let d : words_of (drop (length l) l) ≡ [] = ap words_of (drop_of_length-le l {i = length l} (omega arith)) ∙ none in
        subst (Next l at) (at_comment l at start refl e) (nothing (length l) h (omega arith) (passed ∙ n) d)

    no-blank : is_blank c ≡ false
    unfolding not_blank
    no-blank = not-true (is_blank c) (rw (sym (get_or-drop at l (stretch not_blank (drop at l)) 0)) held)
      where
        held : not_blank (get_or (drop at l) (stretch not_blank (drop at l)) 0) ≡ true
        held = holds_at_lem not_blank (drop at l) (rw (length-drop at l) (omega arith))

        not-true : (b : Bool) → not b ≡ true → b ≡ false
        not-true true e = absurd (false≢true e)
        not-true false e = refl

    at-a-word : (c ≡ 59 → ⊥) → Next l at (word_from l at)
    unfolding is_comment
    at-a-word e =
        let f : is_comment c ≡ false = ne_eqb c 59 e in
        let n = stretch ends_word cs in
        let s : stretch ends_word (drop start l) ≡ suc n = ap (stretch ends_word) from-here ∙ goes ends_word c cs (ends_is c false false no-blank f) in
        let ws : words_of (drop at l) ≡ (c ∷ take n cs) ∷ words_of (drop n cs) = passed ∙ ap words_of from-here ∙ word_first c cs no-blank f in
        let g : start + suc n - start ≡ suc n = omega arith in
        let d : drop (start + suc n) l ≡ drop n cs = sym (drop-drop (suc n) start l) ∙ ap (drop (suc n)) from-here in
        subst (Next l at) (at_word l at start refl (start + suc n) e (ap (λ (m : ℕ). start + m) (sym s)))
        record {
          word = rw (g, from-here, ws);
          behind = rw (d, ws);
          there = lt-ltb start (start + suc n) (omega arith) ∙ sym (ap (λ (x : List (List ℕ)). ltb 0 (length x)) ws ∙ lt-ltb 0 (suc (length (words_of (drop n cs)))) (omega arith));
          from = omega arith;
          to = omega arith;
          within = omega (arith, s, rw (length-drop start l) at (stretch_within ends_word (drop start l)));
        }

  pub word_next : Next l at (word_from l at)
  word_next = go (ltb start (length l)) (eqb (get_or l start 0) 59) refl refl
    where
      go : (b k : Bool) → ltb start (length l) ≡ b → eqb (get_or l start 0) 59 ≡ k → Next l at (word_from l at)
      go true true e f = at-a-comment (ltb-true start (length l) e) (eqb-true (get_or l start 0) 59 f)
      go true false e f = at-a-word (ltb-true start (length l) e) (eqb-false (get_or l start 0) 59 f)
      go false k e f = at_the_end (ltb-false start (length l) e)

-- ---- word k of a line

pub record Placed (l : List ℕ) (k : ℕ) (r : Word) : Type 0 where
  pub word : passage r.start r.end l ≡ get_or (words_of l) k []
  pub behind : words_of (drop r.end l) ≡ drop (suc k) (words_of l)
  pub there : ltb r.start r.end ≡ ltb k (length (words_of l))
  pub to : r.start ≤ r.end
  pub within : r.end ≤ length l

first_of_rest : (ws : List (List ℕ)) (k : ℕ) → get_or (drop k ws) 0 [] ≡ get_or ws k []
first_of_rest ws k = get_or-drop k ws 0 [] ∙ ap (λ (n : ℕ). get_or ws n []) (add-zero k)

some_left : (k n : ℕ) → ltb 0 (n - k) ≡ ltb k n
some_left k n = go (ltb k n) refl
  where
    go : (b : Bool) → ltb k n ≡ b → ltb 0 (n - k) ≡ ltb k n
    go true e = lt-ltb 0 (n - k) (omega (arith, ltb-true k n e)) ∙ sym e
    go false e = le-ltb 0 (n - k) (omega (arith, ltb-false k n e)) ∙ sym e

pub word_placed : (l : List ℕ) (k : ℕ) → Placed l k (word_at l k)
unfolding word_at
word_placed l zero =
    let n = word_next l 0 zero-le in
    record { word = n.word; behind = n.behind; there = n.there; to = n.to; within = n.within }
word_placed l (suc k) = go (word_at l k) (word_placed l k)
  where
    go : (w : Word) → Placed l k w → Placed l (suc k) (word_from l w.end)
    go w p =
        let n = word_next l w.end p.within in
        let d : words_of (drop w.end l) ≡ drop (suc k) (words_of l) = p.behind in
        record {
          word = n.word ∙ ap (λ (ws : List (List ℕ)). get_or ws 0 []) d ∙ first_of_rest (words_of l) (suc k);
          behind = n.behind ∙ ap (drop 1) d ∙ drop-drop 1 (suc k) (words_of l) ∙ ap (λ (m : ℕ). drop m (words_of l)) (add-one (suc k));
          there = n.there ∙ ap (λ (ws : List (List ℕ)). ltb 0 (length ws)) d ∙ ap (ltb 0) (length-drop (suc k) (words_of l)) ∙ some_left (suc k) (length (words_of l));
          to = n.to;
          within = n.within;
        }
