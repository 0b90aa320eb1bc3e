-- The line that begins at a place of the text, the search for a name, and what the table holds after a row is put or settled. Assumes nothing.
use Rattle.std.proofs.Common.{ℕ, zero, suc, ◌+◌, ◌-◌, ◌≤◌, ◌<◌, ◌≡◌, refl, sym, ap, subst, ◌∙◌, Bool, true, false, cond, List, [], ◌∷◌, ◌++◌, length, get_or, set, take, drop, map, take_all, take-append-drop, Some, None, arith}
use mathlib.Core.Logic.{⊎_elim}
use native.Mathlib.Nat.{sub-zero, zero-sub, suc-sub-suc, eq-or-lt_of_le, min-le_left}
use lib.ListN.{length-set, length-take}
use lib.Seq.{take-nil, take-take, drop-drop, get_or-set_same, get_or-set_other, take-set-lt, get_or-append_seam, set-append_seam}
use lib.Dec.{eqb}
use borrow.Author.Tests.{eqb-true, eqb-false, lt-ltb, le-ltb}
use Rattle.std.proofs.lemmas.List.{length-map, length-take-le, get_or-take, get_or-map, map-append, map-set, take_more, take_more_set}
use Rattle.lines.specs.Lines.{passage, line_at}
use Rattle.lines.specs.declared.Line.{Line}
use Rattle.lines.proofs.Lines.{line_first}
use Rattle.line_words.specs.declared.Word.{Word}
use Rattle.line_words.specs.Words.{words_of, word_from, word_at}
use Rattle.line_words.proofs.Words.{word_placed, Placed}
use Rattle.spelled.specs.Spelled.{same_bytes}
use Rattle.named_lines.specs.Named.{Named, Names, named, nameless, name_of, position_of, found_at, settled_by, words_from, first_from, with_line, with_settled}
use Rattle.named_lines.specs.Table.{row_of, rows_of, no_line, Row, Kept}
use Rattle.named_lines.specs.declared.Kind.{Kind}
use Rattle.named_lines.specs.declared.NamedLine.{NamedLine}

-- ---- the line that begins at a place

module _ (t : List ℕ) (at : ℕ) (h : at ≤ length t) where
  pub line_inside : (l : Line) → l ≡ line_at t at → (at ≤ l.end) × (l.end ≤ length t)
  line_inside l is = subst (λ (r : Line). (at ≤ r.end) × (r.end ≤ length t)) (sym is) (let f = line_first t at h in (f.from, f.within))

-- ---- the search

pub found_stays : (w : List ℕ) (xs ys : List Named) → position_of w xs < length xs → position_of w (xs ++ ys) ≡ position_of w xs
unfolding position_of
found_stays w [] ys h = absurd (omega arith)
found_stays w (x ∷ xs) ys h = go (same_bytes (name_of x) w) (found_stays w xs ys) h
  where
    go : (b : Bool) → (position_of w xs < length xs → position_of w (xs ++ ys) ≡ position_of w xs) → cond {A = ℕ} b 0 (suc (position_of w xs)) < suc (length xs) → cond {A = ℕ} b 0 (suc (position_of w (xs ++ ys))) ≡ cond {A = ℕ} b 0 (suc (position_of w xs))
    go true ih g = refl
    go false ih g = ap suc (ih (omega arith))

pub not_yet : (w : List ℕ) (xs ys : List Named) → position_of w xs ≡ length xs → position_of w (xs ++ ys) ≡ length xs + position_of w ys
unfolding position_of
not_yet w [] ys h = omega arith
not_yet w (x ∷ xs) ys h = go (same_bytes (name_of x) w) (not_yet w xs ys) h
  where
    go : (b : Bool) → (position_of w xs ≡ length xs → position_of w (xs ++ ys) ≡ length xs + position_of w ys) → cond {A = ℕ} b 0 (suc (position_of w xs)) ≡ suc (length xs) → cond {A = ℕ} b 0 (suc (position_of w (xs ++ ys))) ≡ suc (length xs) + position_of w ys
    go true ih g = absurd (omega (arith, g))
    go false ih g = let e : position_of w xs ≡ length xs = omega (arith, g) in omega (arith, ih e)

pub position_most : (w : List ℕ) (xs : List Named) → position_of w xs ≤ length xs
unfolding position_of
position_most w [] = omega arith
position_most w (x ∷ xs) = go (same_bytes (name_of x) w) (position_most w xs)
  where
    go : (b : Bool) → position_of w xs ≤ length xs → cond {A = ℕ} b 0 (suc (position_of w xs)) ≤ suc (length xs)
    go true ih = omega arith
    go false ih = omega (arith, ih)

pub none_first : (w : List ℕ) → position_of w [] ≡ 0
unfolding position_of
none_first w = refl

-- none of the first i has it
module _ (w : List ℕ) (xs : List Named) (i : ℕ) (e : position_of w (take i xs) ≡ i) where
  pub nowhere : length xs ≤ i → None ≡ found_at w xs
  unfolding found_at
  nowhere h =
      let all : take i xs ≡ xs = take_all i xs h in
      sym (rw (le-ltb (position_of w xs) (length xs) (omega (arith, ap (position_of w) all, e))))

  module _ (h : i < length xs) where
    pub other : same_bytes (name_of (get_or xs i nameless)) w ≡ false → position_of w (take (i + 1) xs) ≡ i + 1
    unfolding position_of
    other s =
        let x = get_or xs i nameless in
        let n : length (take i xs) ≡ i = length-take-le i xs (omega arith) in
        let one : position_of w (x ∷ []) ≡ 1 = rw s in
        rw (take_more xs i nameless h) (omega (arith, not_yet w (take i xs) (x ∷ []) (e ∙ sym n), n, one))

    pub found : same_bytes (name_of (get_or xs i nameless)) w ≡ true → Some i ≡ found_at w xs
    unfolding found_at position_of
    found s =
        let x = get_or xs i nameless in
        let n : length (take i xs) ≡ i = length-take-le i xs (omega arith) in
        let one : position_of w (x ∷ []) ≡ 0 = rw s in
        let here : position_of w (take (i + 1) xs) ≡ i = rw (take_more xs i nameless h) (omega (arith, not_yet w (take i xs) (x ∷ []) (e ∙ sym n), n, one)) in
        let all : position_of w xs ≡ i =
        ap (position_of w) (sym (take-append-drop (i + 1) xs)) ∙ found_stays w (take (i + 1) xs) (drop (i + 1) xs) (omega (arith, here, length-take-le (i + 1) xs (omega arith))) ∙ here in
        sym (rw (all, lt-ltb i (length xs) h))

-- ---- the rows

module _ (t : List ℕ) (rows : List NamedLine) (n : ℕ) (k : Kept t rows n) where
  abbrev lines : List Named
  lines = rows_of t (take n rows)

  pub rows_long : length lines ≡ n
  rows_long = length-map (take n rows) (row_of t) ∙ length-take-le n rows k.room

  pub row_at : (i : ℕ) → i < n → get_or lines i nameless ≡ row_of t (get_or rows i no_line)
  row_at i h =
      get_or-map (row_of t) (take n rows) i no_line nameless (omega (arith, length-take-le n rows k.room)) ∙ ap (row_of t) (get_or-take n rows i no_line h)

  -- one more is put behind them
  module _ (r : NamedLine) (room : n < length rows) where
    pub put_rows : rows_of t (take (n + 1) (set rows n r)) ≡ lines ++ (row_of t r ∷ [])
    put_rows = ap (map (row_of t)) (take_more_set rows n r room) ∙ map-append (row_of t) (take n rows) (r ∷ [])

    pub put_kept : Row t r → Kept t (set rows n r) (n + 1)
    put_kept g =
        record {
          room = omega (arith, length-set rows n r);
          row = λ i h.
              ⊎_elim
              (λ (q : i ≡ n). rw (q, get_or-set_same rows n r no_line room) g)
              (λ (q : i < n). rw (get_or-set_other rows n i r no_line (λ e. omega arith)) (k.row i q))
              (eq-or-lt_of_le (let g : i ≤ n = omega arith in g));
        }

  -- row j is settled by the line at a place
  module _ (j at : ℕ) (h : j < n) where
    abbrev was : NamedLine
    was = get_or rows j no_line

    abbrev row : NamedLine
    row = record { at = was.at; from = was.from; to = was.to; kind = was.kind; settled = at }

    pub settled_rows : rows_of t (take n (set rows j row)) ≡ settled_by j (words_from t at) lines
    unfolding settled_by row_of
    settled_rows =
        ap (map (row_of t)) (take-set-lt n rows j row h) ∙ map-set (row_of t) (take n rows) j row ∙ rw (row_at j h)

    pub settled_kept : at ≤ length t → Kept t (set rows j row) n
    unfolding row_of
    settled_kept a =
        record {
          room = omega (arith, length-set rows j row, k.room);
          row = λ i g. go i g (eqb i j) refl;
        }
      where
        there : Row t row
        there = let r = k.row j h in record { line = r.line; said = a; order = r.order; within = r.within; name = r.name }

        go : (i : ℕ) → i < n → (b : Bool) → eqb i j ≡ b → Row t (get_or (set rows j row) i no_line)
        go i g true e = let q = eqb-true i j e in rw (q, get_or-set_same rows j row no_line (omega (arith, k.room))) there
        go i g false e = rw (get_or-set_other rows j i row no_line (eqb-false i j e)) (k.row i g)

-- ---- a line with its name

drop_take : (a n : ℕ) (l : List ℕ) → drop a (take n l) ≡ take (n - a) (drop a l)
drop_take zero n l = ap (λ (k : ℕ). take k l) (sym (sub-zero n))
drop_take (suc a) zero l = ap (λ (k : ℕ). take k (drop (suc a) l)) (sym (zero-sub (suc a)))
drop_take (suc a) (suc n) [] = sym (take-nil (suc n - suc a))
drop_take (suc a) (suc n) (c ∷ cs) = drop_take a n cs ∙ ap (λ (k : ℕ). take k (drop a cs)) (sym (suc-sub-suc n a))

-- a passage of a passage is one of the text
passage_within : (t : List ℕ) (at end a b : ℕ) → b ≤ end - at → passage a b (passage at end t) ≡ passage (at + a) (at + b) t
passage_within t at end a b h =
    let g : b - a ≤ end - at - a = omega arith in
    let e : b - a ≡ at + b - (at + a) = omega arith in
    ap (take (b - a)) (drop_take a (end - at) (drop at t))
    ∙ take-take (b - a) (end - at - a) (drop a (drop at t)) g
    ∙ ap (take (b - a)) (drop-drop a at t)
    ∙ ap (λ (k : ℕ). take k (drop (at + a) t)) e

module _ (t : List ℕ) (at : ℕ) (h : at ≤ length t) (line : List ℕ) (e : line ≡ passage at (line_at t at).end t) where
  pub line_words : words_of line ≡ words_from t at
  unfolding words_from
  line_words = ap words_of e

  module _ (w : Word) (is : w ≡ word_from line 0) where
    placed : Placed line 0 w
    unfolding word_at
    placed = subst (Placed line 0) (sym is) (word_placed line 0)

    short : w.end ≤ (line_at t at).end - at
    short = omega (arith, placed.within, ap length e, length-take ((line_at t at).end - at) (drop at t), min-le_left ((line_at t at).end - at) (length (drop at t)))

    pub name_in_text : at + w.end ≤ length t
    name_in_text = omega (arith, short, line_inside t at h (line_at t at) refl)

    name_there : passage (at + w.start) (at + w.end) t ≡ get_or (words_from t at) 0 []
    name_there =
        sym (passage_within t at (line_at t at).end w.start w.end short)
        ∙ ap (passage w.start w.end) (sym e)
        ∙ placed.word
        ∙ ap (λ (ws : List (List ℕ)). get_or ws 0 []) line_words

    pub row_there : (kind : Kind) → Row t (record { at = at; from = at + w.start; to = at + w.end; kind = kind; settled = at })
    unfolding row_of
    row_there kind = record { line = h; said = h; order = omega (arith, placed.to); within = name_in_text; name = name_there }

-- ---- a line that was put is settled by itself

pub settled_last : (x : Names) (at : ℕ) (kind : Kind) → with_settled (with_line x at kind) (length x.lines) at ≡ with_line x at kind
unfolding with_line with_settled settled_by
settled_last x at kind =
    let y : Named = named kind (words_from x.text at) in
    rw (get_or-append_seam x.lines y [] nameless) (ap (λ (ls : List Named). record { text = x.text; room = x.room; lines = ls }) (set-append_seam x.lines y [] y))

-- ---- the table as a clause sees it

module _ (t : List ℕ) (rows : List NamedLine) (n : ℕ) (k : Kept t rows n) (x : Names) (is : record { text = t; room = length rows; lines = rows_of t (take n rows) } ≡ x) where
  pub in_text : (at : ℕ) → at ≤ length x.text → at ≤ length t
  in_text at h = omega (arith, h, ap (λ (y : Names). length y.text) is)

  pub first_in : (at : ℕ) (w : Word) → w ≡ first_from x.text at → w ≡ word_from (passage at (line_at t at).end t) 0
  unfolding first_from
  first_in at w e = e ∙ ap (λ (y : Names). word_from (passage at (line_at y.text at).end y.text) 0) (sym is)

  pub first_of : (at : ℕ) (line : List ℕ) → line ≡ passage at (line_at t at).end t → (w : Word) → w ≡ word_from line 0 → w ≡ first_from x.text at
  unfolding first_from
  first_of at line e w f =
      f ∙ ap (λ (l : List ℕ). word_from l 0) e ∙ ap (λ (y : Names). word_from (passage at (line_at y.text at).end y.text) 0) is

  pub below : (j : ℕ) → j < length x.lines → j < n
  below j h = omega (arith, h, ap (λ (y : Names). length y.lines) is, rows_long t rows n k)

  pub has_room : length x.lines < x.room → n < length rows
  has_room h = omega (arith, h, ap (λ (y : Names). length y.lines) is, ap (λ (y : Names). y.room) is, rows_long t rows n k)

  pub put_names : (at : ℕ) (kind : Kind) (from to : ℕ) → n < length rows → record { text = t; room = length (set rows n (record { at = at; from = from; to = to; kind = kind; settled = at })); lines = rows_of t (take (n + 1) (set rows n (record { at = at; from = from; to = to; kind = kind; settled = at }))) } ≡ with_line x at kind
  unfolding with_line row_of
  put_names at kind from to h =
      let r : NamedLine = record { at = at; from = from; to = to; kind = kind; settled = at } in
      rw (← is, length-set rows n r, put_rows t rows n k r h) refl

  pub settled_names : (j at : ℕ) (h : j < n) → record { text = t; room = length (set rows j (row t rows n k j at h)); lines = rows_of t (take n (set rows j (row t rows n k j at h))) } ≡ with_settled x j at
  unfolding with_settled
  settled_names j at h = rw (← is, length-set rows j (row t rows n k j at h), settled_rows t rows n k j at h) refl
