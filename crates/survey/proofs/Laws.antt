-- What is left of a text's lines, one line a turn. Assumes nothing.
use Prim.Native.Nat.{ℕ, ◌+◌, ◌≤◌}
use mathlib.Core.Path.{◌≡◌, refl, sym, ap, subst, ◌∙◌}
use mathlib.Core.List.{List, ◌∷◌}
use native.Mathlib.Omega.{arith}
use lib.ListN.{length, drop}
use Rattle.std.specs.Prelude.{Ok, Err, Option, Some, None}
use Rattle.lines.specs.Lines.{lines_of, passage, line_at, lines_behind}
use Rattle.lines.specs.declared.Line.{Line}
use Rattle.lines.proofs.Lines.{First, line_first}
use Rattle.line_words.specs.declared.Word.{Word}
use Rattle.line_words.specs.Words.{words_of, word_from}
use Rattle.line_fields.specs.declared.LineFault.{LineFault}
use Rattle.named_lines.specs.Named.{words_from, first_from}
use Rattle.known.specs.Known.{Reading, nothing_known, line_fault, line_taken, lines_taken, survey_of}

-- ---- line `number` begins at `at`, and those from there on are left

pub record Going (t : List ℕ) (x : Reading) (at number : ℕ) : Type 0 where
  pub text : x.text ≡ t
  pub left : lines_taken number x.known (lines_of (drop at t)) ≡ survey_of t
  pub within : at ≤ length t
  pub few : number ≤ at + 1

pub begun : (t : List ℕ) (x : Reading) → x ≡ record { text = t; known = nothing_known } → Going t x 0 1
unfolding survey_of
begun t x e = rw e (record { text = refl; left = refl; within = omega arith; few = omega arith })

module _ {t : List ℕ} {x : Reading} {at number : ℕ} (g : Going t x at number) (r : Line) (is : r ≡ line_at t at) where
  pub first : First t at g.within r
  first = subst (First t at g.within) (sym is) (line_first t at g.within)

  abbrev line : List ℕ
  line = passage at r.end t

  abbrev behind : List (List ℕ)
  behind = lines_behind r.next t

  lines_are : lines_taken number x.known (line ∷ behind) ≡ survey_of t
  lines_are = sym (ap (lines_taken number x.known) first.lines) ∙ g.left

  -- where its first word stands, as the tables have it
  pub name_is : {w : Word} → w ≡ word_from line 0 → w ≡ first_from x.text at
  unfolding first_from
  name_is e = e ∙ rw (is, g.text) refl

  module _ {ws : List (List ℕ)} (are : ws ≡ words_of line) where
    -- its words, as the tables have them
    pub words_are : ws ≡ words_from x.text at
    unfolding words_from
    words_are = are ∙ rw (is, g.text) refl

    -- the line is refused
    pub refused : (f : LineFault) → line_fault x.known ws ≡ Err f → record { told = Err (record { fault = f; line = number }); known = x.known } ≡ survey_of t
    unfolding lines_taken
    refused f e =
        let here : line_fault x.known (words_of line) ≡ Err f = ap (line_fault x.known) (sym are) ∙ e in
        sym (rw here at (sym lines_are))

    -- it is taken, and what is known is what it makes known
    module _ (good : line_fault x.known ws ≡ Ok tt) {y : Reading} (taken : y ≡ record { text = x.text; known = line_taken x.known ws }) where
      lines_left : lines_taken (number + 1) y.known behind ≡ survey_of t
      unfolding lines_taken
      lines_left =
          let here : line_fault x.known (words_of line) ≡ Ok tt = ap (line_fault x.known) (sym are) ∙ good in
          rw (taken, are) (rw here at lines_are)

      -- it was the last
      pub done : r.next ≡ None → record { told = Ok tt; known = y.known } ≡ survey_of t
      unfolding lines_taken
      done b = ap (λ (v : Option ℕ). lines_taken (number + 1) y.known (lines_behind v t)) (sym b) ∙ lines_left

      -- there is a next line
      pub onward : (next : ℕ) → r.next ≡ Some next → Going t y next (number + 1)
      onward next b =
          record {
            text = rw taken g.text;
            left = ap (λ (v : Option ℕ). lines_taken (number + 1) y.known (lines_behind v t)) (sym b) ∙ lines_left;
            within = (first.further next b).1;
            few = omega (arith, first.further next b, g.few);
          }
