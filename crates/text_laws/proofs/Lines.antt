-- The lines of a text are taken one by one until the first that is refused. Assumes nothing.
use Prim.Native.Nat.{ℕ, zero, suc, ◌+◌, ◌≤◌, ◌<◌}
use mathlib.Core.Path.{◌≡◌, refl, sym, ap}
use mathlib.Core.List.{List, []}
use mathlib.Core.Logic.{⊎_elim}
use native.Mathlib.Nat.{eq-or-lt_of_le, le_of_suc-le-suc}
use native.Mathlib.Numerals.{add-one}
use native.Mathlib.Omega.{arith}
use lib.ListN.{length, get_or, drop, drop_of_length-le}
use lib.Seq.{drop-cons}
use Rattle.std.specs.Prelude.{⊤, Result, Ok, Err}
use Rattle.lines.specs.Lines.{lines_of}
use Rattle.line_words.specs.Words.{words_of}
use Rattle.known.specs.Known.{Verdict, line_fault, line_taken, Surveyed, surveyed, lines_taken, survey_of}
use Rattle.known.specs.declared.Refused.{Refused}
use Rattle.text_laws.specs.TextLaws.{known_after, fault_at, FirstRefused, AllTaken, Told}

-- ---- refused or not, and with what

refusals : Result ⊤ Refused → ℕ
refusals (Ok d) = 0
refusals (Err r) = 1

refusal_or : Refused → Result ⊤ Refused → Refused
refusal_or other (Ok d) = other
refusal_or other (Err r) = r

module _ (ls : List (List ℕ)) where
  -- what is told of the lines from line i on, where none before is refused
  record From (i : ℕ) (v : Surveyed) : Type 0 where
    taken : v.told ≡ Ok tt → AllTaken ls v
    refused : (r : Refused) → v.told ≡ Err r → (k : ℕ) × FirstRefused ls v r k

  abbrev Earlier : ℕ → Type 0
  Earlier i = (j : ℕ) → j < i → fault_at ls j ≡ Ok tt

  later : (i : ℕ) → Earlier i → fault_at ls i ≡ Ok tt → Earlier (suc i)
  later i e f j h = ⊎_elim (λ (q : j ≡ i). rw q f) (λ (q : j < i). e j q) (eq-or-lt_of_le (le_of_suc-le-suc h))

  -- no line is left
  ended : (i : ℕ) → i ≡ length ls → Earlier i → From i (lines_taken (suc i) (known_after ls i) (drop i ls))
  unfolding lines_taken refusals
  ended i h e =
      rw (drop_of_length-le ls (let g : length ls ≤ i = omega arith in g))
      (record {
        taken = λ z. record { every = λ j b. e j (omega arith); known = ap (known_after ls) h };
        refused = λ r z. absurd (omega (arith, ap refusals z));
      })

  -- line i
  turn : (i : ℕ) → i < length ls → Earlier i
      → (fault_at ls i ≡ Ok tt → From (suc i) (lines_taken (suc (suc i)) (known_after ls (suc i)) (drop (suc i) ls)))
      → From i (lines_taken (suc i) (known_after ls i) (drop i ls))
  unfolding lines_taken known_after fault_at refusals refusal_or
  turn i h e next = rw (drop-cons ls i [] h) (go (line_fault (known_after ls i) (words_of (get_or ls i []))) refl)
    where
      go : (b : Verdict) → line_fault (known_after ls i) (words_of (get_or ls i [])) ≡ b
          → From i (surveyed b (suc i) (known_after ls i) (lines_taken (suc i + 1) (line_taken (known_after ls i) (words_of (get_or ls i []))) (drop (suc i) ls)))
      go (Ok d) q = rw (add-one (suc i)) (let n = next q in record { taken = n.taken; refused = n.refused })
      go (Err f) q =
          record {
            taken = λ z. absurd (omega (arith, ap refusals z));
            refused = λ r z.
                let same : r ≡ record { fault = f; line = suc i } = sym (ap (refusal_or r) z) in
                (i, rw same (record { there = h; line = refl; fault = q; known = refl; earlier = e }));
          }

  lines_from : (n i : ℕ) → n + i ≡ length ls → Earlier i → From i (lines_taken (suc i) (known_after ls i) (drop i ls))
  lines_from zero i h e = ended i (omega arith) e
  lines_from (suc n) i h e = turn i (omega arith) e (λ f. lines_from n (suc i) (omega arith) (later i e f))

pub told : (t : List ℕ) → Told t
unfolding survey_of known_after
told t =
    let f = lines_from (lines_of t) (length (lines_of t)) 0 (omega arith) (λ j h. absurd (omega arith)) in
    record { taken = f.taken; refused = f.refused }
