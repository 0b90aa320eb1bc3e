-- One byte more, over plain variables. Assumes nothing.
use Prim.Native.Nat.{ℕ, ◌+◌, ◌≤◌, ◌<◌}
use mathlib.Core.Path.{◌≡◌, refl}
use mathlib.Core.Bool.{Bool, true, false, cond, ◌&&◌, ◌||◌}
use mathlib.Core.List.{List, [], ◌∷◌}
use native.Mathlib.Omega.{arith}
use native.Mathlib.Numerals.{add-one}
use borrow.Author.Tests.{eq-eqb, ne_eqb, lt-ltb, le-ltb}
use lib.Dec.{eqb, ltb}
use lib.ListN.{length, get_or, drop, drop_of_length-le}
use lib.Seq.{drop-cons}
use Rattle.layout.specs.Places.{heading, node_offset, link_offset}
use Rattle.layout.proofs.Laws.{at_most}
use Rattle.words.specs.Buffer.{placed}
use Rattle.text.specs.Lines.{answer_line}
use Rattle.text.proofs.LineLaws.{answer_length}
use Rattle.refusals.specs.Refusals.{number_of, place_of}
use Rattle.refusals.specs.declared.refusals.Refusal.{Refusal}
use Rattle.refusals.specs.declared.refusals.Refusal.TheVariants.{Unreadable}
use Rattle.stream.specs.Stream.{fits, in_links, in_nodes, at_nodes, in_pressures, at_pressures, in_options, step_of, fed_of, count_of, end_in_nodes, end_in_links, refusal_of, line_of}
use Rattle.stream.specs.declared.Progress.{Progress}
use Rattle.stream.specs.declared.Progress.TheVariants.{Options, Pressures, Nodes, Links, Stopped}

-- what stands before the first node
pub headed : (pressures : Bool) (h : ℕ) → h ≡ heading pressures → h ≤ 47
headed pressures h e = omega (arith, e, at_most pressures)

module _ (first second got b : ℕ) where
  pub fits_first : got ≡ 0 → eqb b first ≡ fits first second got b
  unfolding fits
  fits_first e = rw (eq-eqb got 0 e)

  pub fits_second : (got ≡ 0 → ⊥) → got ≡ 1 → eqb b second ≡ fits first second got b
  unfolding fits
  fits_second n e = rw (ne_eqb got 0 n, eq-eqb got 1 e)

  pub fits_rest : (got ≡ 0 → ⊥) → (got ≡ 1 → ⊥) → true ≡ fits first second got b
  unfolding fits
  fits_rest n e = rw (ne_eqb got 0 n, ne_eqb got 1 e)

-- the three ways of a byte
module _ (got b : ℕ) where
  pub options_stop : fits 79 80 got b ≡ false → Stopped 0 ≡ in_options got b
  unfolding in_options
  options_stop e = rw e

  pub options_more : fits 79 80 got b ≡ true → got < 28 → Options (got + 1) ≡ in_options got b
  unfolding in_options
  options_more e h = rw (e, lt-ltb got 28 h)

  pub options_whole : fits 79 80 got b ≡ true → 28 ≤ got → Pressures 0 ≡ in_options got b
  unfolding in_options
  options_whole e h = rw (e, le-ltb got 28 h)

  pub pressures_stop : fits 80 68 got b ≡ false → Stopped 29 ≡ in_pressures got b
  unfolding in_pressures
  pressures_stop e = rw e

  pub pressures_more : fits 80 68 got b ≡ true → got < 17 → Pressures (got + 1) ≡ in_pressures got b
  unfolding in_pressures
  pressures_more e h = rw (e, lt-ltb got 17 h)

  pub pressures_whole : fits 80 68 got b ≡ true → 17 ≤ got → Nodes true 0 0 ≡ in_pressures got b
  unfolding in_pressures
  pressures_whole e h = rw (e, le-ltb got 17 h)

module _ (pressures : Bool) (n got b : ℕ) where
  -- `at` is where node n would stand
  pub nodes_stop : (at : ℕ) → at ≡ node_offset pressures n → fits 78 68 got b ≡ false → Stopped at ≡ in_nodes pressures n got b
  unfolding in_nodes
  nodes_stop at p e = rw (p, e)

  pub nodes_more : fits 78 68 got b ≡ true → got < 44 → Nodes pressures n (got + 1) ≡ in_nodes pressures n got b
  unfolding in_nodes
  nodes_more e h = rw (e, lt-ltb got 44 h)

  pub nodes_whole : fits 78 68 got b ≡ true → 44 ≤ got → Nodes pressures (n + 1) 0 ≡ in_nodes pressures n got b
  unfolding in_nodes
  nodes_whole e h = rw (e, le-ltb got 44 h)

module _ (pressures : Bool) (n k got b : ℕ) where
  pub links_stop : (at : ℕ) → at ≡ link_offset pressures n k → fits 76 75 got b ≡ false → Stopped at ≡ in_links pressures n k got b
  unfolding in_links
  links_stop at p e = rw (p, e)

  pub links_more : fits 76 75 got b ≡ true → got < 48 → Links pressures n k (got + 1) ≡ in_links pressures n k got b
  unfolding in_links
  links_more e h = rw (e, lt-ltb got 48 h)

  pub links_whole : fits 76 75 got b ≡ true → 48 ≤ got → Links pressures n (k + 1) 0 ≡ in_links pressures n k got b
  unfolding in_links
  links_whole e h = rw (e, le-ltb got 48 h)

-- which of them, where nodes stand and where a PD may
module _ (pressures : Bool) (n got b : ℕ) where
  pub first_link : (eqb got 0 && eqb b 76) ≡ true → in_links pressures n 0 0 b ≡ at_nodes pressures n got b
  unfolding at_nodes
  first_link t = rw t

  pub next_node : (eqb got 0 && eqb b 76) ≡ false → in_nodes pressures n got b ≡ at_nodes pressures n got b
  unfolding at_nodes
  next_node t = rw t

module _ (got b : ℕ) where
  pub some_pressures : (ltb 0 got || eqb b 80) ≡ true → in_pressures got b ≡ at_pressures got b
  unfolding at_pressures
  some_pressures t = rw t

  pub no_pressures : (ltb 0 got || eqb b 80) ≡ false → at_nodes false 0 0 b ≡ at_pressures got b
  unfolding at_pressures
  no_pressures t = rw t

-- which of them, by what was read
module _ (p r : Progress) (b : ℕ) where
  pub step_options : (got : ℕ) → p ≡ Options got → r ≡ in_options got b → r ≡ step_of p b
  unfolding step_of
  step_options got e h = rw e h

  pub step_pressures : (got : ℕ) → p ≡ Pressures got → r ≡ at_pressures got b → r ≡ step_of p b
  unfolding step_of
  step_pressures got e h = rw e h

  pub step_nodes : (pressures : Bool) (n got : ℕ) → p ≡ Nodes pressures n got → r ≡ at_nodes pressures n got b → r ≡ step_of p b
  unfolding step_of
  step_nodes pressures n got e h = rw e h

  pub step_links : (pressures : Bool) (n k got : ℕ) → p ≡ Links pressures n k got → r ≡ in_links pressures n k got b → r ≡ step_of p b
  unfolding step_of
  step_links pressures n k got e h = rw e h

  pub step_stopped : (at : ℕ) → p ≡ Stopped at → Stopped at ≡ step_of p b
  unfolding step_of
  step_stopped at e = rw e

-- the end of the sheet
pub cut_node : (pressures : Bool) (n got at : ℕ) → at ≡ node_offset pressures n → (got ≡ 0 → ⊥) → Unreadable at ≡ end_in_nodes pressures n got
unfolding end_in_nodes
cut_node pressures n got at p e = rw (p, ne_eqb got 0 e)

pub cut_link : (pressures : Bool) (n k got at : ℕ) → at ≡ link_offset pressures n k → (got ≡ 0 → ⊥) → Unreadable at ≡ end_in_links pressures n k got
unfolding end_in_links
cut_link pressures n k got at p e = rw (p, ne_eqb got 0 e)

module _ (p : Progress) (r : Refusal) where
  pub end_options : (got : ℕ) → p ≡ Options got → Unreadable 0 ≡ refusal_of p
  unfolding refusal_of
  end_options got e = rw e

  pub end_pressures : (got : ℕ) → p ≡ Pressures got → r ≡ end_in_nodes false 0 got → r ≡ refusal_of p
  unfolding refusal_of
  end_pressures got e h = rw e h

  pub end_nodes : (pressures : Bool) (n got : ℕ) → p ≡ Nodes pressures n got → r ≡ end_in_nodes pressures n got → r ≡ refusal_of p
  unfolding refusal_of
  end_nodes pressures n got e h = rw e h

  pub end_links : (pressures : Bool) (n k got : ℕ) → p ≡ Links pressures n k got → r ≡ end_in_links pressures n k got → r ≡ refusal_of p
  unfolding refusal_of
  end_links pressures n k got e h = rw e h

  pub end_stopped : (at : ℕ) → p ≡ Stopped at → Unreadable at ≡ refusal_of p
  unfolding refusal_of
  end_stopped at e = rw e

-- ---- how many records

pub count_nodes : (p : Progress) (pressures : Bool) (n got : ℕ) → p ≡ Nodes pressures n got → count_of p ≡ n
unfolding count_of
count_nodes p pressures n got e = rw e

pub count_links : (p : Progress) (pressures : Bool) (n k got : ℕ) → p ≡ Links pressures n k got → count_of p ≡ n + k
unfolding count_of
count_links p pressures n k got e = rw e

-- a byte adds at most one
one_of : (f g : Bool) (m : ℕ) (more whole stop : Progress) → count_of more ≤ m → count_of whole ≤ m → count_of stop ≤ m → count_of (cond f (cond g more whole) stop) ≤ m
one_of true true m x y z a b c = a
one_of true false m x y z a b c = b
one_of false g m x y z a b c = c

links_count : (p : Bool) (n k got b : ℕ) → count_of (in_links p n k got b) ≤ n + k + 1
unfolding in_links count_of
links_count p n k got b = one_of (fits 76 75 got b) (ltb got 48) (n + k + 1) (Links p n k (got + 1)) (Links p n (k + 1) 0) (Stopped (link_offset p n k)) (omega arith) (omega arith) (omega arith)

nodes_count : (p : Bool) (n got b : ℕ) → count_of (in_nodes p n got b) ≤ n + 1
unfolding in_nodes count_of
nodes_count p n got b = one_of (fits 78 68 got b) (ltb got 44) (n + 1) (Nodes p n (got + 1)) (Nodes p (n + 1) 0) (Stopped (node_offset p n)) (omega arith) (omega arith) (omega arith)

pressures_count : (got b : ℕ) → count_of (in_pressures got b) ≤ 1
unfolding in_pressures count_of
pressures_count got b = one_of (fits 80 68 got b) (ltb got 17) 1 (Pressures (got + 1)) (Nodes true 0 0) (Stopped 29) (omega arith) (omega arith) (omega arith)

options_count : (got b : ℕ) → count_of (in_options got b) ≤ 1
unfolding in_options count_of
options_count got b = one_of (fits 79 80 got b) (ltb got 28) 1 (Options (got + 1)) (Pressures 0) (Stopped 0) (omega arith) (omega arith) (omega arith)

at_nodes_count : (p : Bool) (n got b : ℕ) → count_of (at_nodes p n got b) ≤ n + 1
unfolding at_nodes
at_nodes_count p n got b = either (eqb got 0 && eqb b 76)
  where
    either : (t : Bool) → count_of (cond t (in_links p n 0 0 b) (in_nodes p n got b)) ≤ n + 1
    either true = omega (arith, links_count p n 0 0 b)
    either false = nodes_count p n got b

at_pressures_count : (got b : ℕ) → count_of (at_pressures got b) ≤ 1
unfolding at_pressures
at_pressures_count got b = either (ltb 0 got || eqb b 80)
  where
    either : (t : Bool) → count_of (cond t (in_pressures got b) (at_nodes false 0 0 b)) ≤ 1
    either true = pressures_count got b
    either false = omega (arith, at_nodes_count false 0 0 b)

step_count : (p : Progress) (b : ℕ) → count_of (step_of p b) ≤ count_of p + 1
unfolding step_of count_of
step_count (Options got) b = omega (arith, options_count got b)
step_count (Pressures got) b = omega (arith, at_pressures_count got b)
step_count (Nodes p n got) b = at_nodes_count p n got b
step_count (Links p n k got) b = links_count p n k got b
step_count (Stopped at) b = omega arith

pub turn_count : (q q' : Progress) (b : ℕ) → q' ≡ step_of q b → count_of q' ≤ count_of q + 1
turn_count q q' b e = rw e (step_count q b)

-- ---- all bytes

pub fed_turn : (p q q' : Progress) (s : List ℕ) (i : ℕ) → i < length s → q' ≡ step_of q (get_or s i 0) → fed_of q (drop i s) ≡ fed_of p s → fed_of q' (drop (i + 1) s) ≡ fed_of p s
unfolding fed_of
fed_turn p q q' s i l e h = rw (add-one, e) (rw (drop-cons s i 0) at h)

pub fed_end : (p q : Progress) (s : List ℕ) (i : ℕ) → length s ≤ i → fed_of q (drop i s) ≡ fed_of p s → q ≡ fed_of p s
unfolding fed_of
fed_end p q s i l h = rw (drop_of_length-le s l) at h

-- ---- the line

pub lined : (r : Refusal) (number place n : ℕ) (old new : List ℕ) → number ≡ number_of r → place ≡ place_of r → new ≡ placed old 0 (answer_line number place 0 0 0)
    → n ≡ 0 + length (answer_line number place 0 0 0) → (new ≡ placed old 0 (line_of r)) × ((n ≡ length (line_of r)) × (n ≤ 128))
unfolding line_of
lined r number place n old new en ep et e = rw (← en, ← ep) (et, (omega arith, omega (arith, answer_length number place 0 0 0)))
