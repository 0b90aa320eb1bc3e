-- How many bytes the sheet and the names have, and when the names fit. Assumes nothing.
use Prim.Native.Nat.{ℕ, ◌+◌, ◌-◌, ◌*◌, ◌≤◌, ◌<◌}
use mathlib.Core.Path.{◌≡◌, refl, sym, ◌∙◌}
use mathlib.Core.Bool.{Bool, true, false, cond}
use mathlib.Core.List.{List, [], ◌++◌}
use native.Mathlib.Omega.{arith}
use lib.Dec.{leb}
use lib.ListN.{length, length-append}
use borrow.Author.Tests.{le-leb, lt-leb, leb-true, leb-false}
use Rattle.std.specs.Prelude.{Option, Some, None}
use Rattle.std.specs.Option.{is_some}
use Rattle.std.proofs.lemmas.Option.{none-some, cond_some}
use Rattle.named_lines.specs.Named.{Named}
use Rattle.text_settings.specs.declared.Settings.{Settings}
use Rattle.known.specs.Known.{Known}
use Rattle.sheet_bytes.specs.Bytes.{options_bytes, pressures_bytes}
use Rattle.sheet_bytes.proofs.Lengths.{options_length, pressures_length}
use Rattle.text_sheet.specs.Sheet.{options_in, pressures_in, head_bytes, nodes_bytes, links_bytes, sheet_of, sheet_size, names_bytes, names_of, room_of}
use Rattle.text_sheet.proofs.Laws.{nodes_size, links_size}

-- ---- the sheet

pub size_plain : (o : Settings) (nodes links : ℕ) → o.bends ≡ false → sheet_size o nodes links ≡ 29 + (45 * nodes + 49 * links)
unfolding sheet_size
size_plain o nodes links b = rw b

pub size_bends : (o : Settings) (nodes links : ℕ) → o.bends ≡ true → sheet_size o nodes links ≡ 47 + (45 * nodes + 49 * links)
unfolding sheet_size
size_bends o nodes links b = rw b

-- the head, and the records behind it
pub size_parts : (o : Settings) (nodes links : ℕ) → sheet_size o nodes links ≡ sheet_size o 0 0 + (45 * nodes + 49 * links)
unfolding sheet_size
size_parts o nodes links = omega arith

-- OP stands in every sheet
pub size_least : (o : Settings) → 29 ≤ sheet_size o 0 0
unfolding sheet_size
size_least o = go o.bends
  where
    go : (b : Bool) → 29 ≤ cond {A = ℕ} b 47 29 + (45 * 0 + 49 * 0)
    go true = omega arith
    go false = omega arith

pub head_size : (o : Settings) → length (head_bytes o) ≡ sheet_size o 0 0
unfolding head_bytes sheet_size
head_size o = length-append (options_bytes (options_in o)) (cond o.bends (pressures_bytes (pressures_in o)) []) ∙ go o.bends
  where
    go : (b : Bool) → length (options_bytes (options_in o)) + length (cond b (pressures_bytes (pressures_in o)) []) ≡ cond {A = ℕ} b 47 29 + (45 * 0 + 49 * 0)
    go true = omega (arith, options_length (options_in o), pressures_length (pressures_in o))
    go false = omega (arith, options_length (options_in o))

pub sheet_size_lem : (x : Known) → length (sheet_of x) ≡ sheet_size x.settings (length x.nodes) (length x.links)
unfolding sheet_of
sheet_size_lem x =
    let o = x.settings in
    length-append (head_bytes o ++ nodes_bytes o x.nodes) (links_bytes o x.nodes x.links)
    ∙ omega (arith, length-append (head_bytes o) (nodes_bytes o x.nodes), head_size o, nodes_size o x.nodes, links_size o x.nodes x.links, size_parts o (length x.nodes) (length x.links))

-- ---- the names

pub names_size : (x : Known) → length (names_of x) ≡ length (names_bytes x.nodes) + length (names_bytes x.links)
unfolding names_of
names_size x = length-append (names_bytes x.nodes) (names_bytes x.links)

-- what is left where they fit, and that they do not
left_behind : (xs : List Named) (room left : ℕ) → room_of xs room ≡ Some left → left + length (names_bytes xs) ≡ room
unfolding room_of
left_behind xs room left e =
    let s = cond_some (leb (length (names_bytes xs)) room) (room - length (names_bytes xs)) left e in
    omega (arith, s.1, leb-true (length (names_bytes xs)) room s.0)

none_left : (xs : List Named) (room : ℕ) → room_of xs room ≡ None → room < length (names_bytes xs)
unfolding room_of
none_left xs room = go (leb (length (names_bytes xs)) room) refl
  where
    go : (b : Bool) → leb (length (names_bytes xs)) room ≡ b → cond b (Some (room - length (names_bytes xs))) None ≡ None → room < length (names_bytes xs)
    go true e h = absurd (none-some (room - length (names_bytes xs)) (sym h))
    go false e h = leb-false (length (names_bytes xs)) room e

is_some_room : (xs : List Named) (room : ℕ) → is_some (room_of xs room) ≡ leb (length (names_bytes xs)) room
unfolding room_of
is_some_room xs room = go (leb (length (names_bytes xs)) room)
  where
    go : (b : Bool) → is_some (cond b (Some (room - length (names_bytes xs))) None) ≡ b
    go true = refl
    go false = refl

-- all names fit where those of the nodes do and, in what they leave, those of the links
module _ (x : Known) (room : ℕ) where
  pub nodes_over : room_of x.nodes room ≡ None → false ≡ leb (length (names_of x)) room
  nodes_over e = sym (lt-leb (length (names_of x)) room (omega (arith, none_left x.nodes room e, names_size x)))

  pub links_fit : (left : ℕ) → room_of x.nodes room ≡ Some left → is_some (room_of x.links left) ≡ leb (length (names_of x)) room
  links_fit left e = is_some_room x.links left ∙ go (leb (length (names_bytes x.links)) left) refl
    where
      go : (b : Bool) → leb (length (names_bytes x.links)) left ≡ b → leb (length (names_bytes x.links)) left ≡ leb (length (names_of x)) room
      go true f = f ∙ sym (le-leb (length (names_of x)) room (omega (arith, leb-true (length (names_bytes x.links)) left f, left_behind x.nodes room left e, names_size x)))
      go false f = f ∙ sym (lt-leb (length (names_of x)) room (omega (arith, leb-false (length (names_bytes x.links)) left f, left_behind x.nodes room left e, names_size x)))

-- whether the links' names fit in what the nodes' names leave, if those fit
abbrev pub rest_fits : Known → Option ℕ → Bool
rest_fits x None = false
rest_fits x (Some left) = is_some (room_of x.links left)

pub names_fit : (x : Known) (room : ℕ) → rest_fits x (room_of x.nodes room) ≡ leb (length (names_of x)) room
names_fit x room = go (room_of x.nodes room) refl
  where
    go : (r : Option ℕ) → room_of x.nodes room ≡ r → rest_fits x r ≡ leb (length (names_of x)) room
    go None e = nodes_over x room e
    go (Some left) e = links_fit x room left e
