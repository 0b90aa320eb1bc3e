-- What the parts of the sheet are, and a turn of each loop: one more behind the others. Assumes nothing.
use Prim.Native.Nat.{ℕ, zero, suc, ◌+◌, ◌-◌, ◌*◌, ◌≤◌, ◌<◌}
use mathlib.Core.Path.{◌≡◌, refl, sym, ap, ◌∙◌}
use mathlib.Core.Bool.{Bool, true, false, cond}
use lib.Dec.{ltb}
use mathlib.Core.List.{List, [], ◌∷◌, ◌++◌, append_assoc, append-nil}
use native.Mathlib.Nat.{mul-suc}
use native.Mathlib.Omega.{arith}
use lib.Ieee.{Float}
use lib.ListN.{length, get_or, take, drop, length-append}
use borrow.Author.Tests.{le-leb, lt-leb, ltb-false}
use Rattle.std.specs.Option.{unwrap_or}
use Rattle.std.specs.Prelude.{Some, None}
use Rattle.std.proofs.lemmas.List.{length-take-le, take_more}
use Rattle.words.specs.Buffer.{Put}
use Rattle.words.proofs.Laws.{nothing, then, placed_length}
use Rattle.line_fields.specs.Fields.{word_in}
use Rattle.named_lines.specs.Named.{Named, nameless, name_of, position_of, found_at}
use Rattle.named_lines.proofs.Laws.{position_most}
use Rattle.text_settings.specs.declared.Settings.{Settings}
use Rattle.records.specs.declared.records.Node.{Node}
use Rattle.records.specs.declared.records.Link.{Link}
use Rattle.sheet_bytes.specs.Bytes.{options_bytes, pressures_bytes, node_bytes, link_bytes}
use Rattle.sheet_bytes.proofs.Lengths.{node_length, link_length}
use Rattle.text_units.specs.Units.{units_of, pressure_feet}
use Rattle.text_units.specs.declared.Units.{Units}
use Rattle.text_records.specs.Nodes.{node_record_of}
use Rattle.text_records.specs.Links.{link_record_of}
use Rattle.text_sheet.specs.Sheet.{options_in, pressures_in, head_bytes, node_with, nodes_bytes, link_with, links_bytes, names_bytes, room_of}

-- ---- what a function makes of each, one behind the other

joined : (Named → List ℕ) → List Named → List ℕ
joined f [] = []
joined f (x ∷ xs) = f x ++ joined f xs

joined_last : (f : Named → List ℕ) (xs : List Named) (x : Named) → joined f (xs ++ (x ∷ [])) ≡ joined f xs ++ f x
unfolding joined
joined_last f [] x = append-nil (f x)
joined_last f (y ∷ ys) x = ap (λ (l : List ℕ). f y ++ l) (joined_last f ys x) ∙ sym (append_assoc (f y) (joined f ys) (f x))

joined_split : (f : Named → List ℕ) (i : ℕ) (xs : List Named) → joined f xs ≡ joined f (take i xs) ++ joined f (drop i xs)
unfolding joined
joined_split f zero xs = refl
joined_split f (suc i) [] = refl
joined_split f (suc i) (x ∷ xs) = ap (λ (l : List ℕ). f x ++ l) (joined_split f i xs) ∙ sym (append_assoc (f x) (joined f (take i xs)) (joined f (drop i xs)))

joined_size : (f : Named → List ℕ) (k : ℕ) → ((x : Named) → length (f x) ≡ k) → (xs : List Named) → length (joined f xs) ≡ k * length xs
unfolding joined
joined_size f k h [] = omega arith
joined_size f k h (x ∷ xs) = length-append (f x) (joined f xs) ∙ omega (arith, h x, joined_size f k h xs, mul-suc k (length xs))

module _ (f : Named → List ℕ) (g : List Named → List ℕ) (are : (xs : List Named) → g xs ≡ joined f xs) where
  -- one more
  next : (xs : List Named) (i : ℕ) → i < length xs → g (take (i + 1) xs) ≡ g (take i xs) ++ f (get_or xs i nameless)
  next xs i h =
      ap g (take_more xs i nameless h)
      ∙ are (take i xs ++ (get_or xs i nameless ∷ []))
      ∙ joined_last f (take i xs) (get_or xs i nameless)
      ∙ ap (λ (l : List ℕ). l ++ f (get_or xs i nameless)) (sym (are (take i xs)))

  -- the first i are no longer than all
  part : (xs : List Named) (i : ℕ) → length (g (take i xs)) ≤ length (g xs)
  part xs i = simp (are, joined_split f i xs, length-append) (omega arith)

  size : (k : ℕ) → ((x : Named) → length (f x) ≡ k) → (xs : List Named) → length (g xs) ≡ k * length xs
  size k h xs = ap length (are xs) ∙ joined_size f k h xs

abbrev node_part : Settings → Named → List ℕ
node_part o x = node_bytes (node_with (units_of o.unit) o.multiplier x)

abbrev link_part : Settings → List Named → Named → List ℕ
link_part o nodes x = link_bytes (link_with (units_of o.unit) nodes x)

abbrev name_part : Named → List ℕ
name_part x = name_of x ++ (10 ∷ [])

nodes_joined : (o : Settings) (xs : List Named) → nodes_bytes o xs ≡ joined (node_part o) xs
unfolding nodes_bytes joined
nodes_joined o [] = refl
nodes_joined o (x ∷ xs) = ap (λ (l : List ℕ). node_part o x ++ l) (nodes_joined o xs)

links_joined : (o : Settings) (nodes xs : List Named) → links_bytes o nodes xs ≡ joined (link_part o nodes) xs
unfolding links_bytes joined
links_joined o nodes [] = refl
links_joined o nodes (x ∷ xs) = ap (λ (l : List ℕ). link_part o nodes x ++ l) (links_joined o nodes xs)

names_joined : (xs : List Named) → names_bytes xs ≡ joined name_part xs
unfolding names_bytes joined
names_joined [] = refl
names_joined (x ∷ xs) = ap (λ (l : List ℕ). name_part x ++ l) (names_joined xs)

pub nodes_size : (o : Settings) (xs : List Named) → length (nodes_bytes o xs) ≡ 45 * length xs
nodes_size o = size (node_part o) (nodes_bytes o) (nodes_joined o) 45 (λ x. node_length (node_with (units_of o.unit) o.multiplier x))

pub links_size : (o : Settings) (nodes xs : List Named) → length (links_bytes o nodes xs) ≡ 49 * length xs
links_size o nodes = size (link_part o nodes) (links_bytes o nodes) (links_joined o nodes) 49 (λ x. link_length (link_with (units_of o.unit) nodes x))

names_next : (xs : List Named) (i : ℕ) → i < length xs → names_bytes (take (i + 1) xs) ≡ names_bytes (take i xs) ++ name_part (get_or xs i nameless)
names_next = next name_part names_bytes names_joined

-- how long they are with one more
pub names_more : (xs : List Named) (i : ℕ) → i < length xs → length (names_bytes (take (i + 1) xs)) ≡ length (names_bytes (take i xs)) + length (name_of (get_or xs i nameless)) + 1
names_more xs i h =
    ap length (names_next xs i h)
    ∙ length-append (names_bytes (take i xs)) (name_part (get_or xs i nameless))
    ∙ omega (arith, length-append (name_of (get_or xs i nameless)) (10 ∷ []))

-- a name and its newline have room where all have
pub names_within : (xs : List Named) (i : ℕ) → i < length xs → length (names_bytes (take i xs)) + length (name_of (get_or xs i nameless)) + 1 ≤ length (names_bytes xs)
names_within xs i h = omega (arith, names_more xs i h, part name_part names_bytes names_joined xs (i + 1))

-- ---- the number of a name, which is how many there are where none has it

pub number_found : (w : List ℕ) (xs : List Named) → unwrap_or (found_at w xs) (length xs) ≡ position_of w xs
unfolding found_at
number_found w xs = go (ltb (position_of w xs) (length xs)) refl
  where
    go : (b : Bool) → ltb (position_of w xs) (length xs) ≡ b → unwrap_or (cond b (Some (position_of w xs)) None) (length xs) ≡ position_of w xs
    go true e = refl
    go false e = omega (arith, ltb-false (position_of w xs) (length xs) e, position_most w xs)

-- ---- room

pub no_room : (xs : List Named) (room : ℕ) → room < length (names_bytes xs) → None ≡ room_of xs room
unfolding room_of
no_room xs room h = simp (lt-leb (length (names_bytes xs)) room h)

pub all_room : (xs : List Named) (room left : ℕ) → left + length (names_bytes xs) ≡ room → Some left ≡ room_of xs room
unfolding room_of
all_room xs room left h =
    let e : left ≡ room - length (names_bytes xs) = omega arith in
    rw (le-leb (length (names_bytes xs)) room (omega arith), e)

-- ---- what is put, by its name

module _ {s a : List ℕ} {at p : ℕ} where
  pub put_length : {text : List ℕ} → Put s at text a p → length a ≡ length s
  put_length {text} x = ap length x.bytes ∙ placed_length s at text

  pub nodes_end : (o : Settings) (xs : List Named) (i : ℕ) → i ≤ length xs → Put s at (nodes_bytes o (take i xs)) a p → p ≡ at + 45 * i
  nodes_end o xs i h x = omega (arith, x.next, nodes_size o (take i xs), length-take-le i xs h)

  pub links_end : (o : Settings) (nodes xs : List Named) (i : ℕ) → i ≤ length xs → Put s at (links_bytes o nodes (take i xs)) a p → p ≡ at + 49 * i
  links_end o nodes xs i h x = omega (arith, x.next, links_size o nodes (take i xs), length-take-le i xs h)

  pub head_plain : (o : Settings) → o.bends ≡ false → Put s at (options_bytes (options_in o)) a p → Put s at (head_bytes o) a p
  unfolding head_bytes options_in
  head_plain o b x = rw (b, append-nil) x

  pub head_bends : (o : Settings) (u : Units) (least enough : Float) → o.bends ≡ true → u ≡ units_of o.unit → least ≡ pressure_feet u o.minimum → enough ≡ pressure_feet u o.required → Put s at (options_bytes (options_in o) ++ pressures_bytes (record { minimum = least; required = enough })) a p → Put s at (head_bytes o) a p
  unfolding head_bytes options_in pressures_in
  head_bends o u least enough b e f g x = rw (b, ← e, ← f, ← g) x

-- ---- a turn: one more

module _ (xs : List Named) (i : ℕ) (h : i < length xs) where
  abbrev x : Named
  x = get_or xs i nameless

  pub nodes_turn : {s a b : List ℕ} {at p q : ℕ} (o : Settings) (n : Node) → n ≡ node_record_of x.kind (units_of o.unit) o.multiplier x.words → Put s at (nodes_bytes o (take i xs)) a p → Put a p (node_bytes n) b q → Put s at (nodes_bytes o (take (i + 1) xs)) b q
  unfolding node_with
  nodes_turn o n e y z = rw (next (node_part o) (nodes_bytes o) (nodes_joined o) xs i h) (then y (rw e at z))

  pub links_turn : {s a b : List ℕ} {at p q : ℕ} (o : Settings) (nodes : List Named) (k : Link) → k ≡ link_record_of x.kind (units_of o.unit) x.words x.said (position_of (word_in x.words 1) nodes) (position_of (word_in x.words 2) nodes) → Put s at (links_bytes o nodes (take i xs)) a p → Put a p (link_bytes k) b q → Put s at (links_bytes o nodes (take (i + 1) xs)) b q
  unfolding link_with
  links_turn o nodes k e y z = rw (next (link_part o nodes) (links_bytes o nodes) (links_joined o nodes) xs i h) (then y (rw e at z))

  pub names_turn : {s a b c : List ℕ} {at p q r : ℕ} {name : List ℕ} → name ≡ name_of x → Put s at (names_bytes (take i xs)) a p → Put a p name b q → Put b q (10 ∷ []) c r → Put s at (names_bytes (take (i + 1) xs)) c r
  names_turn e y z v = rw (names_next xs i h) (then y (then (rw e at z) v))

-- ---- before the first

pub nodes_none : (o : Settings) (s : List ℕ) (at : ℕ) → Put s at (nodes_bytes o []) s at
unfolding nodes_bytes
nodes_none o s at = nothing s at

pub links_none : (o : Settings) (nodes : List Named) (s : List ℕ) (at : ℕ) → Put s at (links_bytes o nodes []) s at
unfolding links_bytes
links_none o nodes s at = nothing s at

pub names_none : (s : List ℕ) (at : ℕ) → Put s at (names_bytes []) s at
unfolding names_bytes
names_none s at = nothing s at

pub names_nothing : length (names_bytes []) ≡ 0
unfolding names_bytes
names_nothing = refl
