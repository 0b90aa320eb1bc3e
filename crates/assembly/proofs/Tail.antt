-- The columns past the unknowns' stay +0.0: neither the assembly nor a factorization of the unknowns writes there. Assumes nothing.
use Prim.Native.Nat.{ℕ, zero, suc, ◌+◌, ◌*◌, ◌-◌, ◌≤◌, ◌<◌}
use mathlib.Core.Path.{◌≡◌, refl, sym, ◌∙◌}
use mathlib.Core.Bool.{Bool, true, false, cond}
use mathlib.Core.List.{List}
use native.Mathlib.Omega.{arith}
use native.Mathlib.Decide.{dec_lt}
use lib.ListN.{length, get_or}
use lib.Seq.{get_or-set_other}
use lib.Dec.{ltb}
use lib.Ieee.{Float, nan, binary64, of_bits}
use Rattle.layout.specs.declared.places.Layout.{Layout}
use Rattle.links.specs.Links.{link_of, EndsIn}
use Rattle.links.proofs.Reading.{start_below, end_below}
use Rattle.nodes.specs.Nodes.{in_service, serving}
use Rattle.columns.specs.Columns.{cleared, zeros}
use Rattle.columns.proofs.Laws.{cleared_at, cleared_long, cleared_zeros, same_entries}
use Rattle.linear.specs.declared.factorization.UnknownIndex.{UnknownIndex}
use Rattle.linear.specs.Matrix.{at, put}
use Rattle.linear.specs.Factorization.{above, reduced, divided, Outcome, columns, factor_of}
use Rattle.linear.proofs.Filling.{fill_after}
use Rattle.linear.proofs.Laws.{factor_length}
use Rattle.numbering.specs.Numbering.{row_at}
use Rattle.numbering.proofs.Numbers.{rising, at_most}
use Rattle.numbering.proofs.Rows.{row_most}
use Rattle.roots.specs.Root.{root_of}
use Rattle.scatter.specs.Scatter.{lower}
use Rattle.assembly.specs.Assembly.{System, View, assemble_of}
use Rattle.assembly.specs.Unfilled.{OffDiagonal, Apart}
use Rattle.assembly.proofs.Unfilled.{unfilled}
use Rattle.std.specs.Prelude.{Err, None, Some}

other : {A : Type 0} → ◌≡◌ {A = ℕ} 0 1 → A
other e = absurd (let y : ⊥ = omega arith in y)

-- ---- the assembly

-- an unknown's number is below their count
row_counted : (s : List ℕ) (l : Layout) (n i : ℕ) (u : UnknownIndex) → i < n → row_at s l i ≡ Some u → u.0 < serving s l n
unfolding row_at
row_counted s l n i u h = go (in_service s l i) refl
  where
    go : (b : Bool) → in_service s l i ≡ b → cond b (Some (record { 0 = serving s l i })) None ≡ Some u → u.0 < serving s l n
    go true e r = let p : serving s l i ≡ u.0 = cc in omega (arith, p, rising s l {i = i} {j = n} e h)
    go false e r = other (cc)

-- the place of two of n unknowns is within their columns
lower_below : (i j n p : ℕ) → i < n → j < n → i < 64 → j < 64 → 64 * n ≤ p → p ≡ lower i j → ⊥
unfolding lower
lower_below i j n p a b c d past = go (ltb i j)
  where
    go : (t : Bool) → p ≡ cond {A = ℕ} t (64 * i + j) (64 * j + i) → ⊥
    go true e = omega (arith, e, a, d, past)
    go false e = omega (arith, e, b, c, past)

module _ (s : List ℕ) (l : Layout) (p : ℕ) (few : l.nodes ≤ 64) (counted : l.unknowns ≡ serving s l l.nodes) (past : 64 * l.unknowns ≤ p) where
  -- no row of a node has its diagonal there, and no two rows their entry
  off_diagonal : (i : ℕ) → i < l.nodes → OffDiagonal (row_at s l i) p
  off_diagonal i h = record { off = λ u r e. let b = row_counted s l l.nodes i u h r in let m = row_most s l i u r in omega (arith, e, b, m, h, few, counted, past) }

  apart : (i j : ℕ) → i < l.nodes → j < l.nodes → Apart (row_at s l i) (row_at s l j) p
  apart i j h k =
      record {
        start = off_diagonal i h;
        end = off_diagonal j k;
        between = λ u v r q e.
            let b = row_counted s l l.nodes i u h r in
            let c = row_counted s l l.nodes j v k q in
            let m = row_most s l i u r in
            let n = row_most s l j v q in
            lower_below u.0 v.0 l.unknowns p (omega (arith, b, counted)) (omega (arith, c, counted)) (omega (arith, m, h, few)) (omega (arith, n, k, few)) past e;
      }

-- ---- the factorization

columns_past : (n m c : ℕ) (a : List Float) (p : ℕ) → n ≤ 64 → c + m ≤ n → 64 * n ≤ p → get_or (columns n m c a).matrix p nan ≡ get_or a p nan
unfolding columns reduced divided
columns_past n zero c a p few h past = refl
columns_past n (suc m) c a p few h past =
    either (above (at b c c)) (columns n m (suc c) (divided c d (n - suc c) (put b c c d)))
    (columns_past n m (suc c) (divided c d (n - suc c) (put b c c d)) p few (omega arith) past
    ∙ fill_after (64 * c + suc c) _ (n - suc c) (put b c c d) p (omega arith)
    ∙ get_or-set_other b (64 * c + c) p d nan (λ (e : p ≡ 64 * c + c). omega (arith, e, h, few, past)) ∙ same)
  where
    b : List Float
    b = reduced n c c a

    d : Float
    d = root_of (at b c c)

    same : get_or b p nan ≡ get_or a p nan
    same = fill_after (64 * c + c) _ (n - c) a p (omega arith)

    either : (t : Bool) (o : Outcome) → get_or o.matrix p nan ≡ get_or a p nan → get_or (cond t o (record { matrix = b; answer = Err (record { 0 = c }) })).matrix p nan ≡ get_or a p nan
    either true o e = e
    either false o e = same

-- ---- cleared

cleared_past : (n : ℕ) (x : List Float) (j : ℕ) → n ≤ j → get_or (cleared n x) j nan ≡ get_or x j nan
unfolding cleared
cleared_past zero x j h = refl
cleared_past (suc n) x j h = get_or-set_other (cleared n x) n j (of_bits binary64 0) nan (λ (e : j ≡ n). omega (arith, e, h)) ∙ cleared_past n x j (omega arith)

-- a matrix whose columns past the first n hold +0.0 is +0.0 throughout once those n are cleared
wiped : (n : ℕ) (m : List Float) → n ≤ 64 → length m ≡ 4096 → ((p : ℕ) → 64 * n ≤ p → p < 4096 → get_or m p nan ≡ of_bits binary64 0) → cleared (64 * n) m ≡ zeros 4096
wiped n m few long h =
    same_entries (cleared (64 * n) m) (cleared 4096 m) (omega (arith, cleared_long (64 * n) m, cleared_long 4096 m))
    (λ j k. let here : j < 4096 = omega (arith, k, cleared_long (64 * n) m, long) in go j here (dec_lt j (64 * n)) ∙ sym (cleared_at 4096 m (omega (arith, long)) j here))
    ∙ cleared_zeros 4096 m long
  where
    go : (j : ℕ) → j < 4096 → Dec (j < 64 * n) → get_or (cleared (64 * n) m) j nan ≡ of_bits binary64 0
    go j here (yes k) = cleared_at (64 * n) m (omega (arith, few, long)) j k
    go j here (no k) = cleared_past (64 * n) m j (omega (arith, k)) ∙ h j (omega (arith, k)) here

-- a matrix that was assembled and factored is +0.0 throughout once the unknowns' columns are cleared
pub factors_wiped : (s : List ℕ) (l : Layout) (v : View) (demands drawn : List Float) (marks : List Bool) (t : System) → l.nodes ≤ 64 → l.unknowns ≡ serving s l l.nodes → EndsIn l s
    → length t.matrix ≡ 4096 → length (assemble_of s l v demands drawn marks t).matrix ≡ 4096 → cleared (64 * l.unknowns) (factor_of l.unknowns (assemble_of s l v demands drawn marks t).matrix).matrix ≡ zeros 4096
unfolding factor_of
factors_wiped s l v demands drawn marks t few counted ends long kept =
    let n = l.unknowns in
    let small : n ≤ 64 = omega (arith, few, counted, at_most s l l.nodes) in
    let a = (assemble_of s l v demands drawn marks t).matrix in
    wiped n (factor_of n a).matrix small (omega (arith, factor_length n a, kept))
    (λ p past here.
    columns_past n n 0 a p small (omega arith) past
    ∙ unfilled s l v demands drawn marks t p long here
    (record {
      links = λ i h e. apart s l p few counted past (link_of s l i).start (link_of s l i).end (start_below s l i (link_of s l i) ends h refl) (end_below s l i (link_of s l i) ends h refl);
      nodes = λ i h e. off_diagonal s l p few counted past i h;
      giving = λ g i h e. off_diagonal s l p few counted past i h;
    }))
