-- A sheet longer than any good one is refused as crate stream says, once all its bytes were read. Assumes nothing.
use Prim.Native.Nat.{ℕ, zero, suc, ◌+◌, ◌*◌, ◌≤◌, ◌<◌}
use mathlib.Core.Path.{◌≡◌, refl, sym, ap, ◌∙◌}
use mathlib.Core.Bool.{Bool, true, false, cond, ◌&&◌}
use mathlib.Core.List.{List}
use native.Mathlib.Omega.{arith}
use borrow.Author.Tests.{eqb-true, eqb-false, leb-true, lt-leb, ltb-true, ltb-false, eq-eqb, ne_eqb}
use lib.Dec.{eqb, leb, ltb}
use lib.ListN.{length, get_or, drop}
use Rattle.layout.specs.Places.{heading, node_offset, link_offset, planned, link_place}
use Rattle.layout.proofs.Laws.{at_most}
use Rattle.refusals.specs.declared.refusals.Refusal.{Refusal}
use Rattle.refusals.specs.declared.refusals.Refusal.TheVariants.{Unreadable, NodeCount, LinkCount}
use Rattle.fields.specs.Fields.{base_bounds}
use Rattle.sheet.specs.Scan.{readable, records_from, has_options, has_pressures, nodes_at, nodes_of, links_of, layout_of, end_of}
use Rattle.sheet.specs.Read.{checked, after_scan, read_with, read_of, Reading}
use Rattle.sheet.proofs.Laws.{fits, too_short_lem, run_end, run_fits, and_left, and_right}
use Rattle.stream.specs.Stream.{fed_of, refusal_of, end_in_nodes, end_in_links}
use Rattle.stream.specs.declared.Progress.TheVariants.{Options, Pressures, Nodes, Links}
use Rattle.long_sheets.proofs.Feeding.{fed_none}
use Rattle.long_sheets.proofs.Marks.{marked, options_read, options_cut, options_none, pressures_read, pressures_cut, first_node, nodes_read, nodes_cut, nodes_none, links_read, links_cut, links_none, first_link}
use Rattle.std.specs.Prelude.{Err}

-- the counts are wrong
abbrev many : ℕ → Refusal
many n = cond (leb 1 n && leb n 64) LinkCount NodeCount

-- ---- links

links_unread : (d : Bool) (n k : ℕ) (s : List ℕ) (at : ℕ) → at < length s → readable 76 75 49 s at ≡ false → refusal_of (fed_of (Links d n k 0) (drop at s)) ≡ Unreadable (link_offset d n k)
links_unread d n k s at l h = go (eqb (get_or s at 0) 76) refl
  where
    go : (b : Bool) → eqb (get_or s at 0) 76 ≡ b → refusal_of (fed_of (Links d n k 0) (drop at s)) ≡ Unreadable (link_offset d n k)
    go true e = links_cut d n k s at l (eqb-true (get_or s at 0) 76 e) h
    go false e = links_none d n k s at l (eqb-false (get_or s at 0) 76 e)

abbrev LinksEnd : List ℕ → Bool → ℕ → ℕ → ℕ → ℕ → Type 0
LinksEnd s d n k at m =
    (at + 49 * m ≡ length s → refusal_of (fed_of (Links d n k 0) (drop at s)) ≡ many n)
    × ((at + 49 * m ≡ length s → ⊥) → refusal_of (fed_of (Links d n k 0) (drop at s)) ≡ Unreadable (link_offset d n (k + m)))

links_over : (s : List ℕ) (d : Bool) (n k at : ℕ) → length s ≤ at → refusal_of (fed_of (Links d n k 0) (drop at s)) ≡ many n
unfolding refusal_of end_in_links
links_over s d n k at h = ap refusal_of (fed_none s (Links d n k 0) at h)

links_end : (s : List ℕ) (d : Bool) (fuel n k at : ℕ) → at ≤ length s → length s ≤ at + fuel → LinksEnd s d n k at (records_from 76 75 49 fuel s at)
unfolding records_from
links_end s d zero n k at h f = (λ e. links_over s d n k at (omega arith), λ ne. absurd (ne (omega arith)))
links_end s d (suc fuel) n k at h f = go (readable 76 75 49 s at) refl (links_end s d fuel n (k + 1) (at + 49))
  where
    go : (b : Bool) → readable 76 75 49 s at ≡ b → (at + 49 ≤ length s → length s ≤ at + 49 + fuel → LinksEnd s d n (k + 1) (at + 49) (records_from 76 75 49 fuel s (at + 49)))
        → LinksEnd s d n k at (cond {A = ℕ} b (suc (records_from 76 75 49 fuel s (at + 49))) 0)
    go true e rest =
        let r = records_from 76 75 49 fuel s (at + 49) in
        let w = rest (fits 76 75 49 s at e) (omega arith) in
        let q : k + 1 + r ≡ k + suc r = omega arith in
        let p = ap refusal_of (links_read d n k s at e) in
        (λ x. p ∙ w.0 (omega (arith, x)), λ x. p ∙ w.1 (λ y. x (omega (arith, y))) ∙ ap (λ (j : ℕ). Unreadable (link_offset d n j)) q)
    go false e rest =
        let q : k + 0 ≡ k = omega arith in
        (λ x. links_over s d n k at (omega (arith, x)), λ x. let l : at < length s = omega (arith, x) in rw q (links_unread d n k s at l e))

-- ---- nodes, then links

record NodesEnd (s : List ℕ) (d : Bool) (n at m j : ℕ) : Type 0 where
  none : at + 45 * m + 49 * j ≡ length s → j ≡ 0 → refusal_of (fed_of (Nodes d n 0) (drop at s)) ≡ NodeCount
  some : at + 45 * m + 49 * j ≡ length s → (j ≡ 0 → ⊥) → refusal_of (fed_of (Nodes d n 0) (drop at s)) ≡ many (n + m)
  broken : (at + 45 * m + 49 * j ≡ length s → ⊥) → refusal_of (fed_of (Nodes d n 0) (drop at s)) ≡ Unreadable (link_offset d (n + m) j)

no_links : (s : List ℕ) (at : ℕ) → (get_or s at 0 ≡ 76 → ⊥) → records_from 76 75 49 (length s) s at ≡ 0
no_links s at ne = go (readable 76 75 49 s at) refl
  where
    go : (b : Bool) → readable 76 75 49 s at ≡ b → records_from 76 75 49 (length s) s at ≡ 0
    go true e = absurd (ne (marked 76 75 49 s at e).1.0)
    go false e = run_end 76 75 49 (length s) s at e

nodes_over : (s : List ℕ) (d : Bool) (n at : ℕ) → length s ≤ at → refusal_of (fed_of (Nodes d n 0) (drop at s)) ≡ NodeCount
unfolding refusal_of end_in_nodes
nodes_over s d n at h = ap refusal_of (fed_none s (Nodes d n 0) at h)

nodes_last : (s : List ℕ) (d : Bool) (n at j : ℕ) → at ≤ length s → readable 78 68 45 s at ≡ false → j ≡ records_from 76 75 49 (length s) s at → NodesEnd s d n at 0 j
nodes_last s d n at j h u ej = go (ltb at (length s)) refl (eqb (get_or s at 0) 76) refl (eqb (get_or s at 0) 78) refl
  where
    z : n + 0 ≡ n
    z = omega arith

    go : (t : Bool) → ltb at (length s) ≡ t → (x : Bool) → eqb (get_or s at 0) 76 ≡ x → (y : Bool) → eqb (get_or s at 0) 78 ≡ y → NodesEnd s d n at 0 j
    go false e x ex y ey =
        let l = ltb-false at (length s) e in
        let r : j ≡ 0 = ej ∙ run_end 76 75 49 (length s) s at (too_short_lem 76 75 49 s at (omega arith)) in
        record { none = λ a b. nodes_over s d n at l; some = λ a b. absurd (b r); broken = λ a. absurd (a (omega arith)) }
    go true e true ex y ey =
        let l = ltb-true at (length s) e in
        let w = links_end s d (length s) n 0 at h (omega arith) in
        let y₀ : 0 + records_from 76 75 49 (length s) s at ≡ records_from 76 75 49 (length s) s at = omega arith in
        let p = ap refusal_of (first_link d n s at l (eqb-true (get_or s at 0) 76 ex)) in
        record {
          none = λ a b. absurd (let v : ⊥ = omega (arith, a, b) in v);
          some = λ a b. rw z (p ∙ w.0 (omega (arith, a, ej)));
          broken = λ a. rw (z, ej) (p ∙ w.1 (λ c. a (omega (arith, c, ej))) ∙ ap (λ (i : ℕ). Unreadable (link_offset d n i)) y₀);
        }
    go true e false ex true ey =
        let l = ltb-true at (length s) e in
        let r : j ≡ 0 = ej ∙ no_links s at (eqb-false (get_or s at 0) 76 ex) in
        record {
          none = λ a b. absurd (let v : ⊥ = omega (arith, a, b) in v);
          some = λ a b. absurd (b r);
          broken = λ a. rw (z, r) (nodes_cut d n s at l (eqb-true (get_or s at 0) 78 ey) u ∙ (let q : node_offset d n ≡ link_offset d n 0 = omega arith in ap Unreadable q));
        }
    go true e false ex false ey =
        let l = ltb-true at (length s) e in
        let r : j ≡ 0 = ej ∙ no_links s at (eqb-false (get_or s at 0) 76 ex) in
        record {
          none = λ a b. absurd (let v : ⊥ = omega (arith, a, b) in v);
          some = λ a b. absurd (b r);
          broken = λ a. rw (z, r) (nodes_none d n s at l (eqb-false (get_or s at 0) 78 ey) (eqb-false (get_or s at 0) 76 ex) ∙ (let q : node_offset d n ≡ link_offset d n 0 = omega arith in ap Unreadable q));
        }

nodes_end : (s : List ℕ) (d : Bool) (fuel n at p j : ℕ) → at ≤ length s → length s ≤ at + fuel → p ≡ at + 45 * records_from 78 68 45 fuel s at → j ≡ records_from 76 75 49 (length s) s p → NodesEnd s d n at (records_from 78 68 45 fuel s at) j
unfolding records_from
nodes_end s d zero n at p j h f ep ej =
    let q : p ≡ at = omega arith in
    nodes_last s d n at j h (too_short_lem 78 68 45 s at (omega arith)) (rw q at ej)
nodes_end s d (suc fuel) n at p j h f ep ej = go (readable 78 68 45 s at) refl ep (nodes_end s d fuel (n + 1) (at + 45) p j)
  where
    go : (b : Bool) → readable 78 68 45 s at ≡ b → p ≡ at + 45 * cond {A = ℕ} b (suc (records_from 78 68 45 fuel s (at + 45))) 0
        → (at + 45 ≤ length s → length s ≤ at + 45 + fuel → p ≡ at + 45 + 45 * records_from 78 68 45 fuel s (at + 45) → j ≡ records_from 76 75 49 (length s) s p → NodesEnd s d (n + 1) (at + 45) (records_from 78 68 45 fuel s (at + 45)) j)
        → NodesEnd s d n at (cond {A = ℕ} b (suc (records_from 78 68 45 fuel s (at + 45))) 0) j
    go true e ep rest =
        let r = records_from 78 68 45 fuel s (at + 45) in
        let w = rest (fits 78 68 45 s at e) (omega arith) (omega (arith, ep)) ej in
        let q : n + 1 + r ≡ n + suc r = omega arith in
        let t = ap refusal_of (nodes_read d n s at e) in
        record {
          none = λ a b. t ∙ w.none (omega (arith, a)) b;
          some = λ a b. t ∙ w.some (omega (arith, a)) b ∙ ap (λ (i : ℕ). many i) q;
          broken = λ a. t ∙ w.broken (λ c. a (omega (arith, c))) ∙ ap (λ (i : ℕ). Unreadable (link_offset d i j)) q;
        }
    go false e ep rest =
        let q : p ≡ at = omega (arith, ep) in
        nodes_last s d n at j h e (rw q at ej)

-- ---- the whole sheet

no_options : (s : List ℕ) → 9199 < length s → readable 79 80 29 s 0 ≡ false → refusal_of (fed_of (Options 0) (drop 0 s)) ≡ Unreadable 0
no_options s l h = go (eqb (get_or s 0 0) 79) refl
  where
    go : (b : Bool) → eqb (get_or s 0 0) 79 ≡ b → refusal_of (fed_of (Options 0) (drop 0 s)) ≡ Unreadable 0
    go true e = options_cut s 0 (omega arith) (eqb-true (get_or s 0 0) 79 e) h
    go false e = options_none s 0 (omega arith) (eqb-false (get_or s 0 0) 79 e)

-- behind the OP stand the nodes, or a PD that can be read and then the nodes; one that can't be read is told as a node that can't
behind : (s : List ℕ) (d : Bool) → 29 < length s → readable 80 68 18 s 29 ≡ d → refusal_of (fed_of (Pressures 0) (drop 29 s)) ≡ refusal_of (fed_of (Nodes d 0 0) (drop (heading d) s))
behind s true l e = ap refusal_of (pressures_read s 29 e)
behind s false l e = go (eqb (get_or s 29 0) 80) refl
  where
    go : (b : Bool) → eqb (get_or s 29 0) 80 ≡ b → refusal_of (fed_of (Pressures 0) (drop 29 s)) ≡ refusal_of (fed_of (Nodes false 0 0) (drop 29 s))
    go true f =
        let q = eqb-true (get_or s 29 0) 80 f in
        pressures_cut s 29 l q e ∙ sym (nodes_none false 0 s 29 l (λ x. omega (arith, x, q)) (λ x. omega (arith, x, q)))
    go false f = ap refusal_of (first_node s 29 l (eqb-false (get_or s 29 0) 80 f))

-- too many records are a wrong count
many_counted : (s : List ℕ) (d : Bool) (n k : ℕ) → 9199 < link_offset d n k → (k ≡ 0 → ⊥) → after_scan base_bounds (planned d n k 0) s ≡ Err (many n)
unfolding after_scan base_bounds
many_counted s d n k l ne = go (leb 1 n && leb n 64) refl
  where
    go : (b : Bool) → (leb 1 n && leb n 64) ≡ b → after_scan base_bounds (planned d n k 0) s ≡ Err (many n)
    go true e =
        let few = leb-true n 64 (and_right (leb 1 n) (leb n 64) e) in
        rw (e, lt-leb k 128 (omega (arith, few, at_most d, l)))
    go false e = rw e

nodes_counted : (s : List ℕ) (d : Bool) (n k : ℕ) → 9199 < link_offset d n k → k ≡ 0 → after_scan base_bounds (planned d n k 0) s ≡ Err NodeCount
unfolding after_scan base_bounds
nodes_counted s d n k l e = go (leb 1 n)
  where
    go : (b : Bool) → cond (b && leb n 64) (cond (leb k 128) (checked base_bounds (planned d n k 0) s) (Err LinkCount)) (Err NodeCount) ≡ Err NodeCount
    go true = rw (lt-leb n 64 (omega (arith, at_most d, l, e)))
    go false = refl

pub long_refused : (s : List ℕ) → 9199 < length s → read_of s ≡ Err (refusal_of (fed_of (Options 0) s))
unfolding read_of read_with has_options has_pressures nodes_at nodes_of links_of layout_of end_of link_place
long_refused s l = options (readable 79 80 29 s 0) refl
  where
    d : Bool
    d = readable 80 68 18 s 29

    n : ℕ
    n = records_from 78 68 45 (length s) s (heading d)

    k : ℕ
    k = records_from 76 75 49 (length s) s (node_offset d n)

    n₀ : 0 + n ≡ n
    n₀ = omega arith

    counts : readable 79 80 29 s 0 ≡ true → (b : Bool) → eqb (link_offset d n k) (length s) ≡ b → (c : Bool) → eqb k 0 ≡ c
        → cond b (after_scan base_bounds (planned d n k 0) s) (Err (Unreadable (link_offset d n k))) ≡ Err (refusal_of (fed_of (Options 0) (drop 0 s)))
    counts h b e c f =
        let w = nodes_end s d (length s) 0 (heading d) (node_offset d n) k (omega (arith, at_most d, l)) (omega arith) refl refl in
        let t = ap refusal_of (options_read s 0 h) ∙ behind s d (omega (arith, l)) refl in
        pick w t b e c f
      where
        pick : NodesEnd s d 0 (heading d) n k → refusal_of (fed_of (Options 0) (drop 0 s)) ≡ refusal_of (fed_of (Nodes d 0 0) (drop (heading d) s)) → (b : Bool) → eqb (link_offset d n k) (length s) ≡ b → (c : Bool) → eqb k 0 ≡ c
            → cond b (after_scan base_bounds (planned d n k 0) s) (Err (Unreadable (link_offset d n k))) ≡ Err (refusal_of (fed_of (Options 0) (drop 0 s)))
        pick w t false e c f = sym (ap Err (t ∙ w.broken (eqb-false (link_offset d n k) (length s) e) ∙ ap (λ (i : ℕ). Unreadable (link_offset d i k)) n₀))
        pick w t true e true f =
            let x = eqb-true (link_offset d n k) (length s) e in
            let z = eqb-true k 0 f in
            nodes_counted s d n k (omega (arith, x, l)) z ∙ sym (ap Err (t ∙ w.none x z))
        pick w t true e false f =
            let x = eqb-true (link_offset d n k) (length s) e in
            let z = eqb-false k 0 f in
            many_counted s d n k (omega (arith, x, l)) z ∙ sym (ap Err (t ∙ w.some x z ∙ ap (λ (i : ℕ). many i) n₀))

    options : (b : Bool) → readable 79 80 29 s 0 ≡ b
        → cond b (cond (eqb (link_offset d n k) (length s)) (after_scan base_bounds (planned d n k 0) s) (Err (Unreadable (link_offset d n k)))) (Err (Unreadable 0)) ≡ Err (refusal_of (fed_of (Options 0) (drop 0 s)))
    options true e = counts e (eqb (link_offset d n k) (length s)) refl (eqb k 0) refl
    options false e = sym (ap Err (no_options s l e))
