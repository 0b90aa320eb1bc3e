-- Where a factorization stops: never at the lowest junction that a link in service touches, where no Active regulator does; and a trial is refused only while a junction in service is not
-- grounded. Assumes nothing.
use Prim.Native.Nat.{ℕ, zero, suc, ◌+◌, ◌*◌, ◌≤◌, ◌<◌}
use mathlib.Core.Path.{◌≡◌, refl, sym, ap, ◌∙◌}
use mathlib.Core.Bool.{Bool, true, false, cond, not}
use mathlib.Core.List.{List}
use native.Mathlib.Omega.{arith}
use lib.ListN.{length, get_or}
use lib.Ieee.{Float}
use Rattle.layout.specs.declared.places.Layout.{Layout}
use Rattle.links.specs.Links.{link_of}
use Rattle.nodes.specs.Nodes.{serving}
use Rattle.sheet.specs.Read.{read_of}
use Rattle.sheet.proofs.Laws.{and_right}
use Rattle.found.specs.Searches.{first_of, First}
use Rattle.found.proofs.Firsts.{first_is, first_none}
use Rattle.zeros.proofs.Zeros.{clash}
use Rattle.linear.specs.Matrix.{at}
use Rattle.linear.specs.Factorization.{above, factor_of, Factored}
use Rattle.linear.proofs.Laws.{stops_below}
use Rattle.columns.specs.Columns.{zeros}
use Rattle.columns.proofs.Laws.{zeros_long}
use Rattle.numbering.specs.Numbering.{node_numbered}
use Rattle.numbering.proofs.Numbers.{at_most, rising}
use Rattle.numbering.proofs.Rows.{node_of}
use Rattle.drawing.specs.Drawing.{counting}
use Rattle.excess.specs.Excess.{excess_of}
use Rattle.assembly.specs.Assembly.{System, system, View, view, coefficients_at}
use Rattle.assembly.proofs.Kept.{assemble_long}
use Rattle.state.specs.State.{State}
use Rattle.repair.specs.Repair.{touches}
use Rattle.trial.specs.Trial.{system_of}
use Rattle.solver.proofs.Laws.{network_of, joined_of_lem}
use Rattle.promises.specs.Count.{count}
use Rattle.promises.specs.Repairs.{stop_node, stop_of, NoneAt, Grounds, Refuses}
use Rattle.promises.specs.Bound.{is_loose, loose}
use Rattle.promises.proofs.Bound.{stop_node_lem}
use Rattle.repairs_bound.proofs.Floats.{Lifted, above_test}
use Rattle.repairs_bound.proofs.Pivots.{Bare, stops_at_diagonal}
use Rattle.repairs_bound.proofs.Fitting.{AllFit, zeros_fit, assemble_fit}
use Rattle.repairs_bound.proofs.Joined.{serves, serves_at, joins, joins_has, not_joined, bare_rows}
use Rattle.repairs_bound.proofs.Diagonal.{Lifting, linked-lifted, grounded-lifted}
use Rattle.repairs_bound.proofs.Conducting.{link_lifts}
use Rattle.repairs_bound.proofs.Flows.{Tame}
use Rattle.std.specs.Prelude.{Err, None, Ok, Option, Some}

-- one that passes is counted
count_some : (n : ℕ) (f : ℕ → Bool) (j : ℕ) → j < n → f j ≡ true → 1 ≤ count n f
unfolding count
count_some zero f j h e = absurd (omega arith)
count_some (suc n) f j h e = go (f n) refl (λ b. count_some n f j b e)
  where
    go : (b : Bool) → f n ≡ b → (j < n → 1 ≤ count n f) → 1 ≤ cond {A = ℕ} b (suc (count n f)) (count n f)
    go true p ih = omega arith
    go false p ih = ih (differs (λ q. clash (sym p ∙ sym (ap f q) ∙ e)))
      where
        differs : (j ≡ n → ⊥) → j < n
        differs q = omega (arith, q)

-- ---- the system of a state

module _ (s : List ℕ) (l : Layout) (read : read_of s ≡ Ok l) (t : State) where
  matrix : List Float
  matrix = (system_of s l t).matrix

  seen : View
  seen = view t.heads t.flows t.statuses (excess_of s l (counting l.pressures t.drawn t.demands) t.flows (zeros 64))

  empty : System
  empty = system (zeros 4096) (zeros 64) (zeros 128) (zeros 128)

  matrix_long : length matrix ≡ 4096
  unfolding matrix system_of seen empty
  matrix_long = (assemble_long s l seen t.demands t.drawn t.grounded empty).matrix ∙ zeros_long 4096

  matrix_fit : AllFit matrix
  unfolding matrix system_of seen empty
  matrix_fit = assemble_fit s l seen t.demands t.drawn t.grounded empty (zeros_fit 4096)

  matrix_bare : (v : ℕ) → v < l.nodes → ((h : ℕ) → h < v → joins s l h ≡ false) → Bare (serving s l v) matrix
  unfolding matrix system_of seen empty
  matrix_bare v b lone = bare_rows s l (network_of s l read) v b lone seen t.demands t.drawn t.grounded empty (zeros_long 4096)

  -- ---- a stop behind rows without a link

  stopped_row : (v : ℕ) → stop_of s l t ≡ Some v → (factor_of l.unknowns matrix).answer ≡ Err (record { 0 = serving s l v })
  unfolding stop_of stop_node matrix
  stopped_row v e = go (factor_of l.unknowns (system_of s l t).matrix).answer refl e
    where
      go : (f : Factored) → (factor_of l.unknowns (system_of s l t).matrix).answer ≡ f → stop_node s l f ≡ Some v → f ≡ Err (record { 0 = serving s l v })
      go (Ok tt) p q = absurd (let z : ◌≡◌ {A = ℕ} 0 1 = cc in omega arith)
      go (Err u) p q =
          let w = node_of s l l.nodes u.0 (omega (arith, stops_below l.unknowns (system_of s l t).matrix u p, (network_of s l read).unknowns)) in
          let here : node_numbered s l l.nodes u.0 ≡ v = cc in
          let row : u.0 ≡ serving s l v = sym w.number ∙ ap (serving s l) here in
          ap (λ (k : ℕ). Err (record { 0 = k })) row

  not_above : (v : ℕ) → stop_of s l t ≡ Some v → ((h : ℕ) → h < v → joins s l h ≡ false) → above (at matrix (serving s l v) (serving s l v)) ≡ false
  not_above v e lone =
      let net = network_of s l read in
      let is = stop_node_lem s l net.unknowns t v e in
      let row = rising s l {i = v} {j = l.nodes} is.1 is.0 in
      stops_at_diagonal l.unknowns (serving s l v) (omega (arith, net.unknowns, at_most s l l.nodes, net.nodes)) (omega (arith, row, net.unknowns)) (record { 0 = serving s l v }) (omega arith)
      matrix matrix_long (matrix_bare v is.0 lone) (λ r h. matrix_fit (64 * r + r)) (stopped_row v e)

  not_lifted : (v : ℕ) → stop_of s l t ≡ Some v → ((h : ℕ) → h < v → joins s l h ≡ false) → Lifted (at matrix (serving s l v) (serving s l v)) → ⊥
  not_lifted v e lone f = clash (sym (not_above v e lone) ∙ above_test _ f.risen)

  -- ---- the lowest junction with a link in service

  module _ (tame : Tame l.links t.flows) where
    each-lifts : (v : ℕ) → NoneAt s l t.statuses v → (j : ℕ) → j < l.links → serves_at s l v j ≡ true → Lifting (coefficients_at s l seen.flows seen.statuses seen.excess (link_of s l j) j)
    unfolding serves_at seen
    each-lifts v none j h e = link_lifts s l read t.flows t.statuses seen.excess v j h (tame.fit j) (tame.tame j h) (and_right (serves s l j) (touches s l v j) e) (none.none j h)

    -- it is not grounded by a trial
    pub not-grounded : (v : ℕ) → First (joins s l) l.nodes v → Grounds s l t v → ⊥
    unfolding matrix system_of seen empty
    not-grounded v f g =
        let has = joins_has s l v f.holds in
        not_lifted v g.stops f.lower
        (linked-lifted s l (network_of s l read) (joined_of_lem s l read).apart v f.below has.0 seen (each-lifts v g.none) t.demands t.drawn t.grounded empty (zeros_long 4096) has.1)

  -- where there is none, no trial is refused
  not_refused : ((h : ℕ) → h < l.nodes → joins s l h ≡ false) → (v : ℕ) → Refuses s l t v → ⊥
  unfolding matrix system_of seen empty
  not_refused none v f =
      let net = network_of s l read in
      let is = stop_node_lem s l net.unknowns t v f.stops in
      not_lifted v f.stops (λ h b. none h (omega (arith, b, is.0)))
      (grounded-lifted s l net (joined_of_lem s l read).apart v is.0 is.1 seen (λ j b e. absurd (not_joined s l v j is.1 (none v is.0) b e)) t.demands t.drawn t.grounded empty (zeros_long 4096) f.already)

  -- so a trial is refused only while that junction is loose
  pub refused_loose : ((v : ℕ) → First (joins s l) l.nodes v → get_or t.grounded v false ≡ false) → (v : ℕ) → Refuses s l t v → 1 ≤ loose s l t
  unfolding loose is_loose
  refused_loose free v f = go (first_of (joins s l) l.nodes) refl
    where
      go : (w : Option ℕ) → first_of (joins s l) l.nodes ≡ w → 1 ≤ count l.nodes (is_loose s l t.grounded)
      go (Some m) e = let g = first_is (joins s l) l.nodes m e in count_some l.nodes (is_loose s l t.grounded) m g.below (rw ((joins_has s l m g.holds).0, free m g))
      go None e = absurd (not_refused (first_none (joins s l) l.nodes e) v f)
