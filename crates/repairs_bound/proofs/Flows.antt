-- The flows of a solve: each is an f64 that is not wild, from the start on and as long as the solve goes on. Assumes nothing.
use Prim.Native.Nat.{ℕ, zero, suc, ◌*◌, ◌^◌, ◌≤◌, ◌<◌}
use mathlib.Core.Path.{◌≡◌, refl, sym, ap, ◌∙◌, subst}
use mathlib.Core.Logic.{⊎_elim}
use mathlib.Core.Bool.{Bool, true, false, cond, ◌&&◌, ◌||◌}
use mathlib.Core.List.{List}
use native.Mathlib.Nat.{eq-or-lt_of_le, le_of_suc-le-suc}
use native.Mathlib.Omega.{arith}
use borrow.Author.Tests.{ltb-true, eqb-true, le-ltb, ne_eqb}
use lib.Dec.{eqb, ltb}
use lib.Count.{count_trailing_zeros}
use lib.ListN.{length, get_or, set}
use lib.Seq.{get_or-set_same, get_or-set_other}
use lib.Ieee.{Float, nan, inf, fin, binary64, up, down, of_bits, of_fields, odd, lt, eq, le}
use lib.Ieee.Bits.{of_bits-fits}
use lib.Ieee.Fits.{down_pos, sub-fits}
use Rattle.float.specs.Sign.{abs_of}
use Rattle.float.specs.Order.{wild_of}
use Rattle.layout.specs.declared.places.Layout.{Layout}
use Rattle.records.specs.Records.{link_at, options_of}
use Rattle.records.specs.declared.records.Link.{Link}
use Rattle.records.specs.declared.records.Options.{Options}
use Rattle.links.specs.Links.{link_of}
use Rattle.nodes.specs.Nodes.{enabled}
use Rattle.fields.specs.Fields.{base_bounds, within}
use Rattle.sheet.specs.Read.{read_of}
use Rattle.zeros.proofs.Zeros.{clash}
use Rattle.constants.specs.Arithmetic.{minus}
use Rattle.constants.specs.Constants as constant
use Rattle.columns.specs.Columns.{zeros}
use Rattle.columns.proofs.Laws.{zeros_long}
use Rattle.state.specs.State.{State, flows_from, solved_heads}
use Rattle.state.proofs.Kept.{flows_long}
use Rattle.starts.specs.Start.{start_of}
use Rattle.solver.proofs.Laws.{network_of}
use Rattle.wild.specs.Wild.{wild_place}
use Rattle.update.specs.Update.{Stepping, stepping, still, Basis, basis, flow_change, link_set, link_moved, link_update, link_updates, update_of}
use Rattle.update.specs.declared.Stats.{Stats}
use Rattle.tanks.specs.Tanks.{tank_links_of}
use Rattle.drawn.specs.Drawn.{draws, drawn_of}
use Rattle.damping.specs.declared.steps.Damping.{Damping}
use Rattle.entries.specs.Entries.{going_of}
use Rattle.step.specs.Step.{step_entry, step_of}
use Rattle.promises.specs.Wilds.{is_wild}
use Rattle.promises.proofs.Wilds.{none_is_wild}
use Rattle.repairs_bound.proofs.Fitting.{AllFit, set_fit, zeros_fit}
use Rattle.repairs_bound.proofs.Conducting.{bytes_fit, flow_within}
use Rattle.std.specs.Prelude.{None, Ok, Option, Some}
use Rattle.std.proofs.Common.{Continue}
use Rattle.causes.specs.Causes.{Flip}

-- each of the first n flows is an f64 that is not wild
pub record Tame (n : ℕ) (flows : List Float) : Type 0 where
  pub fit : AllFit flows
  pub tame : (j : ℕ) → j < n → wild_of (get_or flows j nan) ≡ false

-- ---- the start

-- what is at most 2 ^ 40 is below 2 ^ 64
below_wild : (a d : ℕ) → 0 < d → (ltb (a * 1) (1 * 2 ^ 40 * d) || (eqb (a * 1) (1 * 2 ^ 40 * d) && true)) ≡ true → (ltb (1 * 2 ^ 64 * d) (a * 1) || (eqb (1 * 2 ^ 64 * d) (a * 1) && true)) ≡ false
below_wild a d h e = go (ltb (a * 1) (1 * 2 ^ 40 * d)) refl (eqb (a * 1) (1 * 2 ^ 40 * d)) refl e
  where
    high : a ≤ 2 ^ 40 * d → (ltb (1 * 2 ^ 64 * d) (a * 1) || (eqb (1 * 2 ^ 64 * d) (a * 1) && true)) ≡ false
    high k = rw (le-ltb (1 * 2 ^ 64 * d) (a * 1) (omega arith), ne_eqb (1 * 2 ^ 64 * d) (a * 1) (omega arith))

    go : (x : Bool) → ltb (a * 1) (1 * 2 ^ 40 * d) ≡ x → (y : Bool) → eqb (a * 1) (1 * 2 ^ 40 * d) ≡ y → (x || (y && true)) ≡ true → (ltb (1 * 2 ^ 64 * d) (a * 1) || (eqb (1 * 2 ^ 64 * d) (a * 1) && true)) ≡ false
    go true p y q f = high (omega (arith, ltb-true (a * 1) (1 * 2 ^ 40 * d) p))
    go false p true q f = high (omega (arith, eqb-true (a * 1) (1 * 2 ^ 40 * d) q))
    go false p false q f = clash f

within_tame : (x : Float) → within base_bounds x ≡ true → wild_of x ≡ false
unfolding within base_bounds abs_of wild_of le lt eq of_bits of_fields odd count_trailing_zeros
within_tame nan e = clash e
within_tame (inf s) e = clash e
within_tame (fin s m k) e = below_wild (m * up k) (down k) (down_pos k) e

module _ (s : List ℕ) (l : Layout) where
  starts_fit : (n : ℕ) (x : List Float) → AllFit x → AllFit (flows_from s l n x)
  unfolding flows_from link_of link_at
  starts_fit zero x f = f
  starts_fit (suc n) x f = set_fit (flows_from s l n x) n (link_of s l n).flow (bytes_fit s _) (starts_fit n x f)

  starts_at : (n : ℕ) (x : List Float) → n ≤ length x → (j : ℕ) → j < n → get_or (flows_from s l n x) j nan ≡ (link_of s l j).flow
  unfolding flows_from
  starts_at zero x h j b = absurd (omega arith)
  starts_at (suc n) x h j b =
      ⊎_elim
      (λ (q : j ≡ n). subst (λ (k : ℕ). get_or (flows_from s l (suc n) x) k nan ≡ (link_of s l k).flow) (sym q) (get_or-set_same (flows_from s l n x) n (link_of s l n).flow nan (omega (arith, flows_long s l n x))))
      (λ (q : j < n). get_or-set_other (flows_from s l n x) n j (link_of s l n).flow nan (λ z. omega arith) ∙ starts_at n x (omega arith) j q)
      (eq-or-lt_of_le (le_of_suc-le-suc b))

  pub start_tame : read_of s ≡ Ok l → Tame l.links (start_of s l).flows
  unfolding start_of
  start_tame read =
      record {
        fit = starts_fit l.links (zeros 128) (zeros_fit 128);
        tame = λ j h. ap wild_of (starts_at l.links (zeros 128) (omega (arith, (network_of s l read).links, zeros_long 128)) j h) ∙ within_tame (link_of s l j).flow (flow_within s l read j h);
      }

-- ---- a step

module _ (s : List ℕ) (l : Layout) (b : Basis) where
  link_fits : (k : Link) (j : ℕ) (w : Stepping) → AllFit w.flows → AllFit (link_update s l b k j w).flows
  unfolding link_update link_moved link_set
  link_fits k j w f = go (enabled s l k.start && enabled s l k.end)
    where
      go : (t : Bool) → AllFit (cond t (link_moved s l b k j w) (stepping (set w.flows j constant.zero) w.codes w.updated)).flows
      go true = set_fit w.flows j (minus (get_or w.flows j nan) (flow_change b k j)) (sub-fits binary64 (get_or w.flows j nan) (flow_change b k j)) f
      go false = set_fit w.flows j constant.zero (of_bits-fits binary64 0) f

  updates_fit : (j : ℕ) (w : Stepping) → AllFit w.flows → AllFit (link_updates s l b j w).flows
  unfolding link_updates
  updates_fit zero w f = f
  updates_fit (suc j) w f = link_fits (link_of s l j) j (link_updates s l b j w) (updates_fit j w f)

  update_fits : (q : List Float) (c : List ℕ) → AllFit q → AllFit (update_of s l b q c).flows
  unfolding update_of
  update_fits q c f = updates_fit l.links (stepping q c still) f

-- a run that goes on after a step met nothing wild
goes_tame : (f : Option ℕ) (o : Options) (d d' : Damping) (m : Stats) (flip : Flip) → going_of d (step_entry f o d m flip) ≡ Continue d' → f ≡ None
unfolding step_entry going_of
goes_tame (Some p) o d d' m flip e = absurd (let z : ◌≡◌ {A = ℕ} 0 1 = cc in omega arith)
goes_tame None o d d' m flip e = refl

module _ (s : List ℕ) (l : Layout) (d : Damping) (t : State) where
  pub step_tame : (g y x : List Float) (d' : Damping) → Tame l.links t.flows → going_of d (step_of s l d t g y x).entry ≡ Continue d' → Tame l.links (step_of s l d t g y x).state.flows
  unfolding step_of is_wild
  step_tame g y x d' was on =
      let h = solved_heads s l x l.nodes t.heads in
      let u = update_of s l (basis h g y d.factor) t.flows t.statuses in
      let w = tank_links_of s l h u.flows t.demands u.codes in
      let f = drawn_of s l h d.factor w.demands (draws t.drawn u.updated.stats) in
      let none = goes_tame (wild_place l h u.flows f.drawn) (options_of s) d d' f.stats u.updated.flip on in
      record {
        fit = update_fits s l (basis h g y d.factor) t.flows t.statuses was.fit;
        tame = (none_is_wild l (step_of s l d t g y x).state none).flows;
      }
