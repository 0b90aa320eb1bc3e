-- The arms of the decisions over kind and status, over plain variables. Assumes nothing.
use Prim.Native.Nat.{ℕ}
use mathlib.Core.Path.{◌≡◌, refl, sym, ◌∙◌}
use mathlib.Core.Bool.{Bool, true, false, not, ◌&&◌}
use mathlib.Core.List.{[], ◌∷◌}
use types.Run.{OneOf}
use borrow.Author.Tests.{not-true, not-false}
use lib.Ieee.{Float, le, neg}
use Rattle.codes.specs.Codes.{status_of, link_kind_of}
use Rattle.codes.specs.declared.LinkKind.{LinkKind}
use Rattle.codes.specs.declared.Status.{Status}
use Rattle.constants.specs.Constants.{q_zero}
use Rattle.records.specs.declared.records.Link.{Link}
use Rattle.status.specs.Rules.{is_active}
use Rattle.status.proofs.Cases.{status_tag, of_status, kind_tag, of_kind}
use Rattle.conducting.specs.Conducting.{pressed, pipe_conducts, controlled, valve_conducts, if_pipe, conducts_of, held_by, holds_of}
use Rattle.std.specs.Prelude.{None, Option}

module _ (check : Bool) (flow : Float) (s : Status) where
  pub pipe_shut : OneOf (0 ∷ 3 ∷ []) (status_tag s) → false ≡ pipe_conducts check s flow
  unfolding pipe_conducts status_of
  pipe_shut h = of_status (λ (t : Status). false ≡ pipe_conducts check t flow) (0 ∷ 3 ∷ []) s h (refl, (refl, tt))

  pub pipe_carries : OneOf (1 ∷ 2 ∷ 4 ∷ 5 ∷ 6 ∷ 7 ∷ []) (status_tag s) → not (check && le flow (neg q_zero)) ≡ pipe_conducts check s flow
  unfolding pipe_conducts pressed status_of
  pipe_carries h =
      of_status (λ (t : Status). not (check && le flow (neg q_zero)) ≡ pipe_conducts check t flow) (1 ∷ 2 ∷ 4 ∷ 5 ∷ 6 ∷ 7 ∷ []) s h
      (refl, (refl, (refl, (refl, (refl, (refl, tt))))))

module _ (kind : LinkKind) (active : Bool) (setting flow : Float) where
  pub regulator_conducts : OneOf (1 ∷ 2 ∷ []) (kind_tag kind) → not active ≡ controlled kind active setting flow
  unfolding controlled link_kind_of
  regulator_conducts h = of_kind (λ (k : LinkKind). not active ≡ controlled k active setting flow) (1 ∷ 2 ∷ []) kind h (refl, (refl, tt))

  pub other_conducts : OneOf (0 ∷ 3 ∷ 5 ∷ []) (kind_tag kind) → true ≡ controlled kind active setting flow
  unfolding controlled link_kind_of
  other_conducts h = of_kind (λ (k : LinkKind). true ≡ controlled k active setting flow) (0 ∷ 3 ∷ 5 ∷ []) kind h (refl, (refl, (refl, tt)))

module _ (kind : LinkKind) (setting : Float) (s : Status) (flow : Float) where
  pub valve_shut : OneOf (0 ∷ 3 ∷ 4 ∷ []) (status_tag s) → false ≡ valve_conducts kind setting s flow
  unfolding valve_conducts status_of
  valve_shut h = of_status (λ (t : Status). false ≡ valve_conducts kind setting t flow) (0 ∷ 3 ∷ 4 ∷ []) s h (refl, (refl, (refl, tt)))

  pub valve_open : OneOf (1 ∷ 5 ∷ []) (status_tag s) → true ≡ valve_conducts kind setting s flow
  unfolding valve_conducts status_of
  valve_open h = of_status (λ (t : Status). true ≡ valve_conducts kind setting t flow) (1 ∷ 5 ∷ []) s h (refl, (refl, tt))

  pub valve_freed : OneOf (6 ∷ 7 ∷ []) (status_tag s) → (b : Bool) → b ≡ controlled kind false setting flow → b ≡ valve_conducts kind setting s flow
  unfolding valve_conducts status_of
  valve_freed h b e = of_status (λ (t : Status). b ≡ valve_conducts kind setting t flow) (6 ∷ 7 ∷ []) s h (e, (e, tt))

pub of_valve : (k : Link) (s : Status) (flow : Float) (b : Bool) → OneOf (1 ∷ 2 ∷ 3 ∷ 4 ∷ 5 ∷ 6 ∷ []) (kind_tag k.kind) → b ≡ valve_conducts k.kind k.setting s flow → b ≡ conducts_of k s flow
unfolding conducts_of link_kind_of
of_valve k s flow b h e =
    of_kind (λ (t : LinkKind). b ≡ if_pipe t (pipe_conducts k.check s flow) (valve_conducts k.kind k.setting s flow)) (1 ∷ 2 ∷ 3 ∷ 4 ∷ 5 ∷ 6 ∷ []) k.kind h
    (e, (e, (e, (e, (e, (e, tt))))))

pub holds_none : (kind : LinkKind) (start end : ℕ) → OneOf (0 ∷ 3 ∷ 4 ∷ 5 ∷ 6 ∷ []) (kind_tag kind) → None ≡ held_by kind start end
unfolding held_by link_kind_of
holds_none kind start end h = of_kind (λ (k : LinkKind). None ≡ held_by k start end) (0 ∷ 3 ∷ 4 ∷ 5 ∷ 6 ∷ []) kind h (refl, (refl, (refl, (refl, (refl, tt)))))

module _ (k : Link) (s : Status) (active : Bool) (is : active ≡ is_active s) where
  pub holds_not : not active ≡ true → None ≡ holds_of k s
  unfolding holds_of
  holds_not t = rw (sym is ∙ not-true active t)

  pub holds_at_lem : not active ≡ false → (f : Option ℕ) → f ≡ held_by k.kind k.start k.end → f ≡ holds_of k s
  unfolding holds_of
  holds_at_lem t f e = rw (sym is ∙ not-false active t) e
