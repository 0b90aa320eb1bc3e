-- What an arm of several variants is told: a fact that holds at each of its keys holds of the value. Assumes nothing.
use mathlib.Core.Path.{◌≡◌, refl, sym, subst}
use mathlib.Core.List.{List, [], ◌∷◌}
use mathlib.Core.Logic.{⊎_elim}
use Prim.Native.Nat.{ℕ}
use types.Run.{OneOf}
use denote.Enum.Declared.{tag_of}
use Rattle.codes.specs.contracts.Status as status
use Rattle.codes.specs.contracts.LinkKind as kind
use Rattle.codes.specs.Codes.{status_of, link_kind_of}
use Rattle.codes.specs.declared.Status.{Status}
use Rattle.codes.specs.declared.Status.TheVariants.{Closed, Open, Active, TempClosed, FixedClosed, FixedOpen, XPressure, Xhead}
use Rattle.codes.specs.declared.LinkKind.{LinkKind}
use Rattle.codes.specs.declared.LinkKind.TheVariants.{Pipe, Prv, Psv, Pbv, Fcv, Tcv, Pcv}

module _ {E : Type 0} (of : ℕ → E) (tag : E → ℕ) (back : (x : E) → of (tag x) ≡ x) (P : E → Type 0) where
  abbrev pub Each : List ℕ → Type 0
  Each [] = Unit {0}
  Each (k ∷ ks) = P (of k) × Each ks

  at_key : (ks : List ℕ) (k : ℕ) → OneOf ks k → Each ks → P (of k)
  at_key [] k h a = absurd h
  at_key (j ∷ []) k h a = subst (λ (n : ℕ). P (of n)) (sym h) a.0
  at_key (j ∷ i ∷ ks) k h a = ⊎_elim (λ e. subst (λ (n : ℕ). P (of n)) (sym e) a.0) (λ l. at_key (i ∷ ks) k l a.1) h

  pub among : (ks : List ℕ) (x : E) → OneOf ks (tag x) → Each ks → P x
  among ks x h a = subst P (back x) (at_key ks (tag x) h a)

abbrev pub status_tag : Status → ℕ
status_tag s = tag_of status.the_type s

abbrev pub kind_tag : LinkKind → ℕ
kind_tag k = tag_of kind.the_type k

pub status_back : (s : Status) → status_of (status_tag s) ≡ s
unfolding status_of
status_back Closed = refl
status_back Open = refl
status_back Active = refl
status_back TempClosed = refl
status_back FixedClosed = refl
status_back FixedOpen = refl
status_back XPressure = refl
status_back Xhead = refl

pub kind_back : (k : LinkKind) → link_kind_of (kind_tag k) ≡ k
unfolding link_kind_of
kind_back Pipe = refl
kind_back Prv = refl
kind_back Psv = refl
kind_back Pbv = refl
kind_back Fcv = refl
kind_back Tcv = refl
kind_back Pcv = refl

pub of_status : (P : Status → Type 0) (ks : List ℕ) (s : Status) → OneOf ks (status_tag s) → Each status_of status_tag status_back P ks → P s
of_status P ks s h a = among status_of status_tag status_back P ks s h a

pub of_kind : (P : LinkKind → Type 0) (ks : List ℕ) (k : LinkKind) → OneOf ks (kind_tag k) → Each link_kind_of kind_tag kind_back P ks → P k
of_kind P ks k h a = among link_kind_of kind_tag kind_back P ks k h a
