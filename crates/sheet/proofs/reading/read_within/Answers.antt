-- `sheet::reading::read_within` meets its contract. Assumes nothing.
use mathlib.Core.Path.{◌≡◌, sym, ap, subst, ◌∙◌}
use Prim.Native.Nat.{ℕ}
use mathlib.Core.List.{List}
use native.Mathlib.Omega.{arith}
use borrow.Author.Rules.{rules}
use borrow.Author.Tests.{not-true, not-false}
use Rattle.layout.specs.Places.{Laid, link_place}
use Rattle.layout.specs.declared.places.Layout.{Layout}
use mathlib.Core.Bool.{true}
use Rattle.sheet.specs.Scan.{has_options, end_of}
use Rattle.sheet.specs.Read.{after_scan}
use Rattle.refusals.specs.declared.refusals.Refusal.TheVariants.{Unreadable}
use Rattle.sheet.proofs.Readings.{laid_of, options_are, options_fit, no_options, broken, whole}
use mathlib.Core.Bool.{not}
use Rattle.sheet.proofs.reading.read_within.Goals as goal
use Rattle.std.specs.Prelude.{Err}

pub returns-then-not-is_record : goal.returns-then-not-is_record
returns-then-not-is_record c = sym (no_options c.args.b c.args.sheet.now (options_are c.args.sheet.now _ c.is_record.ensures ∙ not-true _ (ap not c.if-not-is_record.true)))

pub lay_out-l-requires : goal.lay_out-l-requires
lay_out-l-requires c = options_fit c.args.sheet.now _ c.is_record.ensures (not-false _ (ap not c.if-not-is_record.false))

pub link_place-end-requires : goal.link_place-end-requires
link_place-end-requires c =
    let s : List ℕ = c.args.sheet.now in
    let laid : Laid c.lay_out-l.result s = subst (λ (l : Layout). Laid l s) (sym c.lay_out-l.ensures) (laid_of s (options_fit s _ c.is_record.ensures (not-false _ (ap not c.if-not-is_record.false)))) in
    omega (arith, laid.links)

pub returns-then-end-sheet : goal.returns-then-end-sheet
unfolding end_of
returns-then-end-sheet c =
    let s : List ℕ = c.args.sheet.now in
    let ends : (e : ℕ) → e ≡ link_place c.lay_out-l.result c.lay_out-l.result.links → e ≡ end_of s = λ e h. h ∙ ap (λ (l : Layout). link_place l l.links) c.lay_out-l.ensures in
    let flag : has_options s ≡ true = options_are s _ c.is_record.ensures ∙ not-false _ (ap not c.if-not-is_record.false) in
    let e = ends _ c.link_place-end.ensures in
    ap (λ (at : ℕ). Err (Unreadable at)) e ∙ sym (broken _ s flag (λ h. c.if-end-sheet.true (e ∙ h)))

pub check_counts-requires : goal.check_counts-requires
check_counts-requires c =
    let s : List ℕ = c.args.sheet.now in
    let laid : Laid c.lay_out-l.result s = subst (λ (l : Layout). Laid l s) (sym c.lay_out-l.ensures) (laid_of s (options_fit s _ c.is_record.ensures (not-false _ (ap not c.if-not-is_record.false)))) in
    laid

pub returns : goal.returns
unfolding end_of
returns c =
    let s : List ℕ = c.args.sheet.now in
    let flag : has_options s ≡ true = options_are s _ c.is_record.ensures ∙ not-false _ (ap not c.if-not-is_record.false) in
    let ends : (e : ℕ) → e ≡ link_place c.lay_out-l.result c.lay_out-l.result.links → e ≡ end_of s = λ e h. h ∙ ap (λ (l : Layout). link_place l l.links) c.lay_out-l.ensures in
    c.check_counts.ensures ∙ ap (λ (l : Layout). after_scan c.args.b l s) c.lay_out-l.ensures ∙ sym (whole c.args.b s flag (sym (ends _ c.link_place-end.ensures) ∙ c.if-end-sheet.false))
