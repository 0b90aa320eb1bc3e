-- `sheet::reading::bad_link` meets its contract: what is left to search answers for the whole. Assumes nothing.
use mathlib.Core.Path.{◌≡◌, ◌∙◌, ap}
use Prim.Native.Nat.{ℕ, ◌+◌, ◌-◌, ◌≤◌}
use native.Mathlib.Omega.{arith}
use Rattle.layout.specs.Places.{link_place}
use Rattle.layout.proofs.Laws.{link_within, link_next, link_first}
use Rattle.fields.specs.Fields.{link_good}
use Rattle.sheet.specs.Read.{first_bad, bad_link}
use Rattle.sheet.proofs.Laws.{search_end, search-bad, search-on}
use mathlib.Core.Bool.{not}
use Rattle.sheet.proofs.reading.bad_link.Goals as goal

pub loop-j-init : goal.loop-j-init
unfolding bad_link
loop-j-init c =
    let e : c.args.l.links - 0 ≡ c.args.l.links = omega arith in
    (ap (λ (k : ℕ). first_bad (link_good c.args.b c.args.l.nodes c.args.sheet.now) c.args.l.stride k (link_place c.args.l 0)) e ∙ ap (first_bad (link_good c.args.b c.args.l.nodes c.args.sheet.now) c.args.l.stride c.args.l.links) (link_first c.args.l), omega arith)

pub link_place-at-requires : goal.link_place-at-requires
link_place-at-requires c = omega (arith, link_within _ _ _ c.requires c.loop-j-test.true)

pub link_good-requires : goal.link_good-requires
link_good-requires c = omega (arith, c.link_place-at.ensures, link_within _ _ _ c.requires c.loop-j-test.true)

pub returns-then-not-link_good : goal.returns-then-not-link_good
returns-then-not-link_good c = search-bad (link_good c.args.b c.args.l.nodes c.args.sheet.now) c.args.l.stride c.args.l.links c.loop-j.j (link_place c.args.l c.loop-j.j) _ c.loop-j.invariant.0 _ _ c.link_place-at.ensures c.link_good.ensures c.loop-j-test.true (ap not c.if-not-link_good.true)

pub loop-j-preserved : goal.loop-j-preserved
loop-j-preserved c = (search-on (link_good c.args.b c.args.l.nodes c.args.sheet.now) c.args.l.stride c.args.l.links c.loop-j.j (link_place c.args.l c.loop-j.j) _ c.loop-j.invariant.0 _ _ c.link_place-at.ensures c.link_good.ensures c.loop-j-test.true _ (ap not c.if-not-link_good.false) (link_next c.args.l c.loop-j.j), omega arith)

pub returns : goal.returns
returns c = search_end (link_good c.args.b c.args.l.nodes c.args.sheet.now) c.args.l.stride c.args.l.links c.loop-j.j (link_place c.args.l c.loop-j.j) _ c.loop-j.invariant.0 c.loop-j-test.false
