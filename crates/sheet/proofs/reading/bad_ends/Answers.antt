-- `sheet::reading::bad_ends` meets its contract: what is left to search answers for the whole. Assumes nothing.
use mathlib.Core.Path.{◌≡◌, ◌∙◌, ap, sym, subst}
use Prim.Native.Nat.{ℕ, ◌+◌, ◌-◌, ◌≤◌, ◌<◌}
use native.Mathlib.Omega.{arith}
use Rattle.layout.specs.Places.{link_place}
use Rattle.layout.proofs.Laws.{link_within, link_next, link_first}
use Rattle.records.specs.Records.{pair_at}
use Rattle.links.specs.Links.{link_start, link_end}
use Rattle.ends.specs.Ends.{ends_good}
use Rattle.sheet.specs.Read.{first_bad, bad_ends}
use Rattle.sheet.proofs.Laws.{search_end, search-bad, search-on}
use mathlib.Core.Bool.{not}
use Rattle.sheet.proofs.reading.bad_ends.Goals as goal

pub loop-j-init : goal.loop-j-init
unfolding bad_ends
loop-j-init c =
    let e : c.args.l.links - 0 ≡ c.args.l.links = omega arith in
    (ap (λ (k : ℕ). first_bad (ends_good c.args.l c.args.sheet.now) c.args.l.stride k (link_place c.args.l 0)) e ∙ ap (first_bad (ends_good c.args.l c.args.sheet.now) c.args.l.stride c.args.l.links) (link_first c.args.l), omega arith)

pub link_place-at-requires : goal.link_place-at-requires
link_place-at-requires c = omega (arith, link_within _ _ _ c.requires.laid c.loop-j-test.true)

pub ends_good-requires-clause-laid : goal.ends_good-requires-clause-laid
unfolding link_start link_end
ends_good-requires-clause-laid c =
    let e = sym c.link_place-at.ensures in
    c.requires.laid

pub ends_good-requires-clause-at_in_bounds : goal.ends_good-requires-clause-at_in_bounds
unfolding link_start link_end
ends_good-requires-clause-at_in_bounds c =
    let e = sym c.link_place-at.ensures in
    omega (arith, e, link_within _ _ _ c.requires.laid c.loop-j-test.true)

pub ends_good-requires-clause-at_bound : goal.ends_good-requires-clause-at_bound
unfolding link_start link_end
ends_good-requires-clause-at_bound c =
    let e = sym c.link_place-at.ensures in
    (subst (λ (k : ℕ). pair_at c.args.sheet.now (k + 5) < c.args.l.nodes) e (c.requires.ends_in.start _ c.loop-j-test.true), subst (λ (k : ℕ). pair_at c.args.sheet.now (k + 7) < c.args.l.nodes) e (c.requires.ends_in.end _ c.loop-j-test.true))

pub returns-then-not-ends_good : goal.returns-then-not-ends_good
returns-then-not-ends_good c = search-bad (ends_good c.args.l c.args.sheet.now) c.args.l.stride c.args.l.links c.loop-j.j (link_place c.args.l c.loop-j.j) _ c.loop-j.invariant.0 _ _ c.link_place-at.ensures c.ends_good.ensures c.loop-j-test.true (ap not c.if-not-ends_good.true)

pub loop-j-preserved : goal.loop-j-preserved
loop-j-preserved c = (search-on (ends_good c.args.l c.args.sheet.now) c.args.l.stride c.args.l.links c.loop-j.j (link_place c.args.l c.loop-j.j) _ c.loop-j.invariant.0 _ _ c.link_place-at.ensures c.ends_good.ensures c.loop-j-test.true _ (ap not c.if-not-ends_good.false) (link_next c.args.l c.loop-j.j), omega arith)

pub returns : goal.returns
returns c = search_end (ends_good c.args.l c.args.sheet.now) c.args.l.stride c.args.l.links c.loop-j.j (link_place c.args.l c.loop-j.j) _ c.loop-j.invariant.0 c.loop-j-test.false
