-- `mending::move_link` meets its contract. Assumes nothing.
use native.Mathlib.Omega.{arith}
use mathlib.Core.Path.{sym, ◌∙◌}
use Rattle.touching.specs.Touching.{in_column}
use Rattle.mending.proofs.Mended.{first_goes, second-right, second-goes, both-mended, crossed_mended, set_twice, crossed_free, uncrossed_free, places_made, listed_made}
use Rattle.mending.proofs.move_link.Goals as goal

pub move_end-requires-clause-listed : goal.move_end-requires-clause-listed
unfolding in_column
move_end-requires-clause-listed c =
    let free = crossed_free c.args.start c.args.end (in_column c.args.starts.now c.args.j) (in_column c.args.ends.now c.args.j) c.if-start-ends.true c.requires.j_lt_links.1.1.1 (c.requires.joined.apart c.args.j c.requires.j_lt_links.0) in
    c.requires.listed_2

pub move_end-requires-clause-goes : goal.move_end-requires-clause-goes
unfolding in_column
move_end-requires-clause-goes c =
    let free = crossed_free c.args.start c.args.end (in_column c.args.starts.now c.args.j) (in_column c.args.ends.now c.args.j) c.if-start-ends.true c.requires.j_lt_links.1.1.1 (c.requires.joined.apart c.args.j c.requires.j_lt_links.0) in
    first_goes c.args.starts.now c.args.ends.now c.args.nodes c.args.links c.args.j c.args.end c.args.start c.requires.joined c.requires.links_in_bounds.0 c.requires.links_in_bounds.1 c.requires.j_lt_links.0 c.requires.j_lt_links.1.1.0 c.requires.j_lt_links.1.0 (λ e. c.requires.j_lt_links.1.1.1 (sym e)) free

pub move_end-requires-then-start-ends-clause-listed : goal.move_end-requires-then-start-ends-clause-listed
unfolding in_column
move_end-requires-then-start-ends-clause-listed c =
    let free = crossed_free c.args.start c.args.end (in_column c.args.starts.now c.args.j) (in_column c.args.ends.now c.args.j) c.if-start-ends.true c.requires.j_lt_links.1.1.1 (c.requires.joined.apart c.args.j c.requires.j_lt_links.0) in
    second-right c.args.starts.now c.args.ends.now c.args.nodes c.args.links c.args.j c.args.end c.args.start c.requires.joined c.requires.links_in_bounds.0 c.requires.links_in_bounds.1 c.requires.j_lt_links.0 c.requires.j_lt_links.1.1.0 c.requires.j_lt_links.1.0 (λ e. c.requires.j_lt_links.1.1.1 (sym e)) free _ _ _ _ _ c.move_end.ensures.end c.move_end.ensures.list

pub move_end-requires-then-start-ends-clause-goes : goal.move_end-requires-then-start-ends-clause-goes
unfolding in_column
move_end-requires-then-start-ends-clause-goes c =
    let free = crossed_free c.args.start c.args.end (in_column c.args.starts.now c.args.j) (in_column c.args.ends.now c.args.j) c.if-start-ends.true c.requires.j_lt_links.1.1.1 (c.requires.joined.apart c.args.j c.requires.j_lt_links.0) in
    second-goes c.args.starts.now c.args.ends.now c.args.nodes c.args.links c.args.j c.args.end c.args.start c.requires.joined c.requires.links_in_bounds.0 c.requires.links_in_bounds.1 c.requires.j_lt_links.0 c.requires.j_lt_links.1.1.0 c.requires.j_lt_links.1.0 (λ e. c.requires.j_lt_links.1.1.1 (sym e)) free _ _ _ _ _ c.move_end.ensures.end c.move_end.ensures.list

pub offset_bounds-starts-j-then-start-ends : goal.offset_bounds-starts-j-then-start-ends
offset_bounds-starts-j-then-start-ends c = omega (arith, c.requires.links_in_bounds, c.requires.j_lt_links, c.move_end.auto, c.move_end-then-start-ends.auto, c.well_formed)

pub bounds-starts-j-then-start-ends : goal.bounds-starts-j-then-start-ends
bounds-starts-j-then-start-ends c = omega (arith, c.requires.links_in_bounds, c.requires.j_lt_links, c.move_end.auto, c.move_end-then-start-ends.auto, c.well_formed)

pub offset_bounds-ends-j-then-start-ends : goal.offset_bounds-ends-j-then-start-ends
offset_bounds-ends-j-then-start-ends c = omega (arith, c.requires.links_in_bounds, c.requires.j_lt_links, c.move_end.auto, c.move_end-then-start-ends.auto, c.well_formed)

pub bounds-ends-j-then-start-ends : goal.bounds-ends-j-then-start-ends
bounds-ends-j-then-start-ends c = omega (arith, c.requires.links_in_bounds, c.requires.j_lt_links, c.move_end.auto, c.move_end-then-start-ends.auto, c.well_formed)

pub returns-then-start-ends-clause-starts : goal.returns-then-start-ends-clause-starts
unfolding in_column
returns-then-start-ends-clause-starts c =
    let free = crossed_free c.args.start c.args.end (in_column c.args.starts.now c.args.j) (in_column c.args.ends.now c.args.j) c.if-start-ends.true c.requires.j_lt_links.1.1.1 (c.requires.joined.apart c.args.j c.requires.j_lt_links.0) in
    let all = crossed_mended c.args.starts.now c.args.ends.now c.args.nodes c.args.links c.args.j c.args.end c.args.start (omega (arith, c.requires.links_in_bounds, c.requires.j_lt_links.0)) (omega (arith, c.requires.links_in_bounds, c.requires.j_lt_links.0)) _ _ _ _ _ _ (both-mended c.args.starts.now c.args.ends.now c.args.nodes c.args.links c.args.j c.args.end c.args.start c.requires.joined c.requires.links_in_bounds.0 c.requires.links_in_bounds.1 c.requires.j_lt_links.0 c.requires.j_lt_links.1.1.0 c.requires.j_lt_links.1.0 (λ e. c.requires.j_lt_links.1.1.1 (sym e)) free _ _ _ _ _ c.move_end.ensures.end c.move_end.ensures.list _ _ c.move_end-then-start-ends.ensures.list) in
    let p-long = c.move_end-then-start-ends.auto.places ∙ c.move_end.auto.places in
    let l-long = c.move_end-then-start-ends.auto.listed ∙ c.move_end.auto.listed in
    set_twice c.args.starts.now _ c.args.j c.args.end c.args.start c.move_end.ensures.end

pub returns-then-start-ends-clause-ends : goal.returns-then-start-ends-clause-ends
unfolding in_column
returns-then-start-ends-clause-ends c =
    let free = crossed_free c.args.start c.args.end (in_column c.args.starts.now c.args.j) (in_column c.args.ends.now c.args.j) c.if-start-ends.true c.requires.j_lt_links.1.1.1 (c.requires.joined.apart c.args.j c.requires.j_lt_links.0) in
    let all = crossed_mended c.args.starts.now c.args.ends.now c.args.nodes c.args.links c.args.j c.args.end c.args.start (omega (arith, c.requires.links_in_bounds, c.requires.j_lt_links.0)) (omega (arith, c.requires.links_in_bounds, c.requires.j_lt_links.0)) _ _ _ _ _ _ (both-mended c.args.starts.now c.args.ends.now c.args.nodes c.args.links c.args.j c.args.end c.args.start c.requires.joined c.requires.links_in_bounds.0 c.requires.links_in_bounds.1 c.requires.j_lt_links.0 c.requires.j_lt_links.1.1.0 c.requires.j_lt_links.1.0 (λ e. c.requires.j_lt_links.1.1.1 (sym e)) free _ _ _ _ _ c.move_end.ensures.end c.move_end.ensures.list _ _ c.move_end-then-start-ends.ensures.list) in
    let p-long = c.move_end-then-start-ends.auto.places ∙ c.move_end.auto.places in
    let l-long = c.move_end-then-start-ends.auto.listed ∙ c.move_end.auto.listed in
    set_twice c.args.ends.now _ c.args.j c.args.start c.args.end c.move_end-then-start-ends.ensures.end

pub returns-then-start-ends-clause-places : goal.returns-then-start-ends-clause-places
unfolding in_column
returns-then-start-ends-clause-places c =
    let free = crossed_free c.args.start c.args.end (in_column c.args.starts.now c.args.j) (in_column c.args.ends.now c.args.j) c.if-start-ends.true c.requires.j_lt_links.1.1.1 (c.requires.joined.apart c.args.j c.requires.j_lt_links.0) in
    let all = crossed_mended c.args.starts.now c.args.ends.now c.args.nodes c.args.links c.args.j c.args.end c.args.start (omega (arith, c.requires.links_in_bounds, c.requires.j_lt_links.0)) (omega (arith, c.requires.links_in_bounds, c.requires.j_lt_links.0)) _ _ _ _ _ _ (both-mended c.args.starts.now c.args.ends.now c.args.nodes c.args.links c.args.j c.args.end c.args.start c.requires.joined c.requires.links_in_bounds.0 c.requires.links_in_bounds.1 c.requires.j_lt_links.0 c.requires.j_lt_links.1.1.0 c.requires.j_lt_links.1.0 (λ e. c.requires.j_lt_links.1.1.1 (sym e)) free _ _ _ _ _ c.move_end.ensures.end c.move_end.ensures.list _ _ c.move_end-then-start-ends.ensures.list) in
    let p-long = c.move_end-then-start-ends.auto.places ∙ c.move_end.auto.places in
    let l-long = c.move_end-then-start-ends.auto.listed ∙ c.move_end.auto.listed in
    places_made _ _ _ _ _ _ c.args.places.now c.args.listed.now _ _ all p-long l-long

pub returns-then-start-ends-clause-listed : goal.returns-then-start-ends-clause-listed
unfolding in_column
returns-then-start-ends-clause-listed c =
    let free = crossed_free c.args.start c.args.end (in_column c.args.starts.now c.args.j) (in_column c.args.ends.now c.args.j) c.if-start-ends.true c.requires.j_lt_links.1.1.1 (c.requires.joined.apart c.args.j c.requires.j_lt_links.0) in
    let all = crossed_mended c.args.starts.now c.args.ends.now c.args.nodes c.args.links c.args.j c.args.end c.args.start (omega (arith, c.requires.links_in_bounds, c.requires.j_lt_links.0)) (omega (arith, c.requires.links_in_bounds, c.requires.j_lt_links.0)) _ _ _ _ _ _ (both-mended c.args.starts.now c.args.ends.now c.args.nodes c.args.links c.args.j c.args.end c.args.start c.requires.joined c.requires.links_in_bounds.0 c.requires.links_in_bounds.1 c.requires.j_lt_links.0 c.requires.j_lt_links.1.1.0 c.requires.j_lt_links.1.0 (λ e. c.requires.j_lt_links.1.1.1 (sym e)) free _ _ _ _ _ c.move_end.ensures.end c.move_end.ensures.list _ _ c.move_end-then-start-ends.ensures.list) in
    let p-long = c.move_end-then-start-ends.auto.places ∙ c.move_end.auto.places in
    let l-long = c.move_end-then-start-ends.auto.listed ∙ c.move_end.auto.listed in
    listed_made _ _ _ _ _ _ c.args.places.now c.args.listed.now _ _ all p-long l-long

pub move_end-requires-2-clause-listed : goal.move_end-requires-2-clause-listed
unfolding in_column
move_end-requires-2-clause-listed c =
    let free = uncrossed_free c.args.start c.args.end (in_column c.args.starts.now c.args.j) (in_column c.args.ends.now c.args.j) c.if-start-ends.false in
    c.requires.listed_2

pub move_end-requires-2-clause-goes : goal.move_end-requires-2-clause-goes
unfolding in_column
move_end-requires-2-clause-goes c =
    let free = uncrossed_free c.args.start c.args.end (in_column c.args.starts.now c.args.j) (in_column c.args.ends.now c.args.j) c.if-start-ends.false in
    first_goes c.args.starts.now c.args.ends.now c.args.nodes c.args.links c.args.j c.args.start c.args.end c.requires.joined c.requires.links_in_bounds.0 c.requires.links_in_bounds.1 c.requires.j_lt_links.0 c.requires.j_lt_links.1.0 c.requires.j_lt_links.1.1.0 c.requires.j_lt_links.1.1.1 free

pub move_end-requires-3-clause-listed : goal.move_end-requires-3-clause-listed
unfolding in_column
move_end-requires-3-clause-listed c =
    let free = uncrossed_free c.args.start c.args.end (in_column c.args.starts.now c.args.j) (in_column c.args.ends.now c.args.j) c.if-start-ends.false in
    second-right c.args.starts.now c.args.ends.now c.args.nodes c.args.links c.args.j c.args.start c.args.end c.requires.joined c.requires.links_in_bounds.0 c.requires.links_in_bounds.1 c.requires.j_lt_links.0 c.requires.j_lt_links.1.0 c.requires.j_lt_links.1.1.0 c.requires.j_lt_links.1.1.1 free _ _ _ _ _ c.move_end-2.ensures.end c.move_end-2.ensures.list

pub move_end-requires-3-clause-goes : goal.move_end-requires-3-clause-goes
unfolding in_column
move_end-requires-3-clause-goes c =
    let free = uncrossed_free c.args.start c.args.end (in_column c.args.starts.now c.args.j) (in_column c.args.ends.now c.args.j) c.if-start-ends.false in
    second-goes c.args.starts.now c.args.ends.now c.args.nodes c.args.links c.args.j c.args.start c.args.end c.requires.joined c.requires.links_in_bounds.0 c.requires.links_in_bounds.1 c.requires.j_lt_links.0 c.requires.j_lt_links.1.0 c.requires.j_lt_links.1.1.0 c.requires.j_lt_links.1.1.1 free _ _ _ _ _ c.move_end-2.ensures.end c.move_end-2.ensures.list

pub returns-clause-starts : goal.returns-clause-starts
unfolding in_column
returns-clause-starts c =
    let free = uncrossed_free c.args.start c.args.end (in_column c.args.starts.now c.args.j) (in_column c.args.ends.now c.args.j) c.if-start-ends.false in
    let all = both-mended c.args.starts.now c.args.ends.now c.args.nodes c.args.links c.args.j c.args.start c.args.end c.requires.joined c.requires.links_in_bounds.0 c.requires.links_in_bounds.1 c.requires.j_lt_links.0 c.requires.j_lt_links.1.0 c.requires.j_lt_links.1.1.0 c.requires.j_lt_links.1.1.1 free _ _ _ _ _ c.move_end-2.ensures.end c.move_end-2.ensures.list _ _ c.move_end-3.ensures.list in
    let p-long = c.move_end-3.auto.places ∙ c.move_end-2.auto.places in
    let l-long = c.move_end-3.auto.listed ∙ c.move_end-2.auto.listed in
    c.move_end-2.ensures.end

pub returns-clause-ends : goal.returns-clause-ends
unfolding in_column
returns-clause-ends c =
    let free = uncrossed_free c.args.start c.args.end (in_column c.args.starts.now c.args.j) (in_column c.args.ends.now c.args.j) c.if-start-ends.false in
    let all = both-mended c.args.starts.now c.args.ends.now c.args.nodes c.args.links c.args.j c.args.start c.args.end c.requires.joined c.requires.links_in_bounds.0 c.requires.links_in_bounds.1 c.requires.j_lt_links.0 c.requires.j_lt_links.1.0 c.requires.j_lt_links.1.1.0 c.requires.j_lt_links.1.1.1 free _ _ _ _ _ c.move_end-2.ensures.end c.move_end-2.ensures.list _ _ c.move_end-3.ensures.list in
    let p-long = c.move_end-3.auto.places ∙ c.move_end-2.auto.places in
    let l-long = c.move_end-3.auto.listed ∙ c.move_end-2.auto.listed in
    c.move_end-3.ensures.end

pub returns-clause-places : goal.returns-clause-places
unfolding in_column
returns-clause-places c =
    let free = uncrossed_free c.args.start c.args.end (in_column c.args.starts.now c.args.j) (in_column c.args.ends.now c.args.j) c.if-start-ends.false in
    let all = both-mended c.args.starts.now c.args.ends.now c.args.nodes c.args.links c.args.j c.args.start c.args.end c.requires.joined c.requires.links_in_bounds.0 c.requires.links_in_bounds.1 c.requires.j_lt_links.0 c.requires.j_lt_links.1.0 c.requires.j_lt_links.1.1.0 c.requires.j_lt_links.1.1.1 free _ _ _ _ _ c.move_end-2.ensures.end c.move_end-2.ensures.list _ _ c.move_end-3.ensures.list in
    let p-long = c.move_end-3.auto.places ∙ c.move_end-2.auto.places in
    let l-long = c.move_end-3.auto.listed ∙ c.move_end-2.auto.listed in
    places_made _ _ _ _ _ _ c.args.places.now c.args.listed.now _ _ all p-long l-long

pub returns-clause-listed : goal.returns-clause-listed
unfolding in_column
returns-clause-listed c =
    let free = uncrossed_free c.args.start c.args.end (in_column c.args.starts.now c.args.j) (in_column c.args.ends.now c.args.j) c.if-start-ends.false in
    let all = both-mended c.args.starts.now c.args.ends.now c.args.nodes c.args.links c.args.j c.args.start c.args.end c.requires.joined c.requires.links_in_bounds.0 c.requires.links_in_bounds.1 c.requires.j_lt_links.0 c.requires.j_lt_links.1.0 c.requires.j_lt_links.1.1.0 c.requires.j_lt_links.1.1.1 free _ _ _ _ _ c.move_end-2.ensures.end c.move_end-2.ensures.list _ _ c.move_end-3.ensures.list in
    let p-long = c.move_end-3.auto.places ∙ c.move_end-2.auto.places in
    let l-long = c.move_end-3.auto.listed ∙ c.move_end-2.auto.listed in
    listed_made _ _ _ _ _ _ c.args.places.now c.args.listed.now _ _ all p-long l-long
