-- `rowwise::whole::solve_row` meets its contract. Assumes nothing.
use native.Mathlib.Omega.{arith}
use borrow.Author.Rules.{rules}
use Prim.Native.Nat.{ℕ, ◌+◌, ◌*◌}
use mathlib.Core.Path.{◌≡◌, sym, ap, ◌∙◌, subst}
use lib.ListN.{length}
use Rattle.row_sheet.proofs.Laws.{laid_long}
use Rattle.solver.proofs.Laws.{network_of, few_trials}
use Rattle.rowwise.specs.Rooms.{Lends, lends, lengths_of, Fits}
use Rattle.rowwise.proofs.Laws.{few_counts, few_bytes, Ends, ends, part_size, part_long, put_long, whole_copy, row_read, row_done_lem}
use Rattle.rowwise.proofs.whole.solve_row.Goals as goal

pub overflow_mul-n : goal.overflow_mul-n
overflow_mul-n c =
    let lent_of : Lends = lends c.args.heads.now c.args.demands.now c.args.flows.now c.args.statuses.now c.args.entries.now c.args.counts.now c.args.totals.now c.args.scratch.now in
    let rooms : Ends c.args.l c.args.trials c.width-wide.result c.args.r (lengths_of c.args.table.now lent_of) = let net = network_of _ _ c.requires.sheet_value in
    ends c.args.l c.args.trials c.width-wide.result c.args.r _
    (subst (λ (k : ℕ). Fits c.args.l c.args.trials k (c.args.r + 1) (lengths_of c.args.table.now lent_of)) (sym c.width-wide.ensures) c.requires.fits) net.nodes net.links
    (omega (arith, few_trials _ _ c.requires.sheet_value, c.requires.trials_value)) (omega (arith, c.width-wide.ensures, few_counts c.args.judging)) in
    omega (arith, rooms.nodes)

pub overflow_add-n2 : goal.overflow_add-n2
overflow_add-n2 c =
    let lent_of : Lends = lends c.args.heads.now c.args.demands.now c.args.flows.now c.args.statuses.now c.args.entries.now c.args.counts.now c.args.totals.now c.args.scratch.now in
    let rooms : Ends c.args.l c.args.trials c.width-wide.result c.args.r (lengths_of c.args.table.now lent_of) = let net = network_of _ _ c.requires.sheet_value in
    ends c.args.l c.args.trials c.width-wide.result c.args.r _
    (subst (λ (k : ℕ). Fits c.args.l c.args.trials k (c.args.r + 1) (lengths_of c.args.table.now lent_of)) (sym c.width-wide.ensures) c.requires.fits) net.nodes net.links
    (omega (arith, few_trials _ _ c.requires.sheet_value, c.requires.trials_value)) (omega (arith, c.width-wide.ensures, few_counts c.args.judging)) in
    omega (arith, rooms.nodes)

pub overflow_mul-k : goal.overflow_mul-k
overflow_mul-k c =
    let lent_of : Lends = lends c.args.heads.now c.args.demands.now c.args.flows.now c.args.statuses.now c.args.entries.now c.args.counts.now c.args.totals.now c.args.scratch.now in
    let rooms : Ends c.args.l c.args.trials c.width-wide.result c.args.r (lengths_of c.args.table.now lent_of) = let net = network_of _ _ c.requires.sheet_value in
    ends c.args.l c.args.trials c.width-wide.result c.args.r _
    (subst (λ (k : ℕ). Fits c.args.l c.args.trials k (c.args.r + 1) (lengths_of c.args.table.now lent_of)) (sym c.width-wide.ensures) c.requires.fits) net.nodes net.links
    (omega (arith, few_trials _ _ c.requires.sheet_value, c.requires.trials_value)) (omega (arith, c.width-wide.ensures, few_counts c.args.judging)) in
    omega (arith, rooms.links)

pub overflow_add-k2 : goal.overflow_add-k2
overflow_add-k2 c =
    let lent_of : Lends = lends c.args.heads.now c.args.demands.now c.args.flows.now c.args.statuses.now c.args.entries.now c.args.counts.now c.args.totals.now c.args.scratch.now in
    let rooms : Ends c.args.l c.args.trials c.width-wide.result c.args.r (lengths_of c.args.table.now lent_of) = let net = network_of _ _ c.requires.sheet_value in
    ends c.args.l c.args.trials c.width-wide.result c.args.r _
    (subst (λ (k : ℕ). Fits c.args.l c.args.trials k (c.args.r + 1) (lengths_of c.args.table.now lent_of)) (sym c.width-wide.ensures) c.requires.fits) net.nodes net.links
    (omega (arith, few_trials _ _ c.requires.sheet_value, c.requires.trials_value)) (omega (arith, c.width-wide.ensures, few_counts c.args.judging)) in
    omega (arith, rooms.links)

pub overflow_mul-e : goal.overflow_mul-e
overflow_mul-e c =
    let lent_of : Lends = lends c.args.heads.now c.args.demands.now c.args.flows.now c.args.statuses.now c.args.entries.now c.args.counts.now c.args.totals.now c.args.scratch.now in
    let rooms : Ends c.args.l c.args.trials c.width-wide.result c.args.r (lengths_of c.args.table.now lent_of) = let net = network_of _ _ c.requires.sheet_value in
    ends c.args.l c.args.trials c.width-wide.result c.args.r _
    (subst (λ (k : ℕ). Fits c.args.l c.args.trials k (c.args.r + 1) (lengths_of c.args.table.now lent_of)) (sym c.width-wide.ensures) c.requires.fits) net.nodes net.links
    (omega (arith, few_trials _ _ c.requires.sheet_value, c.requires.trials_value)) (omega (arith, c.width-wide.ensures, few_counts c.args.judging)) in
    omega (arith, rooms.bytes)

pub overflow_mul-e-2 : goal.overflow_mul-e-2
overflow_mul-e-2 c =
    let lent_of : Lends = lends c.args.heads.now c.args.demands.now c.args.flows.now c.args.statuses.now c.args.entries.now c.args.counts.now c.args.totals.now c.args.scratch.now in
    let rooms : Ends c.args.l c.args.trials c.width-wide.result c.args.r (lengths_of c.args.table.now lent_of) = let net = network_of _ _ c.requires.sheet_value in
    ends c.args.l c.args.trials c.width-wide.result c.args.r _
    (subst (λ (k : ℕ). Fits c.args.l c.args.trials k (c.args.r + 1) (lengths_of c.args.table.now lent_of)) (sym c.width-wide.ensures) c.requires.fits) net.nodes net.links
    (omega (arith, few_trials _ _ c.requires.sheet_value, c.requires.trials_value)) (omega (arith, c.width-wide.ensures, few_counts c.args.judging)) in
    omega (arith, rooms.bytes)

pub overflow_mul-e2 : goal.overflow_mul-e2
overflow_mul-e2 c =
    let lent_of : Lends = lends c.args.heads.now c.args.demands.now c.args.flows.now c.args.statuses.now c.args.entries.now c.args.counts.now c.args.totals.now c.args.scratch.now in
    let rooms : Ends c.args.l c.args.trials c.width-wide.result c.args.r (lengths_of c.args.table.now lent_of) = let net = network_of _ _ c.requires.sheet_value in
    ends c.args.l c.args.trials c.width-wide.result c.args.r _
    (subst (λ (k : ℕ). Fits c.args.l c.args.trials k (c.args.r + 1) (lengths_of c.args.table.now lent_of)) (sym c.width-wide.ensures) c.requires.fits) net.nodes net.links
    (omega (arith, few_trials _ _ c.requires.sheet_value, c.requires.trials_value)) (omega (arith, c.width-wide.ensures, few_counts c.args.judging)) in
    omega (arith, rooms.bytes)

pub overflow_add-e2 : goal.overflow_add-e2
overflow_add-e2 c =
    let lent_of : Lends = lends c.args.heads.now c.args.demands.now c.args.flows.now c.args.statuses.now c.args.entries.now c.args.counts.now c.args.totals.now c.args.scratch.now in
    let rooms : Ends c.args.l c.args.trials c.width-wide.result c.args.r (lengths_of c.args.table.now lent_of) = let net = network_of _ _ c.requires.sheet_value in
    ends c.args.l c.args.trials c.width-wide.result c.args.r _
    (subst (λ (k : ℕ). Fits c.args.l c.args.trials k (c.args.r + 1) (lengths_of c.args.table.now lent_of)) (sym c.width-wide.ensures) c.requires.fits) net.nodes net.links
    (omega (arith, few_trials _ _ c.requires.sheet_value, c.requires.trials_value)) (omega (arith, c.width-wide.ensures, few_counts c.args.judging)) in
    omega (arith, rooms.bytes)

pub overflow_mul-c : goal.overflow_mul-c
overflow_mul-c c =
    let lent_of : Lends = lends c.args.heads.now c.args.demands.now c.args.flows.now c.args.statuses.now c.args.entries.now c.args.counts.now c.args.totals.now c.args.scratch.now in
    let rooms : Ends c.args.l c.args.trials c.width-wide.result c.args.r (lengths_of c.args.table.now lent_of) = let net = network_of _ _ c.requires.sheet_value in
    ends c.args.l c.args.trials c.width-wide.result c.args.r _
    (subst (λ (k : ℕ). Fits c.args.l c.args.trials k (c.args.r + 1) (lengths_of c.args.table.now lent_of)) (sym c.width-wide.ensures) c.requires.fits) net.nodes net.links
    (omega (arith, few_trials _ _ c.requires.sheet_value, c.requires.trials_value)) (omega (arith, c.width-wide.ensures, few_counts c.args.judging)) in
    omega (arith, rooms.numbers)

pub overflow_add-c2 : goal.overflow_add-c2
overflow_add-c2 c =
    let lent_of : Lends = lends c.args.heads.now c.args.demands.now c.args.flows.now c.args.statuses.now c.args.entries.now c.args.counts.now c.args.totals.now c.args.scratch.now in
    let rooms : Ends c.args.l c.args.trials c.width-wide.result c.args.r (lengths_of c.args.table.now lent_of) = let net = network_of _ _ c.requires.sheet_value in
    ends c.args.l c.args.trials c.width-wide.result c.args.r _
    (subst (λ (k : ℕ). Fits c.args.l c.args.trials k (c.args.r + 1) (lengths_of c.args.table.now lent_of)) (sym c.width-wide.ensures) c.requires.fits) net.nodes net.links
    (omega (arith, few_trials _ _ c.requires.sheet_value, c.requires.trials_value)) (omega (arith, c.width-wide.ensures, few_counts c.args.judging)) in
    omega (arith, rooms.numbers)

pub overflow_mul-t : goal.overflow_mul-t
overflow_mul-t c =
    let lent_of : Lends = lends c.args.heads.now c.args.demands.now c.args.flows.now c.args.statuses.now c.args.entries.now c.args.counts.now c.args.totals.now c.args.scratch.now in
    let rooms : Ends c.args.l c.args.trials c.width-wide.result c.args.r (lengths_of c.args.table.now lent_of) = let net = network_of _ _ c.requires.sheet_value in
    ends c.args.l c.args.trials c.width-wide.result c.args.r _
    (subst (λ (k : ℕ). Fits c.args.l c.args.trials k (c.args.r + 1) (lengths_of c.args.table.now lent_of)) (sym c.width-wide.ensures) c.requires.fits) net.nodes net.links
    (omega (arith, few_trials _ _ c.requires.sheet_value, c.requires.trials_value)) (omega (arith, c.width-wide.ensures, few_counts c.args.judging)) in
    omega (arith, rooms.sums)

pub overflow_add-t2 : goal.overflow_add-t2
overflow_add-t2 c =
    let lent_of : Lends = lends c.args.heads.now c.args.demands.now c.args.flows.now c.args.statuses.now c.args.entries.now c.args.counts.now c.args.totals.now c.args.scratch.now in
    let rooms : Ends c.args.l c.args.trials c.width-wide.result c.args.r (lengths_of c.args.table.now lent_of) = let net = network_of _ _ c.requires.sheet_value in
    ends c.args.l c.args.trials c.width-wide.result c.args.r _
    (subst (λ (k : ℕ). Fits c.args.l c.args.trials k (c.args.r + 1) (lengths_of c.args.table.now lent_of)) (sym c.width-wide.ensures) c.requires.fits) net.nodes net.links
    (omega (arith, few_trials _ _ c.requires.sheet_value, c.requires.trials_value)) (omega (arith, c.width-wide.ensures, few_counts c.args.judging)) in
    omega (arith, rooms.sums)

pub bad_demand-bad-requires-clause-nodes_bound : goal.bad_demand-bad-requires-clause-nodes_bound
bad_demand-bad-requires-clause-nodes_bound c =
    let lent_of : Lends = lends c.args.heads.now c.args.demands.now c.args.flows.now c.args.statuses.now c.args.entries.now c.args.counts.now c.args.totals.now c.args.scratch.now in
    let rooms : Ends c.args.l c.args.trials c.width-wide.result c.args.r (lengths_of c.args.table.now lent_of) = let net = network_of _ _ c.requires.sheet_value in
    ends c.args.l c.args.trials c.width-wide.result c.args.r _
    (subst (λ (k : ℕ). Fits c.args.l c.args.trials k (c.args.r + 1) (lengths_of c.args.table.now lent_of)) (sym c.width-wide.ensures) c.requires.fits) net.nodes net.links
    (omega (arith, few_trials _ _ c.requires.sheet_value, c.requires.trials_value)) (omega (arith, c.width-wide.ensures, few_counts c.args.judging)) in
    let net = network_of _ _ c.requires.sheet_value in
    omega (arith, net.laid.nodes, few_bytes c.args.sheet.now c.args.l c.requires.sheet_value)

pub bad_demand-bad-requires-clause-nodes_bound_2 : goal.bad_demand-bad-requires-clause-nodes_bound_2
bad_demand-bad-requires-clause-nodes_bound_2 c =
    let lent_of : Lends = lends c.args.heads.now c.args.demands.now c.args.flows.now c.args.statuses.now c.args.entries.now c.args.counts.now c.args.totals.now c.args.scratch.now in
    let rooms : Ends c.args.l c.args.trials c.width-wide.result c.args.r (lengths_of c.args.table.now lent_of) = let net = network_of _ _ c.requires.sheet_value in
    ends c.args.l c.args.trials c.width-wide.result c.args.r _
    (subst (λ (k : ℕ). Fits c.args.l c.args.trials k (c.args.r + 1) (lengths_of c.args.table.now lent_of)) (sym c.width-wide.ensures) c.requires.fits) net.nodes net.links
    (omega (arith, few_trials _ _ c.requires.sheet_value, c.requires.trials_value)) (omega (arith, c.width-wide.ensures, few_counts c.args.judging)) in
    let net = network_of _ _ c.requires.sheet_value in
    (net.nodes, omega (arith, c.requires.fits.few), rooms.table)

pub copy_first-requires : goal.copy_first-requires
copy_first-requires c = (omega (arith, c.requires.copy_len), omega arith)

pub put_row-requires-clause-laid : goal.put_row-requires-clause-laid
put_row-requires-clause-laid c =
    let lent_of : Lends = lends c.args.heads.now c.args.demands.now c.args.flows.now c.args.statuses.now c.args.entries.now c.args.counts.now c.args.totals.now c.args.scratch.now in
    let rooms : Ends c.args.l c.args.trials c.width-wide.result c.args.r (lengths_of c.args.table.now lent_of) = let net = network_of _ _ c.requires.sheet_value in
    ends c.args.l c.args.trials c.width-wide.result c.args.r _
    (subst (λ (k : ℕ). Fits c.args.l c.args.trials k (c.args.r + 1) (lengths_of c.args.table.now lent_of)) (sym c.width-wide.ensures) c.requires.fits) net.nodes net.links
    (omega (arith, few_trials _ _ c.requires.sheet_value, c.requires.trials_value)) (omega (arith, c.width-wide.ensures, few_counts c.args.judging)) in
    let net = network_of _ _ c.requires.sheet_value in
    let e : c.copy_first.new.to ≡ c.args.sheet.now = c.copy_first.ensures ∙ whole_copy c.args.sheet.now c.args.copy.now c.requires.copy_len in
    laid_long c.args.l c.args.sheet.now c.copy_first.new.to (ap length e) net.laid

pub put_row-requires-clause-nodes_bound : goal.put_row-requires-clause-nodes_bound
put_row-requires-clause-nodes_bound c =
    let lent_of : Lends = lends c.args.heads.now c.args.demands.now c.args.flows.now c.args.statuses.now c.args.entries.now c.args.counts.now c.args.totals.now c.args.scratch.now in
    let rooms : Ends c.args.l c.args.trials c.width-wide.result c.args.r (lengths_of c.args.table.now lent_of) = let net = network_of _ _ c.requires.sheet_value in
    ends c.args.l c.args.trials c.width-wide.result c.args.r _
    (subst (λ (k : ℕ). Fits c.args.l c.args.trials k (c.args.r + 1) (lengths_of c.args.table.now lent_of)) (sym c.width-wide.ensures) c.requires.fits) net.nodes net.links
    (omega (arith, few_trials _ _ c.requires.sheet_value, c.requires.trials_value)) (omega (arith, c.width-wide.ensures, few_counts c.args.judging)) in
    let net = network_of _ _ c.requires.sheet_value in
    let e : c.copy_first.new.to ≡ c.args.sheet.now = c.copy_first.ensures ∙ whole_copy c.args.sheet.now c.args.copy.now c.requires.copy_len in
    (net.nodes, omega (arith, c.requires.fits.few), rooms.table)

pub offset_bounds-heads-n : goal.offset_bounds-heads-n
offset_bounds-heads-n c =
    let lent_of : Lends = lends c.args.heads.now c.args.demands.now c.args.flows.now c.args.statuses.now c.args.entries.now c.args.counts.now c.args.totals.now c.args.scratch.now in
    let rooms : Ends c.args.l c.args.trials c.width-wide.result c.args.r (lengths_of c.args.table.now lent_of) = let net = network_of _ _ c.requires.sheet_value in
    ends c.args.l c.args.trials c.width-wide.result c.args.r _
    (subst (λ (k : ℕ). Fits c.args.l c.args.trials k (c.args.r + 1) (lengths_of c.args.table.now lent_of)) (sym c.width-wide.ensures) c.requires.fits) net.nodes net.links
    (omega (arith, few_trials _ _ c.requires.sheet_value, c.requires.trials_value)) (omega (arith, c.width-wide.ensures, few_counts c.args.judging)) in
    omega (arith, rooms.nodes)

pub slice_bounds-solve_one-end : goal.slice_bounds-solve_one-end
slice_bounds-solve_one-end c =
    let lent_of : Lends = lends c.args.heads.now c.args.demands.now c.args.flows.now c.args.statuses.now c.args.entries.now c.args.counts.now c.args.totals.now c.args.scratch.now in
    let rooms : Ends c.args.l c.args.trials c.width-wide.result c.args.r (lengths_of c.args.table.now lent_of) = let net = network_of _ _ c.requires.sheet_value in
    ends c.args.l c.args.trials c.width-wide.result c.args.r _
    (subst (λ (k : ℕ). Fits c.args.l c.args.trials k (c.args.r + 1) (lengths_of c.args.table.now lent_of)) (sym c.width-wide.ensures) c.requires.fits) net.nodes net.links
    (omega (arith, few_trials _ _ c.requires.sheet_value, c.requires.trials_value)) (omega (arith, c.width-wide.ensures, few_counts c.args.judging)) in
    rooms.heads

pub offset_bounds-demands-n : goal.offset_bounds-demands-n
offset_bounds-demands-n c =
    let lent_of : Lends = lends c.args.heads.now c.args.demands.now c.args.flows.now c.args.statuses.now c.args.entries.now c.args.counts.now c.args.totals.now c.args.scratch.now in
    let rooms : Ends c.args.l c.args.trials c.width-wide.result c.args.r (lengths_of c.args.table.now lent_of) = let net = network_of _ _ c.requires.sheet_value in
    ends c.args.l c.args.trials c.width-wide.result c.args.r _
    (subst (λ (k : ℕ). Fits c.args.l c.args.trials k (c.args.r + 1) (lengths_of c.args.table.now lent_of)) (sym c.width-wide.ensures) c.requires.fits) net.nodes net.links
    (omega (arith, few_trials _ _ c.requires.sheet_value, c.requires.trials_value)) (omega (arith, c.width-wide.ensures, few_counts c.args.judging)) in
    omega (arith, rooms.nodes)

pub slice_bounds-solve_one-end-2 : goal.slice_bounds-solve_one-end-2
slice_bounds-solve_one-end-2 c =
    let lent_of : Lends = lends c.args.heads.now c.args.demands.now c.args.flows.now c.args.statuses.now c.args.entries.now c.args.counts.now c.args.totals.now c.args.scratch.now in
    let rooms : Ends c.args.l c.args.trials c.width-wide.result c.args.r (lengths_of c.args.table.now lent_of) = let net = network_of _ _ c.requires.sheet_value in
    ends c.args.l c.args.trials c.width-wide.result c.args.r _
    (subst (λ (k : ℕ). Fits c.args.l c.args.trials k (c.args.r + 1) (lengths_of c.args.table.now lent_of)) (sym c.width-wide.ensures) c.requires.fits) net.nodes net.links
    (omega (arith, few_trials _ _ c.requires.sheet_value, c.requires.trials_value)) (omega (arith, c.width-wide.ensures, few_counts c.args.judging)) in
    rooms.demands

pub offset_bounds-flows-k : goal.offset_bounds-flows-k
offset_bounds-flows-k c =
    let lent_of : Lends = lends c.args.heads.now c.args.demands.now c.args.flows.now c.args.statuses.now c.args.entries.now c.args.counts.now c.args.totals.now c.args.scratch.now in
    let rooms : Ends c.args.l c.args.trials c.width-wide.result c.args.r (lengths_of c.args.table.now lent_of) = let net = network_of _ _ c.requires.sheet_value in
    ends c.args.l c.args.trials c.width-wide.result c.args.r _
    (subst (λ (k : ℕ). Fits c.args.l c.args.trials k (c.args.r + 1) (lengths_of c.args.table.now lent_of)) (sym c.width-wide.ensures) c.requires.fits) net.nodes net.links
    (omega (arith, few_trials _ _ c.requires.sheet_value, c.requires.trials_value)) (omega (arith, c.width-wide.ensures, few_counts c.args.judging)) in
    omega (arith, rooms.links)

pub slice_bounds-solve_one-end-3 : goal.slice_bounds-solve_one-end-3
slice_bounds-solve_one-end-3 c =
    let lent_of : Lends = lends c.args.heads.now c.args.demands.now c.args.flows.now c.args.statuses.now c.args.entries.now c.args.counts.now c.args.totals.now c.args.scratch.now in
    let rooms : Ends c.args.l c.args.trials c.width-wide.result c.args.r (lengths_of c.args.table.now lent_of) = let net = network_of _ _ c.requires.sheet_value in
    ends c.args.l c.args.trials c.width-wide.result c.args.r _
    (subst (λ (k : ℕ). Fits c.args.l c.args.trials k (c.args.r + 1) (lengths_of c.args.table.now lent_of)) (sym c.width-wide.ensures) c.requires.fits) net.nodes net.links
    (omega (arith, few_trials _ _ c.requires.sheet_value, c.requires.trials_value)) (omega (arith, c.width-wide.ensures, few_counts c.args.judging)) in
    rooms.flows

pub slice_bounds-solve_one-end-4 : goal.slice_bounds-solve_one-end-4
slice_bounds-solve_one-end-4 c =
    let lent_of : Lends = lends c.args.heads.now c.args.demands.now c.args.flows.now c.args.statuses.now c.args.entries.now c.args.counts.now c.args.totals.now c.args.scratch.now in
    let rooms : Ends c.args.l c.args.trials c.width-wide.result c.args.r (lengths_of c.args.table.now lent_of) = let net = network_of _ _ c.requires.sheet_value in
    ends c.args.l c.args.trials c.width-wide.result c.args.r _
    (subst (λ (k : ℕ). Fits c.args.l c.args.trials k (c.args.r + 1) (lengths_of c.args.table.now lent_of)) (sym c.width-wide.ensures) c.requires.fits) net.nodes net.links
    (omega (arith, few_trials _ _ c.requires.sheet_value, c.requires.trials_value)) (omega (arith, c.width-wide.ensures, few_counts c.args.judging)) in
    rooms.statuses

pub slice_bounds-solve_one-end-5 : goal.slice_bounds-solve_one-end-5
slice_bounds-solve_one-end-5 c =
    let lent_of : Lends = lends c.args.heads.now c.args.demands.now c.args.flows.now c.args.statuses.now c.args.entries.now c.args.counts.now c.args.totals.now c.args.scratch.now in
    let rooms : Ends c.args.l c.args.trials c.width-wide.result c.args.r (lengths_of c.args.table.now lent_of) = let net = network_of _ _ c.requires.sheet_value in
    ends c.args.l c.args.trials c.width-wide.result c.args.r _
    (subst (λ (k : ℕ). Fits c.args.l c.args.trials k (c.args.r + 1) (lengths_of c.args.table.now lent_of)) (sym c.width-wide.ensures) c.requires.fits) net.nodes net.links
    (omega (arith, few_trials _ _ c.requires.sheet_value, c.requires.trials_value)) (omega (arith, c.width-wide.ensures, few_counts c.args.judging)) in
    rooms.entries

pub offset_bounds-counts-c : goal.offset_bounds-counts-c
offset_bounds-counts-c c =
    let lent_of : Lends = lends c.args.heads.now c.args.demands.now c.args.flows.now c.args.statuses.now c.args.entries.now c.args.counts.now c.args.totals.now c.args.scratch.now in
    let rooms : Ends c.args.l c.args.trials c.width-wide.result c.args.r (lengths_of c.args.table.now lent_of) = let net = network_of _ _ c.requires.sheet_value in
    ends c.args.l c.args.trials c.width-wide.result c.args.r _
    (subst (λ (k : ℕ). Fits c.args.l c.args.trials k (c.args.r + 1) (lengths_of c.args.table.now lent_of)) (sym c.width-wide.ensures) c.requires.fits) net.nodes net.links
    (omega (arith, few_trials _ _ c.requires.sheet_value, c.requires.trials_value)) (omega (arith, c.width-wide.ensures, few_counts c.args.judging)) in
    omega (arith, rooms.numbers)

pub slice_bounds-solve_one-end-6 : goal.slice_bounds-solve_one-end-6
slice_bounds-solve_one-end-6 c =
    let lent_of : Lends = lends c.args.heads.now c.args.demands.now c.args.flows.now c.args.statuses.now c.args.entries.now c.args.counts.now c.args.totals.now c.args.scratch.now in
    let rooms : Ends c.args.l c.args.trials c.width-wide.result c.args.r (lengths_of c.args.table.now lent_of) = let net = network_of _ _ c.requires.sheet_value in
    ends c.args.l c.args.trials c.width-wide.result c.args.r _
    (subst (λ (k : ℕ). Fits c.args.l c.args.trials k (c.args.r + 1) (lengths_of c.args.table.now lent_of)) (sym c.width-wide.ensures) c.requires.fits) net.nodes net.links
    (omega (arith, few_trials _ _ c.requires.sheet_value, c.requires.trials_value)) (omega (arith, c.width-wide.ensures, few_counts c.args.judging)) in
    rooms.counts

pub offset_bounds-totals-t : goal.offset_bounds-totals-t
offset_bounds-totals-t c =
    let lent_of : Lends = lends c.args.heads.now c.args.demands.now c.args.flows.now c.args.statuses.now c.args.entries.now c.args.counts.now c.args.totals.now c.args.scratch.now in
    let rooms : Ends c.args.l c.args.trials c.width-wide.result c.args.r (lengths_of c.args.table.now lent_of) = let net = network_of _ _ c.requires.sheet_value in
    ends c.args.l c.args.trials c.width-wide.result c.args.r _
    (subst (λ (k : ℕ). Fits c.args.l c.args.trials k (c.args.r + 1) (lengths_of c.args.table.now lent_of)) (sym c.width-wide.ensures) c.requires.fits) net.nodes net.links
    (omega (arith, few_trials _ _ c.requires.sheet_value, c.requires.trials_value)) (omega (arith, c.width-wide.ensures, few_counts c.args.judging)) in
    omega (arith, rooms.sums)

pub slice_bounds-solve_one-end-7 : goal.slice_bounds-solve_one-end-7
slice_bounds-solve_one-end-7 c =
    let lent_of : Lends = lends c.args.heads.now c.args.demands.now c.args.flows.now c.args.statuses.now c.args.entries.now c.args.counts.now c.args.totals.now c.args.scratch.now in
    let rooms : Ends c.args.l c.args.trials c.width-wide.result c.args.r (lengths_of c.args.table.now lent_of) = let net = network_of _ _ c.requires.sheet_value in
    ends c.args.l c.args.trials c.width-wide.result c.args.r _
    (subst (λ (k : ℕ). Fits c.args.l c.args.trials k (c.args.r + 1) (lengths_of c.args.table.now lent_of)) (sym c.width-wide.ensures) c.requires.fits) net.nodes net.links
    (omega (arith, few_trials _ _ c.requires.sheet_value, c.requires.trials_value)) (omega (arith, c.width-wide.ensures, few_counts c.args.judging)) in
    rooms.totals

pub solve_one-requires-clause-sheet_value : goal.solve_one-requires-clause-sheet_value
solve_one-requires-clause-sheet_value c =
    let lent_of : Lends = lends c.args.heads.now c.args.demands.now c.args.flows.now c.args.statuses.now c.args.entries.now c.args.counts.now c.args.totals.now c.args.scratch.now in
    let rooms : Ends c.args.l c.args.trials c.width-wide.result c.args.r (lengths_of c.args.table.now lent_of) = let net = network_of _ _ c.requires.sheet_value in
    ends c.args.l c.args.trials c.width-wide.result c.args.r _
    (subst (λ (k : ℕ). Fits c.args.l c.args.trials k (c.args.r + 1) (lengths_of c.args.table.now lent_of)) (sym c.width-wide.ensures) c.requires.fits) net.nodes net.links
    (omega (arith, few_trials _ _ c.requires.sheet_value, c.requires.trials_value)) (omega (arith, c.width-wide.ensures, few_counts c.args.judging)) in
    row_read c.args.sheet.now _ _ c.args.l c.args.table.now c.args.r _ c.requires.sheet_value c.type_inv.table c.bad_demand-bad.ensures (c.copy_first.ensures ∙ whole_copy c.args.sheet.now c.args.copy.now c.requires.copy_len) c.put_row.ensures

pub solve_one-requires-clause-judging_in_bounds : goal.solve_one-requires-clause-judging_in_bounds
solve_one-requires-clause-judging_in_bounds c =
    let lent_of : Lends = lends c.args.heads.now c.args.demands.now c.args.flows.now c.args.statuses.now c.args.entries.now c.args.counts.now c.args.totals.now c.args.scratch.now in
    let rooms : Ends c.args.l c.args.trials c.width-wide.result c.args.r (lengths_of c.args.table.now lent_of) = let net = network_of _ _ c.requires.sheet_value in
    ends c.args.l c.args.trials c.width-wide.result c.args.r _
    (subst (λ (k : ℕ). Fits c.args.l c.args.trials k (c.args.r + 1) (lengths_of c.args.table.now lent_of)) (sym c.width-wide.ensures) c.requires.fits) net.nodes net.links
    (omega (arith, few_trials _ _ c.requires.sheet_value, c.requires.trials_value)) (omega (arith, c.width-wide.ensures, few_counts c.args.judging)) in (
      omega (arith, c.width-wide.ensures, part_long (c.args.r * c.width-wide.result) c.width-wide.result c.args.counts.now rooms.counts),
      omega (arith, part_long (c.args.r * 3) 3 c.args.totals.now rooms.totals),
    )

pub shape_of-heads : goal.shape_of-heads
shape_of-heads c =
    let lent_of : Lends = lends c.args.heads.now c.args.demands.now c.args.flows.now c.args.statuses.now c.args.entries.now c.args.counts.now c.args.totals.now c.args.scratch.now in
    let rooms : Ends c.args.l c.args.trials c.width-wide.result c.args.r (lengths_of c.args.table.now lent_of) = let net = network_of _ _ c.requires.sheet_value in
    ends c.args.l c.args.trials c.width-wide.result c.args.r _
    (subst (λ (k : ℕ). Fits c.args.l c.args.trials k (c.args.r + 1) (lengths_of c.args.table.now lent_of)) (sym c.width-wide.ensures) c.requires.fits) net.nodes net.links
    (omega (arith, few_trials _ _ c.requires.sheet_value, c.requires.trials_value)) (omega (arith, c.width-wide.ensures, few_counts c.args.judging)) in
    put_long (c.args.r * c.args.l.nodes) c.args.l.nodes c.args.heads.now c.solve_one.new.heads rooms.heads c.solve_one.auto.heads

pub shape_of-demands : goal.shape_of-demands
shape_of-demands c =
    let lent_of : Lends = lends c.args.heads.now c.args.demands.now c.args.flows.now c.args.statuses.now c.args.entries.now c.args.counts.now c.args.totals.now c.args.scratch.now in
    let rooms : Ends c.args.l c.args.trials c.width-wide.result c.args.r (lengths_of c.args.table.now lent_of) = let net = network_of _ _ c.requires.sheet_value in
    ends c.args.l c.args.trials c.width-wide.result c.args.r _
    (subst (λ (k : ℕ). Fits c.args.l c.args.trials k (c.args.r + 1) (lengths_of c.args.table.now lent_of)) (sym c.width-wide.ensures) c.requires.fits) net.nodes net.links
    (omega (arith, few_trials _ _ c.requires.sheet_value, c.requires.trials_value)) (omega (arith, c.width-wide.ensures, few_counts c.args.judging)) in
    put_long (c.args.r * c.args.l.nodes) c.args.l.nodes c.args.demands.now c.solve_one.new.demands rooms.demands c.solve_one.auto.demands

pub shape_of-flows : goal.shape_of-flows
shape_of-flows c =
    let lent_of : Lends = lends c.args.heads.now c.args.demands.now c.args.flows.now c.args.statuses.now c.args.entries.now c.args.counts.now c.args.totals.now c.args.scratch.now in
    let rooms : Ends c.args.l c.args.trials c.width-wide.result c.args.r (lengths_of c.args.table.now lent_of) = let net = network_of _ _ c.requires.sheet_value in
    ends c.args.l c.args.trials c.width-wide.result c.args.r _
    (subst (λ (k : ℕ). Fits c.args.l c.args.trials k (c.args.r + 1) (lengths_of c.args.table.now lent_of)) (sym c.width-wide.ensures) c.requires.fits) net.nodes net.links
    (omega (arith, few_trials _ _ c.requires.sheet_value, c.requires.trials_value)) (omega (arith, c.width-wide.ensures, few_counts c.args.judging)) in
    put_long (c.args.r * c.args.l.links) c.args.l.links c.args.flows.now c.solve_one.new.flows rooms.flows c.solve_one.auto.flows

pub shape_of-statuses : goal.shape_of-statuses
shape_of-statuses c =
    let lent_of : Lends = lends c.args.heads.now c.args.demands.now c.args.flows.now c.args.statuses.now c.args.entries.now c.args.counts.now c.args.totals.now c.args.scratch.now in
    let rooms : Ends c.args.l c.args.trials c.width-wide.result c.args.r (lengths_of c.args.table.now lent_of) = let net = network_of _ _ c.requires.sheet_value in
    ends c.args.l c.args.trials c.width-wide.result c.args.r _
    (subst (λ (k : ℕ). Fits c.args.l c.args.trials k (c.args.r + 1) (lengths_of c.args.table.now lent_of)) (sym c.width-wide.ensures) c.requires.fits) net.nodes net.links
    (omega (arith, few_trials _ _ c.requires.sheet_value, c.requires.trials_value)) (omega (arith, c.width-wide.ensures, few_counts c.args.judging)) in
    put_long (c.args.r * c.args.l.links) c.args.l.links c.args.statuses.now c.solve_one.new.statuses rooms.statuses c.solve_one.auto.statuses

pub shape_of-entries : goal.shape_of-entries
shape_of-entries c =
    let lent_of : Lends = lends c.args.heads.now c.args.demands.now c.args.flows.now c.args.statuses.now c.args.entries.now c.args.counts.now c.args.totals.now c.args.scratch.now in
    let rooms : Ends c.args.l c.args.trials c.width-wide.result c.args.r (lengths_of c.args.table.now lent_of) = let net = network_of _ _ c.requires.sheet_value in
    ends c.args.l c.args.trials c.width-wide.result c.args.r _
    (subst (λ (k : ℕ). Fits c.args.l c.args.trials k (c.args.r + 1) (lengths_of c.args.table.now lent_of)) (sym c.width-wide.ensures) c.requires.fits) net.nodes net.links
    (omega (arith, few_trials _ _ c.requires.sheet_value, c.requires.trials_value)) (omega (arith, c.width-wide.ensures, few_counts c.args.judging)) in
    put_long (c.args.r * (4 * c.args.trials)) (4 * c.args.trials) c.args.entries.now c.solve_one.new.entries rooms.entries c.solve_one.auto.entries

pub shape_of-counts : goal.shape_of-counts
shape_of-counts c =
    let lent_of : Lends = lends c.args.heads.now c.args.demands.now c.args.flows.now c.args.statuses.now c.args.entries.now c.args.counts.now c.args.totals.now c.args.scratch.now in
    let rooms : Ends c.args.l c.args.trials c.width-wide.result c.args.r (lengths_of c.args.table.now lent_of) = let net = network_of _ _ c.requires.sheet_value in
    ends c.args.l c.args.trials c.width-wide.result c.args.r _
    (subst (λ (k : ℕ). Fits c.args.l c.args.trials k (c.args.r + 1) (lengths_of c.args.table.now lent_of)) (sym c.width-wide.ensures) c.requires.fits) net.nodes net.links
    (omega (arith, few_trials _ _ c.requires.sheet_value, c.requires.trials_value)) (omega (arith, c.width-wide.ensures, few_counts c.args.judging)) in
    put_long (c.args.r * c.width-wide.result) c.width-wide.result c.args.counts.now c.solve_one.new.counts rooms.counts c.solve_one.auto.counts

pub shape_of-totals : goal.shape_of-totals
shape_of-totals c =
    let lent_of : Lends = lends c.args.heads.now c.args.demands.now c.args.flows.now c.args.statuses.now c.args.entries.now c.args.counts.now c.args.totals.now c.args.scratch.now in
    let rooms : Ends c.args.l c.args.trials c.width-wide.result c.args.r (lengths_of c.args.table.now lent_of) = let net = network_of _ _ c.requires.sheet_value in
    ends c.args.l c.args.trials c.width-wide.result c.args.r _
    (subst (λ (k : ℕ). Fits c.args.l c.args.trials k (c.args.r + 1) (lengths_of c.args.table.now lent_of)) (sym c.width-wide.ensures) c.requires.fits) net.nodes net.links
    (omega (arith, few_trials _ _ c.requires.sheet_value, c.requires.trials_value)) (omega (arith, c.width-wide.ensures, few_counts c.args.judging)) in
    put_long (c.args.r * 3) 3 c.args.totals.now c.solve_one.new.totals rooms.totals c.solve_one.auto.totals

pub shape_of-scratch : goal.shape_of-scratch
shape_of-scratch c = c.solve_one.auto.scratch

pub shape_of-copy : goal.shape_of-copy
shape_of-copy c = c.put_row.auto.sheet ∙ c.copy_first.auto.to

pub returns : goal.returns
returns c =
    let lent_of : Lends = lends c.args.heads.now c.args.demands.now c.args.flows.now c.args.statuses.now c.args.entries.now c.args.counts.now c.args.totals.now c.args.scratch.now in
    row_done_lem c.args.judging c.args.sheet.now c.args.l c.args.table.now c.args.r c.args.trials c.width-wide.result _ _ _ _ _ lent_of _ _ _ c.requires.trials_value c.width-wide.ensures (part_size (c.args.r * c.args.l.nodes) c.args.l.nodes) (part_size (c.args.r * c.args.l.links) c.args.l.links) (part_size (c.args.r * (4 * c.args.trials)) (4 * c.args.trials)) (part_size (c.args.r * c.width-wide.result) c.width-wide.result) (part_size (c.args.r * 3) 3) (c.copy_first.ensures ∙ whole_copy c.args.sheet.now c.args.copy.now c.requires.copy_len) c.put_row.ensures c.solve_one.ensures
