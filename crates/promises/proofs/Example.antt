-- Document 01's listing example, computed from the definitions. Assumes nothing.
use Prim.Native.Nat.{ℕ}
use mathlib.Core.List.{List}
use mathlib.Core.Path.{◌≡◌, refl, ap, ◌∙◌}
use lib.Count.{count_leading_zeros, count_trailing_zeros}
use lib.Ieee.{lt, le, eq, neg, add, sub, sum, mul, div, round, units, odd, size, span, climb, of_bits, of_fields, to_bits, is_nan}
use Rattle.patterns.specs.Bytes.{little_endian, from_bytes}
use Rattle.float.specs.Order.{wild_of}
use Rattle.records.specs.Records.{pair_at, options_of, node_at, link_at}
use Rattle.codes.specs.Codes.{status_of, link_kind_of}
use Rattle.ends.specs.Ends.{ends_good}
use Rattle.layout.specs.Places.{plain, link_place}
use Rattle.links.specs.Links.{link_of, link_start, link_end, link_status, regulator}
use Rattle.roots.specs.Root.{whole_root_in, whole_root, moved, exponent, scaled, root_bits, root_of}
use Rattle.linear.specs.Matrix.{fill}
use Rattle.linear.specs.Factorization.{less, reduced, divided, factor_of}
use Rattle.linear.specs.Factorization as factorization
use Rattle.substitution.specs.Substitution as substitution
use Rattle.substitution.specs.Substitution.{solved}
use Rattle.damping.specs.Units as unit
use Rattle.damping.specs.Damping.{damped_of, relative_change, flow_limit, converged_of}
use Rattle.columns.specs.Columns.{cleared, add_to, take_from, zeros}
use Rattle.nodes.specs.Nodes.{node_of, enabled, fixed_node, in_service, tank_at, serving}
use Rattle.numbering.specs.Numbering.{row_at, node_numbered}
use Rattle.excess.specs.Excess.{present, less_demands, with_flows, imbalance_of, excess_of}
use Rattle.excess.specs.Excess as Excess
use Rattle.rows.specs.Rows.{off_row, on_diagonal}
use Rattle.assembly.specs.Assembly.{link_added, with_links, demands_taken, right_of, ground_of, grounded_of}
use Rattle.drawing.specs.Drawing.{counting}
use Rattle.bends.specs.Bends.{bent_matrix, bent_right}
use Rattle.state.specs.State.{heads_from, demands_from, flows_from, codes_from, with_head, solved_heads}
use Rattle.wild.specs.Wild.{wild_from, first_wild, wild_drawn, wild_place}
use Rattle.update.specs.Update.{link_update, link_updates, update_of}
use Rattle.tanks.specs.Tanks.{tank_updates, tank_links_of}
use Rattle.drawn.specs.Drawn.{drawn_of}
use Rattle.repair.specs.Repair.{touches, regulates_at, regulator_from, regulator_at, ground_node, free, repair_at}
use Rattle.trial.specs.Trial.{repair_of, judged, step_entry, step_of, factored}
use Rattle.entries.specs.Entries.{damping_start, going_of}
use Rattle.runs.specs.Run.{then_run}
use Rattle.fields.specs.Fields.{base_bounds, within, all_within, options_good, node_good, link_codes, link_numbers, link_good}
use Rattle.float.specs.Sign.{abs_of}
use Rattle.sheet.specs.Scan.{readable, records_from, has_options, nodes_of, links_of, layout_of, end_of}
use Rattle.sheet.specs.Read.{first_bad, bad_ends, bad_link, bad_node, bad_field, with_unknowns, checked, after_scan, read_with, read_of, Reading}
use Rattle.layout.specs.declared.places.Layout.{Layout}
use lib.ListN.{length}
use Rattle.columns.specs.Columns.{copied}
use Rattle.balance.specs.Balance.{demand_of, supplied_by, supply_of, balance_of, settled_of}
use Rattle.entries.specs.Entries.{tallied}
use Rattle.marks.specs.Marks.{mark_of, put_of, written}
use Rattle.entries.specs.Entries as entry
use Rattle.runs.specs.Run.{finish}
use Rattle.answers.specs.Answers.{Solved, too_short}
use Rattle.conclusion.specs.Conclusion.{delivered, told}
use Rattle.solver.specs.Solve.{trials_of, start_of, solve_of}
use Rattle.words.specs.Digits.{decimal_in, decimal_of, hex_digit, hex_in, hex_of}
use Rattle.words.specs.Words.{number_word, float_word}
use Rattle.text.specs.Lines.{answer_line, record_line, record_lines}
use Rattle.results.specs.Lines.{node_line, node_lines, link_line, link_lines, balance_line}
use Rattle.listing_text.specs.Listing.{head_lines, result_lines, results_for, lines_of, blank, listing_of}
use Rattle.promises.specs.Example.{sheet, listing, freed_sheet, freed_listing}
use Rattle.promises.proofs.Quick.{quick_system, quick_trial, quick_run, quick_solve, quick_solve_lem}
use Rattle.std.specs.Prelude.{None, Ok}

reads : read_of sheet ≡ Ok (plain 2 0 1)
unfolding sheet read_of read_with after_scan with_unknowns serving in_service checked bad_field bad_node bad_link bad_ends first_bad options_good node_good link_good link_codes link_numbers all_within within base_bounds pair_at from_bytes little_endian abs_of readable records_from has_options nodes_of links_of layout_of end_of link_place lt le eq of_bits of_fields odd count_trailing_zeros
reads = refl

enough : too_short (plain 2 0 1) (trials_of sheet) (length blank.heads) (length blank.demands) (length blank.flows) (length blank.statuses) (length blank.entries) (length blank.scratch) ≡ None
unfolding sheet too_short options_of pair_at little_endian blank zeros
enough = refl

-- the lines of what a solve leaves
unfoldable lines : Reading → Solved → List ℕ
lines r o = lines_of r o.answer o.lent.heads o.lent.demands o.lent.flows o.lent.statuses o.lent.entries

computed : lines (Ok (plain 2 0 1)) (quick_solve repair_of sheet (plain 2 0 1) blank) ≡ listing
unfolding lines lines_of head_lines results_for result_lines blank listing quick_solve told delivered copied balance_of demand_of supply_of settled_of finish tallied entry.counted written put_of mark_of answer_line record_lines record_line node_lines node_line link_lines balance_line number_word float_word decimal_of decimal_in hex_of hex_in hex_digit sheet start_of heads_from demands_from flows_from codes_from node_at from_bytes little_endian quick_run quick_trial quick_system excess_of present cleared with_links demands_taken right_of bent_matrix bent_right counting grounded_of ground_of row_at serving in_service node_of link_of link_start link_end link_status link_place off_row take_from on_diagonal add_to zeros factor_of factorization.columns reduced less divided fill root_of root_bits scaled exponent moved whole_root whole_root_in factored repair_of repair_at free regulator_at regulator_from ground_node node_numbered step_of solved_heads with_head solved substitution.before substitution.forward substitution.after substitution.back update_of link_updates tank_links_of tank_updates tank_at drawn_of wild_place wild_drawn first_wild wild_from wild_of step_entry judged relative_change converged_of flow_limit unit.factor_of unit.factors options_of pair_at damped_of damping_start going_of then_run lt le eq neg add sub sum mul div round units odd size span climb of_bits of_fields to_bits is_nan count_trailing_zeros count_leading_zeros
computed = refl

-- document 01's example: the listing of its sheet is its whole output
pub document_01 : listing_of sheet ≡ listing
unfolding listing_of lines
document_01 =
    let l : Layout = plain 2 0 1 in
    ap (λ (r : Reading). lines r (solve_of sheet blank)) reads ∙ ap (lines (Ok l)) (quick_solve_lem repair_of sheet l blank reads enough) ∙ computed

-- ---- the other one

freed_reads : read_of freed_sheet ≡ Ok (plain 2 1 1)
unfolding freed_sheet read_of read_with after_scan with_unknowns serving in_service checked bad_field bad_node bad_link bad_ends first_bad options_good node_good link_good link_codes link_numbers all_within within base_bounds pair_at from_bytes little_endian abs_of readable records_from has_options nodes_of links_of layout_of end_of link_place lt le eq of_bits of_fields odd count_trailing_zeros ends_good
freed_reads = refl

freed_enough : too_short (plain 2 1 1) (trials_of freed_sheet) (length blank.heads) (length blank.demands) (length blank.flows) (length blank.statuses) (length blank.entries) (length blank.scratch) ≡ None
unfolding freed_sheet too_short options_of pair_at little_endian blank zeros
freed_enough = refl

freed_computed : lines (Ok (plain 2 1 1)) (quick_solve repair_of freed_sheet (plain 2 1 1) blank) ≡ freed_listing
unfolding lines lines_of head_lines results_for result_lines blank freed_listing quick_solve told delivered copied balance_of demand_of supply_of settled_of finish tallied entry.counted written put_of mark_of answer_line record_lines record_line node_lines node_line link_lines balance_line number_word float_word decimal_of decimal_in hex_of hex_in hex_digit freed_sheet start_of heads_from demands_from flows_from codes_from node_at from_bytes little_endian quick_run quick_trial quick_system excess_of imbalance_of present cleared with_links demands_taken right_of bent_matrix bent_right counting grounded_of ground_of row_at serving in_service node_of link_of link_start link_end link_status link_place off_row take_from on_diagonal add_to zeros factor_of factorization.columns reduced less divided fill root_of root_bits scaled exponent moved whole_root whole_root_in factored repair_of repair_at free regulator_at regulator_from ground_node node_numbered step_of solved_heads with_head solved substitution.before substitution.forward substitution.after substitution.back update_of link_updates tank_links_of tank_updates tank_at drawn_of wild_place wild_drawn first_wild wild_from wild_of step_entry judged relative_change converged_of flow_limit unit.factor_of unit.factors options_of pair_at damped_of damping_start going_of then_run lt le eq neg add sub sum mul div round units odd size span climb of_bits of_fields to_bits is_nan count_trailing_zeros count_leading_zeros link_added enabled less_demands with_flows Excess.shifted regulator regulates_at touches link_at link_update link_line supplied_by fixed_node status_of link_kind_of
freed_computed = refl

-- a repair and what it leaves, from the sheet's bytes to the listing's
pub freed : listing_of freed_sheet ≡ freed_listing
unfolding listing_of lines
freed =
    let l : Layout = plain 2 1 1 in
    ap (λ (r : Reading). lines r (solve_of freed_sheet blank)) freed_reads ∙ ap (lines (Ok l)) (quick_solve_lem repair_of freed_sheet l blank freed_reads freed_enough) ∙ freed_computed
