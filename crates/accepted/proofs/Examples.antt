-- Worked examples: the definitions compute, on document 01's sheet of 119 bytes, on that with a PD, on an empty sheet, and on one of each refusal. Assumes nothing.
use mathlib.Core.Path.{◌≡◌, refl}
use mathlib.Core.Bool.{true}
use mathlib.Core.List.{List, [], ◌∷◌, ◌++◌}
use Prim.Native.Nat.{ℕ}
use lib.Count.{count_trailing_zeros}
use lib.ListN.{replicate}
use lib.Ieee.{lt, le, eq, of_bits, of_fields, odd}
use Rattle.float.specs.Sign.{abs_of}
use Rattle.patterns.specs.Bytes.{little_endian, from_bytes}
use Rattle.codes.specs.Codes.{link_code}
use Rattle.sheet.specs.Scan.{readable, records_from, has_options, has_pressures, nodes_at, nodes_of, links_of, layout_of, end_of}
use Rattle.records.specs.Records.{pair_at}
use Rattle.fields.specs.Fields.{base_bounds, within, all_within, options_good, pressures_good, node_good, link_codes, link_numbers, link_good}
use Rattle.ends.specs.Ends.{ends_good}
use Rattle.nodes.specs.Nodes.{in_service, serving}
use Rattle.layout.specs.Places.{plain, planned, link_place}
use Rattle.sheet.specs.Read.{first_bad, bad_ends, bad_link, bad_node, pressures_fine, bad_field, with_unknowns, checked, after_scan, read_with, read_of}
use Rattle.fields.specs.declared.fields.Bounds.{Bounds}
use Rattle.refusals.specs.declared.refusals.Refusal.TheVariants.{Unreadable, NodeCount, LinkCount, Field, Ends}
use Rattle.std.specs.Prelude.{Err, Ok}

-- ---- sheets

zeros : ℕ → List ℕ
zeros n = replicate n 0

-- accuracy 0.001 and so many trials; a reservoir with head 100; a junction at elevation 5
op : ℕ → List ℕ
op trials = 79 ∷ 80 ∷ 252 ∷ 169 ∷ 241 ∷ 210 ∷ 77 ∷ 98 ∷ 80 ∷ 63 ∷ (zeros 16 ++ (trials ∷ 0 ∷ 0 ∷ []))

reservoir : List ℕ
reservoir = 78 ∷ 68 ∷ 1 ∷ 0 ∷ (zeros 16 ++ (0 ∷ 0 ∷ 0 ∷ 0 ∷ 0 ∷ 0 ∷ 89 ∷ 64 ∷ zeros 17))

junction : List ℕ
junction = 78 ∷ 68 ∷ 0 ∷ 0 ∷ 0 ∷ 0 ∷ 0 ∷ 0 ∷ 0 ∷ 0 ∷ 20 ∷ 64 ∷ zeros 33

-- a link of a kind from a node to another, Active, of diameter 1
link : ℕ → ℕ → ℕ → List ℕ
link kind start end = 76 ∷ 75 ∷ kind ∷ 0 ∷ 2 ∷ start ∷ 0 ∷ end ∷ 0 ∷ (zeros 16 ++ (0 ∷ 0 ∷ 0 ∷ 0 ∷ 0 ∷ 0 ∷ 240 ∷ 63 ∷ zeros 16))

document : List ℕ
document = op 40 ++ (reservoir ++ junction)

read_document : read_of document ≡ Ok (plain 2 0 1)
unfolding document op reservoir junction zeros read_of read_with has_options has_pressures nodes_at nodes_of links_of layout_of end_of link_place records_from readable after_scan with_unknowns serving in_service checked bad_field pressures_fine bad_node bad_link bad_ends first_bad base_bounds options_good node_good all_within within pair_at little_endian from_bytes abs_of lt le eq of_bits of_fields odd count_trailing_zeros
read_document = refl

-- minimum and required pressure, each by the last byte but one of its eight: 52 for 20, 62 for 30
pd : ℕ → ℕ → List ℕ
pd minimum required = 80 ∷ 68 ∷ (zeros 6 ++ (minimum ∷ 64 ∷ (zeros 6 ++ (required ∷ 64 ∷ []))))

-- with a PD; one whose numbers are equal
read_pressures : (read_of (op 40 ++ (pd 52 62 ++ (reservoir ++ junction))) ≡ Ok (planned true 2 0 1)) × (read_of (op 40 ++ (pd 52 52 ++ (reservoir ++ junction))) ≡ Ok (planned true 2 0 1))
unfolding pd op reservoir junction zeros read_of read_with has_options has_pressures nodes_at nodes_of links_of layout_of end_of link_place records_from readable after_scan with_unknowns serving in_service checked bad_field pressures_fine bad_node bad_link bad_ends first_bad base_bounds options_good pressures_good node_good all_within within pair_at little_endian from_bytes abs_of lt le eq of_bits of_fields odd count_trailing_zeros
read_pressures = (refl, refl)

-- required below minimum; then the OP's fault is told before the PD's
pressures_out : (read_of (op 40 ++ (pd 62 52 ++ (reservoir ++ junction))) ≡ Err (Field 29)) × (read_of (op 201 ++ (pd 62 52 ++ reservoir)) ≡ Err (Field 0))
unfolding pd op reservoir junction zeros read_of read_with has_options has_pressures nodes_at nodes_of links_of layout_of end_of link_place records_from readable after_scan with_unknowns serving in_service checked bad_field pressures_fine bad_node bad_link bad_ends first_bad base_bounds options_good pressures_good node_good all_within within pair_at little_endian from_bytes abs_of lt le eq of_bits of_fields odd count_trailing_zeros
pressures_out = (refl, refl)

-- cut short; twice; behind a node
pressures_unreadable : (read_of (op 40 ++ (80 ∷ 68 ∷ zeros 15)) ≡ Err (Unreadable 29)) × (read_of (op 40 ++ (pd 52 62 ++ (pd 52 62 ++ reservoir))) ≡ Err (Unreadable 47)) × (read_of (op 40 ++ (reservoir ++ (pd 52 62 ++ junction))) ≡ Err (Unreadable 74))
unfolding pd op reservoir junction zeros read_of read_with has_options has_pressures nodes_at nodes_of links_of layout_of end_of link_place records_from readable
pressures_unreadable = (refl, refl, refl)

-- nothing at all; a cut record; an unknown mark; no node
unreadable : (read_of [] ≡ Err (Unreadable 0)) × (read_of (op 40 ++ (78 ∷ 68 ∷ [])) ≡ Err (Unreadable 29)) × (read_of (op 40 ++ (reservoir ++ (88 ∷ zeros 60))) ≡ Err (Unreadable 74)) × (read_of (op 40) ≡ Err NodeCount)
unfolding op reservoir zeros read_of read_with has_options has_pressures nodes_at nodes_of links_of layout_of end_of link_place records_from readable after_scan base_bounds
unreadable = (refl, refl, refl, refl)

-- 201 trials; a link to a node that is not there
out_of_bounds : (read_of (op 201 ++ reservoir) ≡ Err (Field 0)) × (read_of (document ++ link 0 0 2) ≡ Err (Field 119))
unfolding document op reservoir junction link zeros read_of read_with has_options has_pressures nodes_at nodes_of links_of layout_of end_of link_place records_from readable after_scan with_unknowns serving in_service checked bad_field pressures_fine bad_node bad_link first_bad base_bounds options_good node_good link_good link_codes link_numbers all_within within pair_at little_endian from_bytes abs_of lt le eq of_bits of_fields odd count_trailing_zeros
out_of_bounds = (refl, refl)

-- a pipe from a node to itself; a PRV that ends at the reservoir; one that ends at the junction is read
ends : (read_of (document ++ link 0 1 1) ≡ Err (Ends 119)) × (read_of (document ++ link 1 1 0) ≡ Err (Ends 119)) × (read_of (document ++ link 1 0 1) ≡ Ok (plain 2 1 1))
unfolding document op reservoir junction link zeros read_of read_with has_options has_pressures nodes_at nodes_of links_of layout_of end_of link_place records_from readable after_scan with_unknowns serving in_service checked bad_field pressures_fine bad_node bad_link bad_ends first_bad base_bounds options_good node_good link_good link_codes link_numbers ends_good all_within within pair_at little_endian from_bytes abs_of lt le eq of_bits of_fields odd count_trailing_zeros
ends = (refl, refl, refl)

-- a link where none is allowed: 2 at 1
few : Bounds
few = record { nodes = 64; links = 0; trials = 200; unit = 10; magnitude = base_bounds.magnitude; diameter = base_bounds.diameter }

too_many_links : read_with few (document ++ link 0 0 1) ≡ Err LinkCount
unfolding few document op reservoir junction link zeros read_with has_options has_pressures nodes_at nodes_of links_of layout_of end_of link_place records_from readable after_scan
too_many_links = refl
