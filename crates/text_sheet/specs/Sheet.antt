-- The sheet of an EPANET text, and the list of its names, from what its lines make known. Definitions only.
use Rattle.std.specs.Prelude.{ℕ, ◌+◌, ◌-◌, ◌*◌, cond, List, [], ◌∷◌, ◌++◌, Option, Some, None, leb, Float, length}
use Rattle.records.specs.declared.records.Options.{Options}
use Rattle.records.specs.declared.records.Pressures.{Pressures}
use Rattle.records.specs.declared.records.Node.{Node}
use Rattle.records.specs.declared.records.Link.{Link}
use Rattle.sheet_bytes.specs.Bytes.{options_bytes, pressures_bytes, node_bytes, link_bytes}
use Rattle.line_fields.specs.Fields.{word_in}
use Rattle.text_settings.specs.declared.Settings.{Settings}
use Rattle.named_lines.specs.Named.{Named, name_of, position_of}
use Rattle.known.specs.Known.{Known}
use Rattle.text_units.specs.Units.{units_of, pressure_feet}
use Rattle.text_units.specs.declared.Units.{Units}
use Rattle.text_records.specs.Nodes.{node_record_of}
use Rattle.text_records.specs.Links.{link_record_of}

-- ---- OP, and PD where demands give way to pressure

unfoldable pub options_in : Settings → Options
options_in o = record { accuracy = o.accuracy; damping = o.damping; change = o.change; trials = o.trials; unit = o.unit }

unfoldable pub pressures_in : Settings → Pressures
pressures_in o = record { minimum = pressure_feet (units_of o.unit) o.minimum; required = pressure_feet (units_of o.unit) o.required }

unfoldable pub head_bytes : Settings → List ℕ
head_bytes o = options_bytes (options_in o) ++ cond o.bends (pressures_bytes (pressures_in o)) []

-- ---- ND and LK

unfoldable pub node_with : Units → Float → Named → Node
node_with u multiplier x = node_record_of x.kind u multiplier x.words

unfoldable pub nodes_bytes : Settings → List Named → List ℕ
nodes_bytes o [] = []
nodes_bytes o (x ∷ xs) = node_bytes (node_with (units_of o.unit) o.multiplier x) ++ nodes_bytes o xs

-- an end is the number of the node that has its name
unfoldable pub link_with : Units → List Named → Named → Link
link_with u nodes x = link_record_of x.kind u x.words x.said (position_of (word_in x.words 1) nodes) (position_of (word_in x.words 2) nodes)

unfoldable pub links_bytes : Settings → List Named → List Named → List ℕ
links_bytes o nodes [] = []
links_bytes o nodes (x ∷ xs) = link_bytes (link_with (units_of o.unit) nodes x) ++ links_bytes o nodes xs

unfoldable pub sheet_of : Known → List ℕ
sheet_of x = head_bytes x.settings ++ nodes_bytes x.settings x.nodes ++ links_bytes x.settings x.nodes x.links

-- how long it is
unfoldable pub sheet_size : Settings → ℕ → ℕ → ℕ
sheet_size o nodes links = cond {A = ℕ} o.bends 47 29 + (45 * nodes + 49 * links)

-- ---- names: a newline, which is 10, behind each

unfoldable pub names_bytes : List Named → List ℕ
names_bytes [] = []
names_bytes (x ∷ xs) = (name_of x ++ (10 ∷ [])) ++ names_bytes xs

unfoldable pub names_of : Known → List ℕ
names_of x = names_bytes x.nodes ++ names_bytes x.links

-- how many of so many bytes they leave, if they fit into them
unfoldable pub room_of : List Named → ℕ → Option ℕ
room_of xs room = cond (leb (length (names_bytes xs)) room) (Some (room - length (names_bytes xs))) None
