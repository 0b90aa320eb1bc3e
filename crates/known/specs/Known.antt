-- What the lines of an EPANET text make known, one after the other, and the first that is refused. Definitions only.
use Rattle.std.specs.Prelude.{ℕ, ◌+◌, Bool, true, false, cond, ◌&&◌, ◌||◌, List, [], ◌∷◌, ◌++◌, ⊤, Result, Ok, Err, ltb, leb, length, get_or}
use Rattle.lines.specs.Lines.{lines_of}
use Rattle.line_words.specs.Words.{words_of}
use Rattle.line_fields.specs.Fields.{word_in, has_word}
use Rattle.line_fields.specs.declared.LineFault.{LineFault}
use Rattle.line_fields.specs.declared.LineFault.TheVariants as fault
use Rattle.section_names.specs.Sections.{is_header, section_of}
use Rattle.section_names.specs.declared.Section.{Section}
use Rattle.section_names.specs.declared.Section.TheVariants.{Before, Junctions, Reservoirs, Tanks, Pipes, Valves, Status, Options, Passed, Other}
use Rattle.node_lines.specs.Nodes.{junction_fault, reservoir_fault, tank_fault}
use Rattle.pipe_lines.specs.Pipes.{pipe_fault, pipe_status_of}
use Rattle.pipe_lines.specs.declared.PipeStatus.{PipeStatus}
use Rattle.pipe_lines.specs.declared.PipeStatus.TheVariants as pipe
use Rattle.valve_lines.specs.Valves.{valve_fault, valve_kind_of}
use Rattle.status_lines.specs.Status.{status_fault, said_of}
use Rattle.status_lines.specs.declared.Said.{Said}
use Rattle.status_lines.specs.declared.Said.TheVariants as said
use Rattle.option_lines.specs.Keys.{option_fault}
use Rattle.text_settings.specs.Settings.{default_settings}
use Rattle.option_settings.specs.After.{with_option}
use Rattle.text_settings.specs.declared.Settings.{Settings}
use Rattle.named_lines.specs.Named.{Named, nameless, named, position_of, settled_by}
use Rattle.named_lines.specs.declared.Kind.{Kind}
use Rattle.named_lines.specs.declared.Kind.TheVariants.{Junction, Reservoir, Tank, Pipe, CheckedPipe, Valve}
use Rattle.known.specs.declared.Refused.{Refused}

-- the section that the next line stands in, the options, and the lines that define nodes and links, in the order of the text
pub record Known : Type 0 where
  pub section : Section
  pub settings : Settings
  pub nodes : List Named
  pub links : List Named

unfoldable pub nothing_known : Known
nothing_known = record { section = Before; settings = default_settings; nodes = []; links = [] }

-- a text, and what some of its lines make known
pub record Reading : Type 0 where
  pub text : List ℕ
  pub known : Known

unfoldable pub is_known : List ℕ → List Named → Bool
is_known w xs = ltb (position_of w xs) (length xs)

-- ---- what a line is refused with

abbrev pub Verdict : Type 0
Verdict = Result ⊤ LineFault

-- the first of two, where what is asked first finds none
abbrev pub and_then : Verdict → Verdict → Verdict
and_then (Err f) g = Err f
and_then (Ok d) g = g

-- a name twice, or more names than are kept
unfoldable pub name_fault : List (List ℕ) → List Named → ℕ → Verdict
name_fault ws xs most = cond (is_known (word_in ws 0) xs || leb most (length xs)) (Err fault.Unreadable) (Ok tt)

-- an end that is no node
unfoldable pub ends_fault : List (List ℕ) → List Named → Verdict
ends_fault ws nodes = cond (is_known (word_in ws 1) nodes && is_known (word_in ws 2) nodes) (Ok tt) (Err fault.Unknown)

-- a pipe is opened and closed, and has no setting; one with a check valve is not set at all
unfoldable pub settable : Kind → Said → Bool
settable CheckedPipe s = false
settable Pipe said.Number = false
settable Pipe said.Closed = true
settable Pipe said.Open = true
settable (Valve k) s = true
settable Junction s = true
settable Reservoir s = true
settable Tank s = true

unfoldable pub setting_fault : List (List ℕ) → List Named → Verdict
setting_fault ws links =
    and_then (status_fault ws)
    (cond (is_known (word_in ws 0) links) (cond (settable (get_or links (position_of (word_in ws 0) links) nameless).kind (said_of ws)) (Ok tt) (Err fault.Unreadable)) (Err fault.Unknown))

-- at most 512 nodes and 1,024 links are kept
unfoldable pub data_fault : Section → Known → List (List ℕ) → Verdict
unfolding name_fault ends_fault setting_fault
data_fault Before x ws = Err fault.Unreadable
data_fault Junctions x ws = and_then (name_fault ws x.nodes 512) (junction_fault ws)
data_fault Reservoirs x ws = and_then (name_fault ws x.nodes 512) (reservoir_fault ws)
data_fault Tanks x ws = and_then (name_fault ws x.nodes 512) (tank_fault ws)
data_fault Pipes x ws = and_then (name_fault ws x.links 1024) (and_then (pipe_fault ws) (ends_fault ws x.nodes))
data_fault Valves x ws = and_then (name_fault ws x.links 1024) (and_then (valve_fault ws) (ends_fault ws x.nodes))
data_fault Status x ws = setting_fault ws x.links
data_fault Options x ws = option_fault ws
data_fault Passed x ws = Ok tt
data_fault Other x ws = Err fault.Section

-- a header stands alone on its line
unfoldable pub line_fault : Known → List (List ℕ) → Verdict
unfolding data_fault
line_fault x ws =
    cond (has_word ws 0) (cond (is_header (word_in ws 0)) (cond (has_word ws 1) (Err fault.Unreadable) (Ok tt)) (data_fault x.section x ws)) (Ok tt)

-- ---- what a line makes known

unfoldable pub with_node : Known → Kind → List (List ℕ) → Known
with_node x kind ws = record { section = x.section; settings = x.settings; nodes = x.nodes ++ (named kind ws ∷ []); links = x.links }

unfoldable pub with_link : Known → Kind → List (List ℕ) → Known
with_link x kind ws = record { section = x.section; settings = x.settings; nodes = x.nodes; links = x.links ++ (named kind ws ∷ []) }

unfoldable pub pipe_kind : PipeStatus → Kind
pipe_kind pipe.Checked = CheckedPipe
pipe_kind pipe.Open = Pipe
pipe_kind pipe.Closed = Pipe

unfoldable pub data_taken : Section → Known → List (List ℕ) → Known
unfolding with_node with_link
data_taken Before x ws = x
data_taken Junctions x ws = with_node x Junction ws
data_taken Reservoirs x ws = with_node x Reservoir ws
data_taken Tanks x ws = with_node x Tank ws
data_taken Pipes x ws = with_link x (pipe_kind (pipe_status_of ws)) ws
data_taken Valves x ws = with_link x (Valve (valve_kind_of ws)) ws
data_taken Status x ws =
    record { section = x.section; settings = x.settings; nodes = x.nodes; links = settled_by (position_of (word_in ws 0) x.links) ws x.links }
data_taken Options x ws = record { section = x.section; settings = with_option ws x.settings; nodes = x.nodes; links = x.links }
data_taken Passed x ws = x
data_taken Other x ws = x

unfoldable pub line_taken : Known → List (List ℕ) → Known
unfolding data_taken
line_taken x ws =
    cond (has_word ws 0)
    (cond (is_header (word_in ws 0)) (record { section = section_of (word_in ws 0); settings = x.settings; nodes = x.nodes; links = x.links }) (data_taken x.section x ws))
    x

-- ---- all lines: the first fault with its line, if there is one; and what was known there

pub record Surveyed : Type 0 where
  pub told : Result ⊤ Refused
  pub known : Known

-- where line i is refused, what was known there, and else the rest
abbrev pub surveyed : Verdict → ℕ → Known → Surveyed → Surveyed
surveyed (Err f) i x rest = record { told = Err (record { fault = f; line = i }); known = x }
surveyed (Ok d) i x rest = rest

-- the lines from line i on
unfoldable pub lines_taken : ℕ → Known → List (List ℕ) → Surveyed
unfolding line_taken
lines_taken i x [] = record { told = Ok tt; known = x }
lines_taken i x (l ∷ ls) = surveyed (line_fault x (words_of l)) i x (lines_taken (i + 1) (line_taken x (words_of l)) ls)

unfoldable pub survey_of : List ℕ → Surveyed
unfolding lines_taken
survey_of t = lines_taken 1 nothing_known (lines_of t)
