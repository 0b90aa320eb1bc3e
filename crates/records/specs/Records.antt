-- The records of a sheet by value. Definitions only.
use Rattle.std.specs.Prelude.{ℕ, ◌+◌, List, eqb, get_or}
use Rattle.patterns.specs.Bytes.{little_endian, from_bytes}
use Rattle.codes.specs.Codes.{node_kind_of, link_kind_of, status_of}
use Rattle.records.specs.declared.records.Options.{Options}
use Rattle.records.specs.declared.records.Pressures.{Pressures}
use Rattle.records.specs.declared.records.Node.{Node}
use Rattle.records.specs.declared.records.Link.{Link}

-- the byte, and the number of the two bytes, at `at`
abbrev pub byte_at : List ℕ → ℕ → ℕ
byte_at s at = get_or s at 0

unfoldable pub pair_at : List ℕ → ℕ → ℕ
pair_at s at = little_endian 2 s at

unfoldable pub options_of : List ℕ → Options
unfolding pair_at
options_of s =
    record { accuracy = from_bytes s 2; damping = from_bytes s 10; change = from_bytes s 18; trials = pair_at s 26; unit = byte_at s 28 }

-- PD stands straight after OP
unfoldable pub pressures_of : List ℕ → Pressures
pressures_of s = record { minimum = from_bytes s 31; required = from_bytes s 39 }

unfoldable pub node_at : List ℕ → ℕ → Node
node_at s at =
    record {
      kind = node_kind_of (byte_at s (at + 2));
      disabled = eqb (byte_at s (at + 3)) 1;
      elevation = from_bytes s (at + 4);
      demand = from_bytes s (at + 12);
      head = from_bytes s (at + 20);
      highest = from_bytes s (at + 28);
      lowest = from_bytes s (at + 36);
      overflow = eqb (byte_at s (at + 44)) 1;
    }

unfoldable pub link_at : List ℕ → ℕ → Link
unfolding pair_at
link_at s at =
    record {
      kind = link_kind_of (byte_at s (at + 2));
      check = eqb (byte_at s (at + 3)) 1;
      status = status_of (byte_at s (at + 4));
      start = pair_at s (at + 5);
      end = pair_at s (at + 7);
      setting = from_bytes s (at + 9);
      minor = from_bytes s (at + 17);
      diameter = from_bytes s (at + 25);
      resistance = from_bytes s (at + 33);
      flow = from_bytes s (at + 41);
    }
