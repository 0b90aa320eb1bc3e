-- What is known, as the tables of a text keep it. Definitions only.
use Rattle.std.specs.Prelude.{◌≡◌}
use Rattle.known.specs.Known.{Reading}
use Rattle.known.specs.declared.Knowledge.TheInside.{Inside}

abbrev pub reading : Inside → Reading
reading p =
    record { text = p.nodes.text; known = record { section = p.section; settings = p.settings; nodes = p.nodes.lines; links = p.links.lines } }

-- the tables are of one text, and for 512 nodes and 1,024 links
pub record Tabled (p : Inside) : Type 0 where
  pub one_text : p.links.text ≡ p.nodes.text
  pub node_room : p.nodes.room ≡ 512
  pub link_room : p.links.room ≡ 1024
