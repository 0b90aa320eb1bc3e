-- How far the reading of a text is, from what its lines make known. Definitions only.
use Rattle.std.specs.Prelude.{length}
use Rattle.known.specs.Known.{Known}
use Rattle.known.specs.declared.Progress.{Progress}

unfoldable pub progress_of : Known → Progress
progress_of x = record { section = x.section; settings = x.settings; nodes = length x.nodes; links = length x.links }
