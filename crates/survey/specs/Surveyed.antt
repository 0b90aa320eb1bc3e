-- What all lines of a text come to, with no table. Definitions only.
use Rattle.known.specs.Known as known
use Rattle.known.specs.Progress.{progress_of}
use Rattle.survey.specs.declared.Surveyed.{Surveyed}

unfoldable pub surveyed_of : known.Surveyed → Surveyed
surveyed_of v = record { told = v.told; found = progress_of v.known }
