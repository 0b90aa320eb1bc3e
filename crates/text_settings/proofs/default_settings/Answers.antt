-- `text_settings::default_settings` meets its contract. Assumes nothing.
use mathlib.Core.Path.{refl}
use Rattle.text_settings.specs.Settings.{default_settings}
use Rattle.text_settings.proofs.default_settings.Goals as goal

pub returns : goal.returns
unfolding default_settings
returns c = refl
