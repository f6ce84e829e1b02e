-- The table of the code is the table of the definition, computed. Assumes nothing.
use mathlib.Core.Path.{refl}
use Rattle.encoder.specs.Times.{times}
use Rattle.encoder.proofs.times.Goals as goal

pub returns : goal.returns
unfolding times
returns c = refl
