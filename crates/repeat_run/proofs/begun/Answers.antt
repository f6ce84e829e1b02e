-- The record begun, field by field. Assumes nothing.
use mathlib.Core.Path.{refl}
use Rattle.rules.specs.Run.{begun}
use Rattle.repeat_run.proofs.begun.Goals as goal

pub returns : goal.returns
unfolding begun
returns c = (refl, refl)
