-- `trace::fault` meets its contract. Assumes nothing.
use mathlib.Core.Path.{refl}
use Rattle.trace.proofs.Faults.{no_fault, too_long}
use Rattle.trace.proofs.fault.Goals as goal

pub returns-then-e-ceiling : goal.returns-then-e-ceiling
returns-then-e-ceiling c = λ F trace r has is. no_fault F trace r has is refl c.if-e-ceiling.true

pub returns : goal.returns
returns c = λ F trace r has is. too_long F trace r has is refl c.if-ceiling-eq0.false c.if-e-ceiling.false
