-- `trace::unmeasured` meets its contract. Assumes nothing.
use mathlib.Core.Path.{sym}
use Rattle.rules.specs.Refresh.{unmeasured}
use Rattle.trace.proofs.unmeasured.Goals as goal

pub returns : goal.returns
unfolding unmeasured
returns c = λ F a q old. sym old
