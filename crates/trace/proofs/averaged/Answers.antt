-- `trace::averaged` meets its contract. Assumes nothing.
use mathlib.Core.Path.{sym, ◌∙◌}
use native.Mathlib.Omega.{arith}
use Rattle.rules.proofs.Refresh.{measured-some}
use Rattle.trace.proofs.Averages.{none-measured}
use Rattle.trace.proofs.averaged.Goals as goal

pub returns-then-count-eq0 : goal.returns-then-count-eq0
returns-then-count-eq0 c = λ F trace a q old is.
    c.from.ensures ∙ c.unmeasured.ensures F a q old ∙ sym (none-measured F trace a q (sym is.count ∙ c.if-count-eq0.true))

pub returns : goal.returns
returns c = λ F trace a q old is. rw (is.count, is.sum) (sym (measured-some F trace a q (omega (arith, is.count, c.if-count-eq0.false))))
