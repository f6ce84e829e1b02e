-- `trace::raised` meets its contract. Assumes nothing.
use mathlib.Core.Path.{◌∙◌}
use Rattle.rules.specs.Refresh.{measured, new_average}
use Rattle.trace.proofs.Averages.{raised_at}
use Rattle.trace.proofs.raised.Goals as goal

pub returns : goal.returns
unfolding new_average
returns c = λ F trace a q old is below.
    c.max.ensures ∙ rw (below, c.averaged-here.ensures F trace a q old is) (raised_at (measured F trace a) q)
