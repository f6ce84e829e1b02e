use mathlib.Core.Path.{◌≡◌}
use lib.Dec.{leb}
use Rattle.rules.specs.Numbers.{longest_time}
use Rattle.rules.specs.Words.{all_pass}
use Rattle.rules.specs.Recording.{short}
use Rattle.run.proofs.dry.all_short.Given as goal

abbrev pub invariant-loop-duration : goal.invariant-loop-duration
invariant-loop-duration l = all_pass (short l.fn.durations) l.duration-index ≡ leb l.all longest_time
