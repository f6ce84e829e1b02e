-- Where the last position stands, what comes before it and what from it on. Assumes nothing.
use Prim.Native.Nat.{◌+◌}
use mathlib.Core.Path.{ap₂, ◌∙◌}
use Rattle.repeat_limits.proofs.Reaching.{last-read}
use Rattle.repeat_limits.proofs.last_reach.Goals as goal

pub returns-clause-is : goal.returns-clause-is
returns-clause-is c i s = ap₂ ◌+◌ c.spent_before-spent.ensures.is c.mix_from.ensures.mixed ∙ last-read c.requires s
