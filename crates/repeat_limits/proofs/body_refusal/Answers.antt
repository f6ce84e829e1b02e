-- The row of refusals, test by test. Assumes nothing.
use Rattle.rules.specs.Refusals.{first}
use Rattle.repeat_limits.proofs.body_refusal.Goals as goal

pub returns-then-n-levels : goal.returns-then-n-levels
unfolding first
returns-then-n-levels c = rw c.if-n-levels.true

pub returns-then-repeats : goal.returns-then-repeats
unfolding first
returns-then-repeats c = rw (c.if-n-levels.false, c.if-repeats.true)

pub returns : goal.returns
unfolding first
returns c = rw (c.if-n-levels.false, c.if-repeats.false)
