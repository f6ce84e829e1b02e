-- The tests of the counts and of the repeats, at once. Assumes nothing.
use Rattle.repeat_limits.proofs.Refusing.{body-at-once}
use Rattle.repeat_limits.proofs.body_in.Goals as goal

pub returns : goal.returns
returns c = body-at-once c.args.body
