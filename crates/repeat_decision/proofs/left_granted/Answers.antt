-- By the ends at the top level, else position by position. Assumes nothing.
use native.Mathlib.Omega.{arith}
use Rattle.repeat_decision.proofs.Ends.{long_granted, each_granted}
use Rattle.repeat_decision.proofs.left_granted.Goals as goal
use Rattle.repeat_decision.proofs.left_granted.Goals.{then-fit-body+else-t-last, else-fit-body}

pub returns-then-t-last : goal.returns-then-t-last
returns-then-t-last c x s =
    long_granted c.requires c.most-longest.ensures s c.if-fit-body.true (omega (arith, c.if-t-last.true, c.last_reach-last.ensures.is x s))

-- below the top level, or without room at the last position
pub returns : goal.returns
returns c x s =
    each_granted c.requires c.most-longest.ensures s
    (λ top.
    elim c.if-fit-body.branch [
      | then-fit-body+else-t-last w ↦ omega (arith, w.if-t-last.false, w.last_reach-last.ensures.is x s)
      | else-fit-body w ↦ absurd (omega (arith, w.if-fit-body.false, top))
    ])
    (c.left_walked.ensures x s)
