-- No level fits, or the greatest that does with its coast. Assumes nothing.
use mathlib.Core.List.{[]}
use native.Mathlib.Omega.{arith}
use Rattle.repeat_decision.specs.Decision.{MayGrant}
use Rattle.repeat_decision.proofs.Going.{from-stands}
use Rattle.repeat_decision.proofs.Choosing.{may_grant, chosen, chosen-late}
use Rattle.repeat_decision.proofs.choose.Goals as goal
use Rattle.repeat_decision.proofs.choose.Goals.{In-Some}

pub returns-in_default : goal.returns-in_default
returns-in_default c x s = chosen-late c.requires (c.in_default.ensures) s

-- with a level that fits
grants : (c : In-Some) → let a = c.args in
    MayGrant a.body (record { order = []; summaries = a.summaries.now; worst = a.worst.now }) a.place a.after c.in-Some.fit a.t
grants c = may_grant c.requires (c.in-Some.ensures) (from-stands c.requires.summarised)

pub left_granted-left-requires : goal.left_granted-left-requires
left_granted-left-requires c = grants (goal.at.left_granted-left-requires c).In-Some

pub overflow_cast-result : goal.overflow_cast-result
overflow_cast-result c =
    let g = grants (goal.at.overflow_cast-result c).In-Some in
    omega (arith, g.level, g.summarised.counts.few_levels)

pub returns : goal.returns
returns c x s = chosen c.requires (c.in-Some.ensures) x s (c.left_granted-left.ensures x s)
