use mathlib.Core.Path.{sym, ◌∙◌}
use mathlib.Core.List.{[]}
use native.Mathlib.Omega.{arith}
use Rattle.rules.specs.Image.{Profile, due}
use Rattle.order_line.proofs.Numbering.{tested-more}
use Rattle.order_urgency.specs.Lent.{lent_profile}
use Rattle.order_urgency.proofs.One.{same-exact, one_end}
use Rattle.order_urgency.proofs.one_deadline.Goals as goal
use Rattle.order_urgency.proofs.one_deadline.Goals.{Start}

-- the profile that the slices say
abbrev said : Start → Profile
said c = lent_profile c.args.n c.args.cycle [] c.args.deadlines.now [] 0

pub loop-a-preserved : goal.loop-a-preserved
unfolding due
loop-a-preserved c =
    let same = same-exact c.due.result c.due-first.result in
    tested-more _ _ _ _ (λ e. sym c.due.ensures ∙ same.0 e, λ e. same.1 (c.due.ensures ∙ e)) c.loop-a.invariant

pub returns : goal.returns
unfolding due
returns c =
    one_end (said (goal.at.returns c).Start) (omega (arith, c.if-n-eq0.false)) c.loop-a-test.false c.loop-a.auto.a-end c.due-first.ensures c.loop-a.invariant
