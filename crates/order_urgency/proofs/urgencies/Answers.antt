use mathlib.Core.List.{[]}
use Rattle.rules.specs.Image.{due}
use Rattle.order_line.proofs.Walking.{lined_exact}
use Rattle.order_urgency.specs.Lent.{lent_profile}
use Rattle.order_urgency.proofs.One.{one-urgent}
use Rattle.order_urgency.proofs.Turns.{spread-urgent}
use Rattle.order_urgency.proofs.urgencies.Goals as goal

pub returns-then-one_deadline-clause-looped : goal.returns-then-one_deadline-clause-looped
returns-then-one_deadline-clause-looped c = lined_exact c.line_up-looped.ensures

pub returns-then-one_deadline-clause-urgent : goal.returns-then-one_deadline-clause-urgent
unfolding due
returns-then-one_deadline-clause-urgent c =
    let s = c.args in
    one-urgent (lent_profile s.n s.cycle s.masks.now s.deadlines.now [] 0) (c.one_deadline.ensures.0 c.if-one_deadline.true) c.dues.new.u c.dues.ensures.each

pub last_first-requires : goal.last_first-requires
last_first-requires c =
    let pre = c.requires in
    (pre.0, pre.1, c.line_up-looped.ensures.whole c.if-looped.false, c.dues.ensures.long)

pub returns-then-looped-clause-looped : goal.returns-then-looped-clause-looped
returns-then-looped-clause-looped c = lined_exact c.line_up-looped.ensures

pub returns-then-looped-clause-urgent : goal.returns-then-looped-clause-urgent
returns-then-looped-clause-urgent c =
    let s = c.args in
    spread-urgent s.n s.cycle s.masks.now s.deadlines.now c.dues.new.u c.least_first.new.u c.dues.ensures.each c.least_first.ensures

pub returns-else-looped-clause-looped : goal.returns-else-looped-clause-looped
returns-else-looped-clause-looped c = lined_exact c.line_up-looped.ensures

pub returns-else-looped-clause-urgent : goal.returns-else-looped-clause-urgent
returns-else-looped-clause-urgent c =
    let s = c.args in
    spread-urgent s.n s.cycle s.masks.now s.deadlines.now c.dues.new.u c.last_first.new.u c.dues.ensures.each c.last_first.ensures
