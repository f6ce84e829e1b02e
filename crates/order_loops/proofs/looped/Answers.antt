use mathlib.Core.Path.{sym, ◌∙◌}
use Rattle.order_loops.proofs.Closing.{looped_yes, looped_no}
use Rattle.order_loops.proofs.Collecting.{none_collected, one_more, none_more}
use Rattle.order_loops.proofs.looped.Goals as goal
use Rattle.order_loops.proofs.looped.Goals.{then-member, else-member}

pub loop-a-init : goal.loop-a-init
loop-a-init c = none_collected _

pub loop-a-preserved : goal.loop-a-preserved
loop-a-preserved c =
    let closed = c.closed-all.ensures in
    let l = c.loop-a-test.true in
    let told = sym c.member.ensures in
    elim c.if-member.branch [
      | then-member w ↦ rw w.set-is (one_more _ _ c.loop-a.invariant (looped_yes _ closed l (told ∙ w.if-member.true)) w.with-set.ensures)
      | else-member w ↦ rw w.set-is (none_more _ _ c.loop-a.invariant (looped_no _ closed l (told ∙ w.if-member.false)))
    ]
