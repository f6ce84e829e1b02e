use native.Mathlib.Omega.{arith}
use Rattle.sets.proofs.Laws.{end-member}
use Rattle.order_urgency.proofs.Apart.{passing_more, passing_falls, passing_end}
use Rattle.order_urgency.proofs.hand_apart.Goals as goal

pub loop-t-smaller : goal.loop-t-smaller
loop-t-smaller c =
    passing_falls _ _ _ c.loop-t.invariant.1 (end-member _ c.end.ensures).1 c.loop-t.invariant.0 (c.type_inv.masks _).fits c.give-t.ensures

pub loop-t-preserved : goal.loop-t-preserved
loop-t-preserved c =
    let member = (end-member _ c.end.ensures).1 in
    let mask = (c.type_inv.masks c.end.result).fits in (
      omega (arith, c.loop-t.invariant.0, passing_falls _ _ _ c.loop-t.invariant.1 member c.loop-t.invariant.0 mask c.give-t.ensures),
      passing_more _ _ _ c.loop-t.invariant.1 member c.loop-t.invariant.0 mask c.give-t.ensures,
    )

pub returns : goal.returns
returns c = passing_end _ _ _ (rw c.loop-t-test.false at c.loop-t.invariant.1)
