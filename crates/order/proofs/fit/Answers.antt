use mathlib.Core.Path.{◌≡◌}
use native.Mathlib.Omega.{arith}
use Rattle.rules.specs.Image.{due}
use Rattle.order.specs.Lent.{lent_profile}
use Rattle.order.proofs.Ending.{ending_start, ending_more, tells_yes, tells_no}
use Rattle.order.proofs.fit.Goals as goal

pub loop-k-init : goal.loop-k-init
loop-k-init c = (omega arith, ending_start _ _ _)

pub returns-then-due-end : goal.returns-then-due-end
unfolding due
returns-then-due-end c masks =
    tells_no (lent_profile c.args.n c.args.cycle masks c.args.deadlines.now c.args.worst.now c.args.stride) _ c.loop-k.invariant.1 c.loop-k-test.true
    (omega (arith, c.due.ensures))

pub loop-k-preserved : goal.loop-k-preserved
unfolding due
loop-k-preserved c = (
  omega arith,
  ending_more _ _ _ c.loop-k.invariant.1 (c.requires.1.short _ (c.requires.2 c.loop-k.k c.loop-k-test.true))
      (omega (arith, c.due.ensures)),
)

pub returns : goal.returns
unfolding due
returns c masks =
    let e : c.loop-k.k ≡ c.args.n = omega arith in
    tells_yes (lent_profile c.args.n c.args.cycle masks c.args.deadlines.now c.args.worst.now c.args.stride) _ (rw e at c.loop-k.invariant.1)
