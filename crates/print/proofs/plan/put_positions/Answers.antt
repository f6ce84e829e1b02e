-- The lines of the positions before the index are put. Assumes nothing.
use native.Mathlib.Omega.{arith}
use Rattle.print.proofs.Lines.{loop-none, loop_turn}
use Rattle.print.proofs.Plans.{told}
use Rattle.print.proofs.plan.put_positions.Goals as goal

pub loop-i-init : goal.loop-i-init
loop-i-init c = (omega arith, omega arith, loop-none (omega arith) _)

pub loop-i-preserved : goal.loop-i-preserved
loop-i-preserved c = (
  omega arith,
  omega arith,
  loop_turn c.requires.0.0 (told c.args.order.now c.args.limits.now c.args.levels) c.loop-i.i
      c.loop-i.invariant.2
      c.put_position-to.ensures,
)
