-- The lines of the positions before the index are put. Assumes nothing.
use Prim.Native.Nat.{zero-le}
use native.Mathlib.Omega.{arith}
use Rattle.print.proofs.Frames.{step}
use Rattle.print.proofs.Lines.{loop-none, loop_turn}
use Rattle.print.proofs.dry.put_steps.Goals as goal

pub loop-i-init : goal.loop-i-init
loop-i-init c = (omega arith, omega arith, loop-none zero-le _)

pub loop-i-preserved : goal.loop-i-preserved
loop-i-preserved c =
    let x = c.args in
    (omega arith, omega arith, loop_turn zero-le (step x.order.now x.given.now x.marks.now) c.loop-i.i c.loop-i.invariant.2 c.put_four-to.ensures)
