-- The limit of a level is put after those before it.
use Rattle.std.proofs.Common.{rules, arith, ◌≡◌, get_or, pos, to_z, of_z, w32}
use Rattle.text.proofs.Puts.{put_then}
use Rattle.print.proofs.Lines.{loop-none, loop_turn}
use Rattle.print.proofs.plan.put_limits.Invariants.{entry}
use Rattle.print.proofs.plan.put_limits.Goals as goal

pub loop-limit-init : goal.loop-limit-init
loop-limit-init c = (omega arith, omega arith, loop-none (omega arith) _)

pub loop-limit-preserved : goal.loop-limit-preserved
loop-limit-preserved c =
    let z = get_or c.args.limits.now c.loop-limit.limit-index (pos 0) in
    let read : to_z w32 (of_z w32 z) ≡ z = search rules in
    let put = put_then c.loop-limit.invariant.2.counts.0 c.put_byte-next.ensures (rw read at c.put_signed-to.ensures) in
    (omega arith, omega arith, loop_turn c.requires.0 (entry c.args.limits.now) c.loop-limit.limit-index c.loop-limit.invariant.2 put)
