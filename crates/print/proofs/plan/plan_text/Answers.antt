-- The tables have room for every profile, and the counts of an accepted image keep the indices within them. Assumes nothing.
use mathlib.Core.Path.{refl}
use native.Mathlib.Omega.{arith}
use Prim.Native.Nat.{zero-le}
use lib.Dec.{lit≤}
use Rattle.std.proofs.Common.{rules}
use Rattle.rules.proofs.Reasons.{some_number}
use Rattle.text.proofs.Puts.{put_then}
use Rattle.print.proofs.Plans.{counts, plan-refused, plan-told}
use Rattle.print.proofs.plan.plan_text.Goals as goal

pub put_positions-requires : goal.put_positions-requires
put_positions-requires c =
    let few = counts c.in-Ok.ensures refl in
    (search rules, few.actions, few.levels, omega (arith, few.actions), omega (arith, few.cells))

pub returns-in-Ok : goal.returns-in-Ok
returns-in-Ok c =
    plan-told c.in-Ok.ensures
    (record { order_room = lit≤ tt; limits_room = lit≤ tt; worst_room = lit≤ tt; bounds_room = lit≤ tt })
    refl (put_then zero-le c.put_counts-at.ensures c.put_positions.ensures)

pub returns-in-Err : goal.returns-in-Err
returns-in-Err c =
    plan-refused c.in-Err.ensures
    (record { order_room = lit≤ tt; limits_room = lit≤ tt; worst_room = lit≤ tt; bounds_room = lit≤ tt })
    (some_number _) (rw c.from.ensures at c.put_fault.ensures)
