-- The slices have room for every profile, and the count of an accepted image keeps the indices within them. Assumes nothing.
use mathlib.Core.Path.{refl}
use Prim.Native.Nat.{zero-le}
use lib.Dec.{lit≤}
use Rattle.rules.proofs.Reasons.{some_number}
use Rattle.fields.proofs.Written.{tab-taken}
use Rattle.text.proofs.Puts.{put_then}
use Rattle.print.proofs.Frames.{dry-refused, dry-told}
use Rattle.print.proofs.dry.dry_text.Goals as goal

pub returns-in-Ok : goal.returns-in-Ok
returns-in-Ok c =
    let frames = rw (tab-taken _ _ _ c.take_durations-count.ensures.durations_after c.take_durations-count.ensures.value.0) at c.in-Ok.ensures in
    dry-told frames (record { order_room = lit≤ tt; levels_room = lit≤ tt; decided_room = lit≤ tt })
    refl (put_then zero-le c.put_steps-at.ensures c.put_end.ensures)

pub returns-in-Err : goal.returns-in-Err
returns-in-Err c =
    let frames = rw (tab-taken _ _ _ c.take_durations-count.ensures.durations_after c.take_durations-count.ensures.value.0) at c.in-Err.ensures in
    dry-refused frames (record { order_room = lit≤ tt; levels_room = lit≤ tt; decided_room = lit≤ tt })
    (some_number _) (rw c.from.ensures at c.put_fault.ensures)
