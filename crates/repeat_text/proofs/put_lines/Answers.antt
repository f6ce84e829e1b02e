-- The lines of the positions before the next one are put, each whole: there was room for the longest. Assumes nothing.
use Prim.Native.Nat.{◌≤◌, ◌*◌}
use mathlib.Core.Path.{◌≡◌, refl}
use native.Mathlib.Omega.{arith}
use lib.ListN.{length}
use Rattle.repeat_text.proofs.Loop.{none_lined, one_more, some_lined, lines-told}
use Rattle.repeat_text.proofs.put_lines.Goals as goal
use Rattle.repeat_text.proofs.put_lines.Goals.{Start}

-- the first line begins within the buffer
room : (c : Start) → c.args.at ≤ length c.args.out.now
room c = omega (arith, c.requires.0)

pub loop-next-init : goal.loop-next-init
loop-next-init c =
    (refl, refl, omega (arith, c.requires.2), none_lined (room (goal.at.loop-next-init c).Start))

pub returns-then-out-to-lt-LONGEST_LINE : goal.returns-then-out-to-lt-LONGEST_LINE
returns-then-out-to-lt-LONGEST_LINE c =
    let lined = c.loop-next.invariant.3 in
    lines-told (room (goal.at.returns-then-out-to-lt-LONGEST_LINE c).Start) lined (some_lined (room (goal.at.returns-then-out-to-lt-LONGEST_LINE c).Start) lined c.requires.0 (omega arith)) (omega arith)

pub loop-next-preserved : goal.loop-next-preserved
loop-next-preserved c =
    (refl, omega arith, omega arith, one_more (room (goal.at.loop-next-preserved c).Start) c.requires.1.counts c.loop-next.invariant.3 (omega arith) c.put_position-to.ensures)

pub returns : goal.returns
returns c =
    let e : c.loop-next.next ≡ c.args.body.repeats * c.args.body.n = omega arith in
    let a = c.args in
    rw e at (lines-told {b = a.body} {order = a.order.now} {summaries = a.summaries.now} {out = a.out.now} {at = a.at} {from = a.from} (room (goal.at.returns c).Start) c.loop-next.invariant.3 (omega arith) (omega arith))
