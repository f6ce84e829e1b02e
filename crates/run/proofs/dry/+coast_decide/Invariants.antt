-- How the two functions end: `decide` calls `coast` behind the position at which it began, and `coast` calls `decide` at its own or behind. So
-- twice the remaining actions count for `decide`, and one more for `coast`.
use Prim.Native.Nat.{◌+◌, ◌-◌, ◌*◌}
use mathlib.Core.List.{[]}
use Rattle.run.specs.Calls.{run_of}
use Rattle.run.proofs.dry.Readiness.{Going, Deciding}
use Rattle.run.proofs.dry.+coast_decide.Given as goal

abbrev pub decreases-coast : goal.decreases-coast
decreases-coast l = 2 * (l.run.n - l.run.position) + 1

abbrev pub decreases-decide : goal.decreases-decide
decreases-decide l = 2 * (l.run.n - l.run.position)

abbrev pub invariant-coast-loop-next : goal.invariant-coast-loop-next
invariant-coast-loop-next l =
    Going (record { order = []; limits = l.limits; worst = l.worst; bounds = l.bounds }) l.durations
    (record { levels = l.initial.given; decided = l.initial.marks }) (run_of l.initial.next)
    (record { levels = l.given; decided = l.marks }) (run_of l.next)

abbrev pub decreases-coast-loop-next : goal.decreases-coast-loop-next
decreases-coast-loop-next l = l.next.n - l.next.position

abbrev pub invariant-decide-loop-next : goal.invariant-decide-loop-next
invariant-decide-loop-next l =
    Deciding (record { order = []; limits = l.limits; worst = l.worst; bounds = l.bounds }) l.durations
    (record { levels = l.initial.given; decided = l.initial.marks }) (run_of l.initial.next)
    (record { levels = l.given; decided = l.marks }) (run_of l.next)

abbrev pub decreases-decide-loop-next : goal.decreases-decide-loop-next
decreases-decide-loop-next l = l.next.n - l.next.position
