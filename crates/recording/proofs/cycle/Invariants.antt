use Prim.Native.Nat.{◌-◌}
use mathlib.Core.Path.{◌≡◌}
use mathlib.Core.List.{[]}
use Rattle.run.specs.Calls.{run_of}
use Rattle.recording.specs.Cycle.{Cycling}
use Rattle.recording.proofs.cycle.Given as goal

-- At the head of a turn no coast is left.
abbrev pub invariant-loop-at : goal.invariant-loop-at
invariant-loop-at l =
    Cycling l.n l.levels (record { order = []; limits = l.limits; worst = l.worst; bounds = l.bounds }) l.frame (run_of l.at.run) l.at.lowest
    × (l.at.run.left ≡ 0)

abbrev pub decreases-loop-at : goal.decreases-loop-at
decreases-loop-at l = l.at.run.n - l.at.run.position
