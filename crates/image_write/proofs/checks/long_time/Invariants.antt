use Prim.Native.Nat.{◌≤◌}
use Rattle.rules.specs.Image.{time_at}
use Rattle.rules.proofs.Faults.{Faultless}
use Rattle.image_write.proofs.Levels.{LongAt}
use Rattle.image_write.proofs.checks.long_time.Given as goal

abbrev pub invariant-loop-q : goal.invariant-loop-q
invariant-loop-q l =
    (l.q ≤ l.levels) × Faultless (LongAt (time_at l.levels l.averages l.a) (time_at l.levels l.worst l.a)) l.q
