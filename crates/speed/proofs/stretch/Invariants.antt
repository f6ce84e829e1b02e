use Prim.Native.Nat.{◌+◌, ◌≤◌}
use Rattle.speed_stretch.specs.Stretch.{StretchOf}
use Rattle.speed.specs.Speed.{listed}
use Rattle.speed.proofs.stretch.Given as goal

abbrev pub invariant-loop-j : goal.invariant-loop-j
invariant-loop-j l = (l.first ≤ l.j) × (l.j ≤ l.last + 1) × StretchOf (listed l.image l.actions) l.j l.last l.level l.s
