use mathlib.Core.Path.{◌≡◌}
use Prim.Native.Nat.{◌≤◌}
use Rattle.rules.proofs.Faults.{Faultless}
use Rattle.image_fields.specs.Faults.{row}
use Rattle.image_fields.proofs.Faults.{before, Breaks}
use Rattle.image_fields.proofs.scan.row_breaks.Given as goal

abbrev pub invariant-loop-q : goal.invariant-loop-q
invariant-loop-q l =
    (l.q ≤ l.levels)
    × (l.average_before ≡ before (row l.averages l.from) l.q)
    × (l.worst_before ≡ before (row l.worst l.from) l.q)
    × Faultless (Breaks (row l.averages l.from) (row l.worst l.from)) l.q
