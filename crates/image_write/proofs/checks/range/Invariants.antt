use Prim.Native.Nat.{◌≤◌}
use Rattle.rules.specs.Image.{of_tables}
use Rattle.rules.specs.Refusals.{WriteFault}
use Rattle.rules.proofs.Faults.{Faultless}
use Rattle.image_pack.specs.Packing.{tables_of}
use Rattle.image_write.proofs.checks.range.Given as goal

abbrev pub invariant-loop-a : goal.invariant-loop-a
invariant-loop-a l =
    (l.a ≤ l.n)
    × Faultless (WriteFault (of_tables l.n l.levels l.cycle (tables_of l.tables))) l.a
