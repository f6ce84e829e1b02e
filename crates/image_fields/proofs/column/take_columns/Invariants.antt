use mathlib.Core.Path.{◌≡◌}
use Prim.Native.Nat.{◌≤◌}
use lib.ListN.{length}
use Rattle.image_fields.specs.Reading.{Columns}
use Rattle.image_fields.proofs.column.take_columns.Given as goal

abbrev pub invariant-loop-a : goal.invariant-loop-a
invariant-loop-a l =
    (l.a ≤ l.n)
    × (length l.masks ≡ length l.initial.masks)
    × (length l.deadlines ≡ length l.initial.deadlines)
    × (length l.worst ≡ length l.initial.worst)
    × Columns l.image l.a l.masks l.deadlines l.worst
