use mathlib.Core.Path.{◌≡◌}
use Prim.Native.Nat.{◌≤◌}
use lib.ListN.{length}
use Rattle.rules.specs.Words.{tab}
use Rattle.rules.specs.Image.{average_of, worst_of}
use Rattle.fields.specs.Fields.{splice}
use Rattle.image_fields.proofs.column.take_row.Given as goal

abbrev pub invariant-loop-q : goal.invariant-loop-q
invariant-loop-q l =
    (l.q ≤ l.levels)
    × (length l.averages ≡ length l.initial.averages)
    × (length l.worst ≡ length l.initial.worst)
    × (l.averages ≡ splice l.initial.averages l.from (tab (average_of l.image l.a) l.q))
    × (l.worst ≡ splice l.initial.worst l.from (tab (worst_of l.image l.a) l.q))
