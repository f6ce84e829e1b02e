use mathlib.Core.Path.{◌≡◌}
use lib.ListN.{length}
use Rattle.rules.specs.Words.{tab, rows}
use Rattle.rules.specs.Image.{mask_of, deadline_of, average_of, worst_of}
use Rattle.fields.specs.Fields.{splice}
use Rattle.image_read.proofs.unpack.Given as goal

abbrev pub invariant-loop-a : goal.invariant-loop-a
invariant-loop-a l =
    (length l.masks ≡ length l.initial.masks)
    × (length l.deadlines ≡ length l.initial.deadlines)
    × (length l.averages ≡ length l.initial.averages)
    × (length l.worst ≡ length l.initial.worst)
    × (l.masks ≡ splice l.initial.masks 0 (tab (mask_of l.image) l.a))
    × (l.deadlines ≡ splice l.initial.deadlines 0 (tab (deadline_of l.image) l.a))
    × (l.averages ≡ splice l.initial.averages 0 (rows (average_of l.image) l.a l.levels))
    × (l.worst ≡ splice l.initial.worst 0 (rows (worst_of l.image) l.a l.levels))
