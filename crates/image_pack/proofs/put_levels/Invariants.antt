use mathlib.Core.Path.{◌≡◌}
use lib.ListN.{length}
use Rattle.rules.specs.Words.{cat}
use Rattle.rules.specs.Image.{level_image}
use Rattle.fields.specs.Fields.{splice}
use Rattle.image_pack.specs.Packing.{tables_of, of_records}
use Rattle.image_pack.proofs.put_levels.Given as goal

abbrev pub invariant-loop-q : goal.invariant-loop-q
invariant-loop-q l =
    (length l.image ≡ length l.initial.image)
    × (l.image
    ≡ splice l.initial.image l.at
    (cat (level_image (of_records l.levels (tables_of l.tables)) l.a) l.q))
