use mathlib.Core.Path.{◌≡◌}
use lib.ListN.{length}
use Rattle.rules.specs.Words.{cat}
use Rattle.rules.specs.Numbers.{header_bytes}
use Rattle.rules.specs.Image.{record_image}
use Rattle.fields.specs.Fields.{splice}
use Rattle.image_pack.specs.Packing.{tables_of, of_records}
use Rattle.image_pack.proofs.put_records.Given as goal

abbrev pub invariant-loop-a : goal.invariant-loop-a
invariant-loop-a l =
    (length l.image ≡ length l.initial.image)
    × (l.image
    ≡ splice l.initial.image header_bytes
    (cat (record_image (of_records l.levels (tables_of l.tables))) l.a))
