-- Assumes nothing.
use native.Mathlib.Omega.{arith}
use Rattle.rules.specs.Image.{ProfileTables, of_tables, level_image}
use Rattle.image_pack.specs.Packing.{tables_of, of_records}
use Rattle.image_pack.proofs.Sizes.{record_end}
use Rattle.image_pack.proofs.Images.{record_written}
use Rattle.image_pack.proofs.put_record.Goals as goal

pub put_be-requires : goal.put_be-requires
put_be-requires c = omega (arith, record_end c.args.levels c.args.a)

pub overflow_add-at : goal.overflow_add-at
overflow_add-at c = omega (arith, record_end c.args.levels c.args.a)

pub put_be-requires-2 : goal.put_be-requires-2
put_be-requires-2 c = omega (arith, record_end c.args.levels c.args.a)

pub overflow_add-at-2 : goal.overflow_add-at-2
overflow_add-at-2 c = omega (arith, record_end c.args.levels c.args.a)

pub put_levels-requires-clause-image_in_bounds : goal.put_levels-requires-clause-image_in_bounds
put_levels-requires-clause-image_in_bounds c = omega (arith, record_end c.args.levels c.args.a)

pub returns : goal.returns
unfolding of_tables level_image
returns c =
    let x = c.args in
    let T : ProfileTables = tables_of x.tables in
    record_written (of_records x.levels T) _ x.a _
    c.record_at-at.ensures c.requires.levels_in_bounds.0 c.put_be.auto.out c.put_be.ensures (rw c.from-deadline.ensures at c.put_be-2.ensures) c.put_levels.ensures
