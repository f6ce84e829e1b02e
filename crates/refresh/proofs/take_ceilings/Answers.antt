-- The loop has stored the rows of the actions below a. Assumes nothing.
use native.Mathlib.Omega.{arith}
use borrow.Author.Rules.{rules}
use Rattle.image_fields.proofs.Reading.{has_record}
use Rattle.refresh.proofs.Ceilings.{more_ceiled}
use Rattle.refresh.proofs.take_ceilings.Goals as goal

pub ceiling_row-requires : goal.ceiling_row-requires
ceiling_row-requires c =
    (has_record c.loop-a.a c.requires.0 (omega arith), c.loop-a.invariant.1.size)

pub loop-a-preserved : goal.loop-a-preserved
loop-a-preserved c =
    let was = c.loop-a in
    let x = c.args in
    let has = c.requires.0 in
    (search rules, more_ceiled x.image.now _ was.a x.levels (omega (arith, has.few_actions)) has.few_levels c.ceiling_row.ensures was.invariant.1)
