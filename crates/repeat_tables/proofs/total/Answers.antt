-- The level 0 worst times of the actions below a. Assumes nothing.
use native.Mathlib.Omega.{arith}
use Rattle.fields.proofs.Bytes.{Bytes}
use Rattle.image_fields.proofs.Reading.{has_record, worst-short}
use Rattle.repeat_tables.proofs.Repeating.{total-none, total-more, total-within}
use Rattle.repeat_tables.proofs.total.Goals as goal

pub loop-a-init : goal.loop-a-init
loop-a-init c = total-none _

pub worst_at-total-requires : goal.worst_at-total-requires
worst_at-total-requires c =
    let has = c.requires in
    (has_record _ has (omega arith), has.some_level)

pub overflow_add-total : goal.overflow_add-total
overflow_add-total c =
    let s = c.args.image.now in
    let bytes : Bytes s = λ k. (c.type_inv.image k).fits in
    omega (
      arith,
      c.worst_at-total.ensures,
      worst-short s c.loop-a.a 0 bytes,
      c.loop-a.invariant,
      total-within s c.loop-a.a bytes,
      c.requires.few_actions,
    )

pub loop-a-preserved : goal.loop-a-preserved
loop-a-preserved c = total-more _ c.loop-a.a c.worst_at-total.ensures c.loop-a.invariant
