use native.Mathlib.Omega.{arith}
use Rattle.image_fields.specs.Reading.{HasRecord}
use Rattle.image_fields.proofs.Reading.{has_record}
use Rattle.image_fields.proofs.column.take_columns.Goals as goal
use Rattle.image_fields.proofs.column.take_columns.Goals.{In-loop-a}

-- the record of the turn's action is there
present : (c : In-loop-a)
    → let x = c.args in
    HasRecord x.image.now x.levels c.loop-a.a
present c = has_record _ c.requires.0 (omega arith)

pub mask_at-requires : goal.mask_at-requires
mask_at-requires c = present (goal.at.mask_at-requires c).In-loop-a

pub deadline_at-requires : goal.deadline_at-requires
deadline_at-requires c = present (goal.at.deadline_at-requires c).In-loop-a

pub worst_at-requires : goal.worst_at-requires
worst_at-requires c = (present (goal.at.worst_at-requires c).In-loop-a, omega arith)
