use native.Mathlib.Omega.{arith}
use Rattle.image_fields.proofs.Reading.{has_record}
use Rattle.image_fields.proofs.scan.spare_fault.Goals as goal

pub spare_at-requires : goal.spare_at-requires
spare_at-requires c = has_record _ c.requires (omega arith)
