use native.Mathlib.Omega.{arith}
use borrow.Author.Rules.{rules}
use borrow.Author.Count.{below_more}
use Rattle.rules.proofs.Faults.{lowest-none}
use Rattle.image_fields.proofs.Reading.{has_record}
use Rattle.image_fields.proofs.Faults.{denied}
use Rattle.image_fields.proofs.scan.table_fault.Goals as goal

pub record_breaks-requires : goal.record_breaks-requires
record_breaks-requires c = has_record _ c.requires (omega arith)

pub loop-a-preserved : goal.loop-a-preserved
loop-a-preserved c = (
  search rules,
  below_more _ _ c.loop-a.invariant.1 (denied c.record_breaks.ensures c.if-record_breaks.false),
)

pub returns : goal.returns
returns c = lowest-none (omega arith) c.loop-a.invariant.1
