use native.Mathlib.Omega.{arith}
use borrow.Author.Rules.{rules}
use borrow.Author.Count.{below_more}
use Rattle.rules.proofs.Faults.{lowest-none}
use Rattle.image_fields.proofs.Faults.{denied}
use Rattle.image_fields.proofs.scan.range_fault.Goals as goal

pub loop-a-preserved : goal.loop-a-preserved
loop-a-preserved c = (
  search rules,
  below_more _ _ c.loop-a.invariant.1 (denied c.out_of_range.ensures c.if-out_of_range.false),
)

pub returns : goal.returns
returns c = lowest-none (omega arith) c.loop-a.invariant.1
