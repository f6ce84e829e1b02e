-- The loop has found no action below a at fault. Assumes nothing.
use native.Mathlib.Omega.{arith}
use borrow.Author.Rules.{rules}
use borrow.Author.Count.{below_more}
use Rattle.rules.proofs.Faults.{lowest-none}
use Rattle.image_fields.proofs.Faults.{denied}
use Rattle.image_write.proofs.checks.table.Goals as goal

pub loop-a-preserved : goal.loop-a-preserved
loop-a-preserved c = (
  search rules,
  below_more _ _ c.loop-a.invariant.1 (denied c.row_breaks.ensures c.if-row_breaks.false),
)

pub returns : goal.returns
returns c = lowest-none (omega arith) c.loop-a.invariant.1
