use native.Mathlib.Omega.{arith}
use lib.ListN.{length-set}
use borrow.Author.Rules.{rules}
use Rattle.fields.proofs.Cats.{cat-none}
use Rattle.fields.proofs.Tabs.{tab-more}
use Rattle.image_fields.proofs.column.take_row.Goals as goal

pub loop-q-init : goal.loop-q-init
loop-q-init c = (search rules, search rules, search rules, cat-none _ _ _, cat-none _ _ _)

pub loop-q-preserved : goal.loop-q-preserved
loop-q-preserved c = (
  search rules,
  simp length-set (omega arith),
  simp length-set (omega arith),
  tab-more _ _ _ _ c.loop-q.q (omega arith) (omega arith) (omega arith) (search rules) c.loop-q.invariant.3,
  tab-more _ _ _ _ c.loop-q.q (omega arith) (omega arith) (omega arith) (search rules) c.loop-q.invariant.4,
)
