-- The first k bytes are copied. Assumes nothing.
use native.Mathlib.Omega.{arith}
use borrow.Author.Rules.{rules}
use Rattle.fields.proofs.Cats.{cat-none}
use Rattle.fields.proofs.Tabs.{tab-more}
use Rattle.refresh.proofs.copy_image.Goals as goal

pub loop-k-init : goal.loop-k-init
loop-k-init c = (search rules, cat-none _ _ _)

pub loop-k-preserved : goal.loop-k-preserved
loop-k-preserved c =
    let t = c.loop-k in
    (search rules, tab-more _ _ 0 t.k t.k (omega arith) (omega arith) t.invariant.0 (search rules) t.invariant.1)
