-- The first k entries are read. Assumes nothing.
use native.Mathlib.Omega.{arith}
use borrow.Author.Rules.{rules}
use lib.IntN.{pos}
use Rattle.fields.proofs.Cats.{cat-none}
use Rattle.fields.proofs.Tabs.{tab-more}
use Rattle.fields.proofs.Written.{tab-written}
use Rattle.plan_entry.proofs.Signed.{as_is}
use Rattle.plan_entry.proofs.sixteen.Goals as goal

pub loop-k-init : goal.loop-k-init
loop-k-init c = (search rules, cat-none _ _ _)

pub loop-k-preserved : goal.loop-k-preserved
loop-k-preserved c =
    let t = c.loop-k in
    (search rules, tab-more _ _ 0 t.k t.k (omega arith) (omega arith) t.invariant.0 (as_is _ (omega arith)) t.invariant.1)

pub returns : goal.returns
returns c k h = tab-written _ _ c.loop-k.k (pos 0) c.loop-k.invariant.1 k (omega arith)
