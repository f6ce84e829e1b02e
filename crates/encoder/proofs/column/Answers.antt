-- A turn of the loop stores one entry of the column. Assumes nothing.
use mathlib.Core.Path.{refl}
use native.Mathlib.Omega.{arith}
use lib.ListN.{length-set}
use Rattle.rules.specs.Words.{cat}
use Rattle.fields.specs.Fields.{splice}
use Rattle.fields.proofs.Cats.{cat-none, cat_done}
use Rattle.fields.proofs.Tabs.{tab-more}
use Rattle.encoder.specs.Times.{column}
use Rattle.encoder.proofs.column.Goals as goal

pub loop-k-init : goal.loop-k-init
loop-k-init c = (refl, cat-none _ _ 0)

pub loop-k-preserved : goal.loop-k-preserved
loop-k-preserved c =
    let i = c.loop-k in (
      simp length-set i.invariant.0,
      tab-more _ _ 0 i.k i.k (omega arith) (omega arith) i.invariant.0 refl i.invariant.1,
    )

pub returns : goal.returns
unfolding cat splice column
returns c = cat_done _ _ 0 c.loop-k.k 72 (omega arith) c.loop-k.invariant.1
