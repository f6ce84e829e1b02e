use mathlib.Core.Path.{refl}
use borrow.Author.Rules.{rules}
use borrow.Author.Count.{below_more}
use Rattle.image_fields.specs.Faults.{row}
use Rattle.image_fields.proofs.Faults.{denied, before-next, level-says}
use Rattle.image_fields.proofs.scan.row_breaks.Goals as goal

pub loop-q-preserved : goal.loop-q-preserved
loop-q-preserved c =
    let x = c.args in (
      search rules,
      before-next (row x.averages.now x.from) c.loop-q.q refl,
      before-next (row x.worst.now x.from) c.loop-q.q refl,
      below_more _ _ c.loop-q.invariant.3 (denied (level-says (row x.averages.now x.from) (row x.worst.now x.from) c.loop-q.q refl refl c.loop-q.invariant.1 c.loop-q.invariant.2 c.level_breaks.ensures) c.if-level_breaks.false),
    )
