use Rattle.order_line.proofs.Numbering.{tested-more, lower-exact}
use Rattle.order_line.proofs.lower_alone.Goals as goal

pub loop-a-preserved : goal.loop-a-preserved
loop-a-preserved c =
    tested-more _ _ _ _ (lower-exact _ _ (c.type_inv.masks c.loop-a.a).fits) c.loop-a.invariant
