use Rattle.order_loops.proofs.Collecting.{empty_collected}
use Rattle.order_loops.proofs.first_looped.Goals as goal

pub returns-then-set-eq0 : goal.returns-then-set-eq0
returns-then-set-eq0 c = empty_collected _ _ c.looped-set.ensures c.if-set-eq0.true
