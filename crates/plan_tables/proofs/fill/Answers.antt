-- Assumes nothing.
use Rattle.plan_tables.proofs.Filling.{all_filled}
use Rattle.plan_tables.proofs.fill.Goals as goal

pub returns : goal.returns
returns c o g = all_filled g _ _ _ c.copy_front.ensures (c.work.ensures o g)
