-- The order, then the two tables. Assumes nothing.
use Rattle.repeat_tables.proofs.Summing.{all_filled}
use Rattle.repeat_tables.proofs.fill.Goals as goal

pub returns : goal.returns
returns c o g = all_filled g _ _ _ c.copy_front.ensures (c.sum_rows.ensures o g)
