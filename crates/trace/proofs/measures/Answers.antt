-- `trace::measures` meets its contract. Assumes nothing.
use Rattle.trace.proofs.Entries.{closed_measures, open_measures}
use Rattle.trace.proofs.measures.Goals as goal

pub returns-then-e : goal.returns-then-e
returns-then-e c = open_measures _ c.if-e.true

pub returns-else-e : goal.returns-else-e
returns-else-e c = closed_measures _ c.if-e.false
