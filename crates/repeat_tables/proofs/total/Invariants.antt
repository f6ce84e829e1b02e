use mathlib.Core.Path.{◌≡◌}
use Rattle.repeat_tables.proofs.Repeating.{total_below}
use Rattle.repeat_tables.proofs.total.Given as goal

abbrev pub invariant-loop-a : goal.invariant-loop-a
invariant-loop-a l = (l.total ≡ total_below l.image l.a)
