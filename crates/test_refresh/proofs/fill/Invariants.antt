use mathlib.Core.Path.{◌≡◌}
use lib.ListN.{length}
use Rattle.test_refresh.proofs.fill.Given as goal

abbrev pub invariant-loop-r : goal.invariant-loop-r
invariant-loop-r l = length l.trace ≡ length l.initial.trace
