-- The lines of the positions before the index are put.
use mathlib.Core.Path.{◌≡◌}
use lib.ListN.{length}
use Rattle.io.specs.Counts.{IsPrefixLen}
use Rattle.test_repeats.proofs.put_steps.Given as goal

abbrev pub invariant-loop-i : goal.invariant-loop-i
invariant-loop-i l = (length l.out ≡ length l.initial.out) × IsPrefixLen l.to l.out
