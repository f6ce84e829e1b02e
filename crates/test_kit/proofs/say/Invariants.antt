-- The index stays within the words.
use Rattle.std.proofs.Common.{length, ◌≤◌}
use Rattle.test_kit.proofs.say.Given as goal

abbrev pub invariant-loop-n : goal.invariant-loop-n
invariant-loop-n g l = l.from ≤ length l.words
