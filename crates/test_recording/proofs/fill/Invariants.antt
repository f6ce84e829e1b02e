-- The frame keeps its length.
use Rattle.std.proofs.Common.{◌≡◌, length}
use Rattle.test_recording.proofs.fill.Given as goal

abbrev pub invariant-loop-k : goal.invariant-loop-k
invariant-loop-k l = length l.frame ≡ length l.initial.frame
