-- A frame fits into the buffer, and a line begins within `out`.
use Rattle.std.proofs.Common.{◌≡◌, length}
use Rattle.io.specs.Counts.{IsPrefixLen}
use Rattle.rehearsal.proofs.rehearse_frames.Given as goal

abbrev pub invariant-loop-k : goal.invariant-loop-k
invariant-loop-k g l = record { long : length l.out ≡ length l.initial.out; at_in : IsPrefixLen l.at l.out; room : 2048 ≡ length l.frame }
