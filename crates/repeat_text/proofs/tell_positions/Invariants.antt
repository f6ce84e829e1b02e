-- Each turn passes a position, and leaves a count of the buffer.
use Rattle.std.proofs.Common.{◌-◌, ◌*◌, ◌≤◌, ◌≡◌, length}
use Rattle.io.specs.Counts.{IsPrefixLen}
use Rattle.repeat_text.proofs.tell_positions.Given as goal

abbrev pub invariant-loop-next : goal.invariant-loop-next
invariant-loop-next g l = record {
  all : l.last ≡ l.body.repeats * l.body.n;
  long : length l.out ≡ length l.initial.out;
  most : l.next ≤ l.last;
  counts : IsPrefixLen l.end l.out;
}

abbrev pub decreases-loop-next : goal.decreases-loop-next
decreases-loop-next g l = l.last - l.next
