use Rattle.rules.specs.Image.{profile}
use Rattle.rules.specs.Repeat.{OwnDeadline}
use Rattle.rules.proofs.Faults.{Faultless}
use Rattle.repeat_tables.proofs.other_deadline.Given as goal

abbrev pub invariant-loop-a : goal.invariant-loop-a
invariant-loop-a l = Faultless (OwnDeadline (profile l.image)) l.a
