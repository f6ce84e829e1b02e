use mathlib.Core.Path.{◌≡◌}
use Rattle.rules.specs.Image.{be}
use Rattle.fields.proofs.big_endian.Given as goal

abbrev pub invariant-loop-x : goal.invariant-loop-x
invariant-loop-x g l = l.n ≡ be l.s l.at l.x-index
