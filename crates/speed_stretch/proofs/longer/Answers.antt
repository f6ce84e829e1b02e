-- `speed_stretch::longer` meets its contract: the new margin is the greater of that of the position in front and the old one. Assumes nothing.
use native.Mathlib.Omega.{arith}
use Rattle.speed_stretch.proofs.Stretches.{lengthened}
use Rattle.speed_stretch.proofs.longer.Goals as goal

pub returns : goal.returns
returns c = λ S j i k q after l a w z of. lengthened S j k q l _ _ (rw after at of) (omega arith) (omega arith) (omega arith)
