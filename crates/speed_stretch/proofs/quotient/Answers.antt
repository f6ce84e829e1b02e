-- `speed_stretch::quotient` meets its contract: a number of 32 bits is a float. Assumes nothing.
use borrow.Author.Rules.{rules}
use lib.Ieee.{div}
use Rattle.rules.specs.Speed.{quotient}
use Rattle.speed_stretch.proofs.quotient.Goals as goal

pub returns : goal.returns
unfolding div quotient
returns c = search rules
