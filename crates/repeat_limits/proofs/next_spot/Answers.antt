-- The next place, or after the last one the first of the next body. Assumes nothing.
use native.Mathlib.Numerals.{add-one}
use native.Mathlib.Omega.{arith}
use Rattle.repeat_laws.proofs.Standing.{next_place, next-body}
use Rattle.repeat_limits.proofs.next_spot.Goals as goal

pub returns-then-next-body-clause-stands : goal.returns-then-next-body-clause-stands
returns-then-next-body-clause-stands c x s l = (next-body (omega (arith, c.requires.inside)) s (omega arith) l).1

pub returns-else-next-body-clause-stands : goal.returns-else-next-body-clause-stands
returns-else-next-body-clause-stands c x s l =
    rw add-one (next_place (omega (arith, c.requires.inside)) s (λ e. c.if-next-body.false (omega arith)))
