-- Each turn is a decision and its coast, until no action remains. Assumes nothing.
use mathlib.Core.Path.{ap}
use native.Mathlib.Omega.{arith}
use Rattle.rules.specs.Run.{Run, begun}
use Rattle.rules.proofs.Calls.{InRange, in_range_facts}
use Rattle.recording.proofs.Cycling.{cycling-none, cycled}
use Rattle.recording.proofs.cycle.Goals as goal
use Rattle.recording.proofs.cycle.Goals.{Start}

-- n and L are in their ranges
counts : (c : Start) → InRange (begun c.args.n c.args.levels 0)
counts c = in_range_facts _ c.requires.ranged

pub overflow_cast-n : goal.overflow_cast-n
unfolding begun
overflow_cast-n c = omega (arith, counts (goal.at.overflow_cast-n c).Start)

pub overflow_cast-levels : goal.overflow_cast-levels
unfolding begun
overflow_cast-levels c = omega (arith, counts (goal.at.overflow_cast-levels c).Start)

pub loop-at-init : goal.loop-at-init
unfolding begun
loop-at-init c =
    let e = c.begun-run.ensures in
    (cycling-none _ _ _ _ e c.requires, ap (λ (s : Run). s.left) e)

pub returns : goal.returns
returns c = cycled c.loop-at.invariant.0 (omega arith)
