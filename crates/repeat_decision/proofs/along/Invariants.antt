use Prim.Native.Nat.{ℕ, ◌+◌, ◌-◌, ◌*◌, ◌<◌}
use mathlib.Core.Path.{◌≡◌}
use mathlib.Core.Bool.{false}
use Rattle.repeat_decision.specs.Decision.{stops_there, walked}
use Rattle.repeat_decision.proofs.along.Given as goal

abbrev pub invariant-loop-here : goal.invariant-loop-here
invariant-loop-here l =
    (steps : ℕ) × (l.here ≡ walked l.body l.worst l.initial.here steps)
    × ((k : ℕ) → k < steps → (l.initial.here.entry + k * l.body.levels < l.stop) × (stops_there l.body l.summaries (walked l.body l.worst l.initial.here k) l.level ≡ false))

abbrev pub decreases-loop-here : goal.decreases-loop-here
decreases-loop-here l = l.stop - l.here.entry
