use mathlib.Core.List.{[]}
use Rattle.run_decision.proofs.Granting.{Going}
use Rattle.run_decision.proofs.left_granted.Given as goal

abbrev pub invariant-loop-x : goal.invariant-loop-x
invariant-loop-x l =
    Going l.n l.levels (record { order = []; limits = l.limits; worst = []; bounds = l.bounds }) l.t l.position l.level l.x l.left
