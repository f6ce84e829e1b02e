use mathlib.Core.List.{[]}
use Rattle.repeat_decision.proofs.Coasts.{Setting, Coast}
use Rattle.repeat_decision.proofs.left_walked.Given as goal

abbrev pub invariant-loop-here : goal.invariant-loop-here
invariant-loop-here l =
    (S : Setting l.body (record { order = []; summaries = l.summaries; worst = l.worst }) l.place l.after l.t l.level l.end) × Coast S l.here

abbrev pub decreases-loop-here : goal.decreases-loop-here
decreases-loop-here l = l.here.rest
