use Prim.Native.Nat.{suc}
use mathlib.Core.Path.{◌≡◌}
use mathlib.Core.List.{[]}
use lib.ListN.{length}
use Rattle.rules.specs.Words.{tab, one_if}
use Rattle.rules.specs.Run.{decides}
use Rattle.fields.specs.Fields.{splice}
use Rattle.repeat_run.specs.Calls.{steps_of}
use Rattle.repeat_frame.specs.Walk.{walk_at}
use Rattle.repeat_frame.proofs.walk.Given as goal

abbrev pub invariant-loop-at : goal.invariant-loop-at
invariant-loop-at l =
    (length l.given ≡ length l.initial.given)
    × (length l.marks ≡ length l.initial.marks)
    × (l.run.body ≡ l.fn.body)
    × (steps_of l.run ≡ walk_at l.fn.body (record { order = []; summaries = l.summaries; worst = l.worst }) l.durations l.at)
    × (l.given ≡ splice l.initial.given 0 (tab (λ j. (walk_at l.fn.body (record { order = []; summaries = l.summaries; worst = l.worst }) l.durations (suc j)).level) l.at))
    × (l.marks ≡ splice l.initial.marks 0 (tab (λ j. one_if (decides (walk_at l.fn.body (record { order = []; summaries = l.summaries; worst = l.worst }) l.durations j))) l.at))
