use mathlib.Core.Path.{◌≡◌}
use mathlib.Core.List.{[]}
use lib.ListN.{length}
use Rattle.rules.specs.Image.{profile}
use Rattle.rules.specs.Order.{Order}
use Rattle.rules.specs.Limits.{tables}
use Rattle.repeat_tables.specs.Summing.{BodyInput, carried}
use Rattle.repeat_tables.proofs.Summing.{Back}
use Rattle.repeat_tables.proofs.sum_rows.Given as goal

abbrev pub invariant-loop-i : goal.invariant-loop-i
invariant-loop-i l =
    (length l.summaries ≡ length l.initial.summaries)
    × (length l.worst ≡ length l.initial.worst)
    × (length l.averages ≡ 8)
    × (length l.mixes ≡ 8)
    × (length l.worsts ≡ 8)
    × ((o : Order (profile l.image).n) → BodyInput l.image l.n l.levels l.actions o
    → Back l.policy (tables (profile l.image) o) l.n l.levels (record { order = []; summaries = l.initial.summaries; worst = l.initial.worst }) l.i (carried l.averages l.lowest l.mixes l.worsts)
    (record { order = []; summaries = l.summaries; worst = l.worst }))
