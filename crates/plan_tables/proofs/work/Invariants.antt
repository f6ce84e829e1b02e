use mathlib.Core.Path.{◌≡◌}
use mathlib.Core.List.{[]}
use lib.ListN.{length}
use Rattle.rules.specs.Image.{profile}
use Rattle.rules.specs.Order.{Order}
use Rattle.rules.specs.Limits.{tables}
use Rattle.plan_tables.specs.Filling.{PlanInput}
use Rattle.plan_tables.proofs.Working.{Back}
use Rattle.plan_tables.proofs.work.Given as goal

abbrev pub invariant-loop-i : goal.invariant-loop-i
invariant-loop-i l =
    (length l.limits ≡ length l.initial.limits)
    × (length l.worst ≡ length l.initial.worst)
    × (length l.bounds ≡ length l.initial.bounds)
    × ((o : Order (profile l.image).n) → PlanInput l.image l.n l.levels l.cycle l.actions o
    → Back l.policy (tables (profile l.image) o) l.n l.levels (record { order = []; limits = l.initial.limits; worst = l.initial.worst; bounds = l.initial.bounds }) l.i l.next
    (record { order = []; limits = l.limits; worst = l.worst; bounds = l.bounds }))
