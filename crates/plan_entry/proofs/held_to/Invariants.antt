use mathlib.Core.Path.{◌≡◌}
use lib.IntN.{pos}
use lib.ListN.{length, get_or, replicate}
use Rattle.rules.specs.Words.{minZ, tab}
use Rattle.fields.specs.Fields.{splice}
use Rattle.plan_entry.proofs.held_to.Given as goal

abbrev pub invariant-loop-q : goal.invariant-loop-q
invariant-loop-q l =
    (length l.held ≡ 8) × (l.held ≡ splice (replicate 8 (pos 0)) 0 (tab (λ x. minZ (pos l.deadline) (get_or l.next x (pos 0))) l.q))
