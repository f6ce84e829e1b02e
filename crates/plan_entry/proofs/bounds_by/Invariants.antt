use mathlib.Core.Path.{◌≡◌}
use Prim.Native.Nat.{◌+◌}
use lib.IntN.{pos}
use lib.ListN.{length, get_or}
use Rattle.rules.specs.Words.{tab}
use Rattle.fields.specs.Fields.{splice}
use Rattle.plan_entry.specs.Bounds.{bound_by}
use Rattle.plan_entry.proofs.bounds_by.Given as goal

abbrev pub invariant-loop-k : goal.invariant-loop-k
invariant-loop-k l =
    (length l.out ≡ length l.initial.out) × (l.out ≡ splice l.initial.out (l.at + 1) (tab (λ x. bound_by l.limit l.worst (get_or l.after x (pos 0))) l.k))
