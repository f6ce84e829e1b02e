use Prim.Native.Nat.{◌+◌, ◌*◌, ◌≤◌}
use mathlib.Core.Path.{◌≡◌}
use lib.ListN.{length}
use Rattle.rules.specs.Numbers.{most_levels}
use Rattle.rules.specs.Words.{tab}
use Rattle.rules.specs.Image.{worst_of}
use Rattle.fields.specs.Fields.{splice}
use Rattle.refresh.proofs.ceiling_row.Given as goal

abbrev pub invariant-loop-q : goal.invariant-loop-q
invariant-loop-q l =
    (l.q ≤ l.levels) × (length l.ceilings ≡ length l.initial.ceilings) × (l.ceilings ≡ splice l.initial.ceilings (l.a * most_levels) (tab (λ p. worst_of l.image l.a p + 1) l.q))
