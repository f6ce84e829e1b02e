use mathlib.Core.Path.{◌≡◌}
use lib.ListN.{length, get_or}
use Rattle.rules.specs.Words.{tab}
use Rattle.fields.specs.Fields.{splice}
use Rattle.refresh.proofs.copy_image.Given as goal

abbrev pub invariant-loop-k : goal.invariant-loop-k
invariant-loop-k l = (length l.out ≡ length l.initial.out) × (l.out ≡ splice l.initial.out 0 (tab (λ j. get_or l.image j 0) l.k))
