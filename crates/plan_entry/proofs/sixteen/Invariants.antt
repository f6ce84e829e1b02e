use mathlib.Core.Path.{◌≡◌}
use Prim.Native.Nat.{◌+◌}
use lib.IntN.{pos}
use lib.ListN.{length, get_or, replicate}
use Rattle.rules.specs.Words.{tab}
use Rattle.fields.specs.Fields.{splice}
use Rattle.plan_entry.proofs.sixteen.Given as goal

abbrev pub invariant-loop-k : goal.invariant-loop-k
invariant-loop-k l = (length l.row ≡ 16) × (l.row ≡ splice (replicate 16 (pos 0)) 0 (tab (λ x. get_or l.bounds (l.at + x) (pos 0)) l.k))
