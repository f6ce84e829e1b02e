-- The limits before the level are put.
use Rattle.std.proofs.Common.{ℕ, ◌≤◌, ◌≡◌, List, ◌∷◌, length, get_or}
use Rattle.std.specs.Prelude.{ℤ, pos}
use Rattle.rules.specs.Words.{cat}
use Rattle.text.specs.Digits.{space, signed}
use Rattle.text.specs.Put.{Puts}
use Rattle.print.proofs.plan.put_limits.Given as goal

-- the limit at level q after a space
abbrev pub entry : List ℤ → ℕ → List ℕ
entry limits q = space ∷ signed (get_or limits q (pos 0))

abbrev pub invariant-loop-limit : goal.invariant-loop-limit
invariant-loop-limit l = (l.limit-index ≤ length l.limits) × (length l.out ≡ length l.initial.out) × Puts l.initial.out l.at (cat (entry l.limits) l.limit-index) l.out l.to
