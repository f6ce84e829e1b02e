use mathlib.Core.Path.{◌≡◌}
use Prim.Native.Nat.{ℕ, ◌≤◌}
use lib.ListN.{length, get_or}
use Rattle.sets.proofs.Lists.{Filled}
use Rattle.order_line.proofs.number.Given as goal

abbrev pub invariant-loop-k : goal.invariant-loop-k
invariant-loop-k l = (length l.at ≡ 64) × Filled (λ j. j) l.k l.at × ((j : ℕ) → l.k ≤ j → get_or l.at j 0 ≡ get_or l.initial.at j 0)
