use Prim.Native.Nat.{ℕ, ◌+◌}
use mathlib.Core.Path.{◌≡◌}
use mathlib.Core.Bool.{Bool}
use mathlib.Core.List.{List}
use lib.IntN.{ℤ, pos}
use lib.ListN.{get_or}
use lib.Signed.{le_z}
use Rattle.rules.specs.Words.{last_passing}
use Rattle.run_decision.proofs.last_within.Given as goal

abbrev pub passes : List ℤ → ℕ → ℕ → ℕ → Bool
passes table from t k = le_z (pos t) (get_or table (from + k) (pos 0))

abbrev pub invariant-loop-k : goal.invariant-loop-k
invariant-loop-k l = last_passing (passes l.table l.from l.t) l.many ≡ last_passing (passes l.table l.from l.t) l.k
