-- Where the entries of a position and a level lie in the lent tables. Assumes nothing.
use Prim.Native.Nat.{ℕ, ◌+◌, ◌*◌, ◌≤◌}
use native.Mathlib.Nat.{mul-le-mul, mul-le-mul_right}
use native.Mathlib.Omega.{arith}
use Rattle.rules.specs.Limits.{LentTables}
use Rattle.run_decision.specs.Decision.{Cell}

-- the position's row ends within the table, and the table is not long
pub record Placed (n L i : ℕ) : Type 0 where
  pub row : i * L + L ≤ n * L
  pub few : n * L ≤ 512

pub placed : {n L i q : ℕ} {T : LentTables} → Cell n L T i q → Placed n L i
placed {n} {L} {i} c = record { row = omega (arith, mul-le-mul_right L c.position); few = mul-le-mul c.few c.few_levels }
