-- What a decision needs.
use Rattle.std.specs.Prelude.{ℕ, ◌*◌, ◌≤◌, ◌<◌, length}
use Rattle.rules.specs.Numbers.{most_actions, most_levels, longest_coast}
use Rattle.rules.specs.Limits.{LentTables}

-- A position i and a level q of n by L, and as many limits and coast bounds lent as these have.
pub record Cell (n L : ℕ) (T : LentTables) (i q : ℕ) : Type 0 where
  pub few : n ≤ most_actions
  pub few_levels : L ≤ most_levels
  pub position : i < n
  pub level : q < L
  pub limited : n * L ≤ length T.limits
  pub bounded : n * L * longest_coast ≤ length T.bounds
