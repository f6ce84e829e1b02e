-- The lent tables of an accepted image: what they are worked from, row by row, and what they hold when all are written.
use Rattle.std.specs.Prelude.{ℕ, ◌+◌, ◌-◌, ◌*◌, ◌≤◌, ◌<◌, ◌≡◌, List, ℤ, length, get_or}
use Rattle.rules.specs.Numbers.{longest_coast}
use Rattle.rules.specs.Words.{cat, tab, rows}
use Rattle.rules.specs.Image.{average_of, worst_of, profile}
use Rattle.rules.specs.Order.{Order}
use Rattle.rules.specs.Limits.{tables, limit_by, LentTables, coast_bounds, planner_tables}
use Rattle.rules.specs.Refusals.{Accepted}
use Rattle.fields.specs.Fields.{splice}
use Rattle.image_fields.specs.Reading.{HasRecord}
use Rattle.plan_entry.specs.Rows.{limits_of, row_of, SmallRow}
use Rattle.plan_entry.specs.Bounds.{bounds_by, bound_in, Spares}

-- what the check says of an accepted image s: n, its levels and its cycle, and its actions in the order o
pub record PlanInput (s : List ℕ) (n L cycle : ℕ) (actions : List ℕ) (o : Order (profile s).n) : Type 0 where
  pub accepted : Accepted s
  pub n_is : n ≡ (profile s).n
  pub levels_are : L ≡ (profile s).levels
  pub cycle_is : cycle ≡ (profile s).cycle
  pub lists : (k : ℕ) → k < (profile s).n → get_or actions k 0 ≡ o.at k

-- so of some order
abbrev pub SomePlanInput : List ℕ → ℕ → ℕ → ℕ → List ℕ → Type 0
SomePlanInput s n L cycle actions = (o : Order (profile s).n) × PlanInput s n L cycle actions o

-- room for so many entries by position and level
pub record EntriesFit (entries : ℕ) (lent : LentTables) : Type 0 where
  pub limits_room : entries ≤ length lent.limits
  pub worst_room : entries ≤ length lent.worst
  pub bounds_room : entries * longest_coast ≤ length lent.bounds

-- what the row of action a is worked from: its record, the row after it as it is held to the deadline, and the coast bounds of the position after it
pub record CanWork (s : List ℕ) (L a due : ℕ) (held : List ℤ) (from entries : ℕ) (lent : LentTables) : Type 0 where
  pub present : HasRecord s L a
  pub small : SmallRow held (average_of s a) (worst_of s a) due L
  pub spares : (q k : ℕ) → q < L → k < longest_coast - 1 → Spares (worst_of s a q) (bound_in lent.bounds entries (from + q + L) k)
  pub inside : from + L ≤ entries
  pub room : EntriesFit entries lent

-- the limits worked and stored, with the worst times and the coast bounds, and the row that is carried on
pub record Works (s : List ℕ) (L policy a due : ℕ) (held : List ℤ) (from entries : ℕ) (before after : LentTables) (row : List ℤ) : Type 0 where
  pub row_is : row ≡ row_of policy held (average_of s a) (worst_of s a) due L
  pub limits_are : after.limits ≡ splice before.limits from (tab (limits_of held (average_of s a) (worst_of s a) due) L)
  pub worst_is : after.worst ≡ splice before.worst from (tab (worst_of s a) L)
  pub bounds_are : after.bounds
      ≡ splice before.bounds (from * longest_coast)
      (cat (λ q. bounds_by (limits_of held (average_of s a) (worst_of s a) due q) (worst_of s a q) (bound_in before.bounds entries (from + q + L))) L)

-- all rows stored, by a policy and of the order o: n positions at L levels
pub record RowsFilled (s : List ℕ) (policy n L : ℕ) (before after : LentTables) (o : Order (profile s).n) : Type 0 where
  pub limits_are : after.limits ≡ splice before.limits 0 (rows (limit_by policy (tables (profile s) o)) n L)
  pub worst_is : after.worst ≡ splice before.worst 0 (rows (tables (profile s) o).worst n L)
  pub bounds_are : after.bounds ≡ splice before.bounds 0 (coast_bounds (tables (profile s) o) (limit_by policy (tables (profile s) o)) n L)

-- lent tables with others written at their fronts; their tails are kept
abbrev pub with_fronts : LentTables → LentTables → LentTables
with_fronts lent new = record {
  order = splice lent.order 0 new.order;
  limits = splice lent.limits 0 new.limits;
  worst = splice lent.worst 0 new.worst;
  bounds = splice lent.bounds 0 new.bounds;
}

-- all four tables written, by a policy and of the order o
abbrev pub AllFilled : (s : List ℕ) (policy : ℕ) (before after : LentTables) → Order (profile s).n → Type 0
AllFilled s policy before after o = after ≡ with_fronts before (planner_tables policy (profile s) o)
