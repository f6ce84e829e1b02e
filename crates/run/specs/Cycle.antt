-- What the functions of the dry run say to each other: the cycle from a record on.
use Rattle.std.specs.Prelude.{ℕ, zero, suc, ◌-◌, ◌*◌, ◌≤◌, ◌<◌, ◌≡◌, true, false, List, length, get_or}
use Rattle.rules.specs.Numbers.{longest_time, longest_coast}
use Rattle.rules.specs.Words.{tab, one_if}
use Rattle.rules.specs.Limits.{LentTables}
use Rattle.rules.specs.Run.{Run, in_range, decides, lent}
use Rattle.rules.specs.Dry.{step, cell}
use Rattle.fields.specs.Fields.{splice}
use Rattle.run.specs.Dry.{DryLists}

-- One action on, at n and L.
abbrev pub one_on : LentTables → List ℕ → ℕ → ℕ → Run → Run
one_on T durations n L r = step longest_coast (lent n L T) (cell T.worst L) (cell durations L) r

-- The record k actions after r.
unfoldable pub onward : LentTables → List ℕ → Run → ℕ → Run
onward T durations r zero = r
onward T durations r (suc k) = one_on T durations r.n r.levels (onward T durations r k)

-- The levels and the decided marks of the k actions after r.
unfoldable pub levels_on : LentTables → List ℕ → Run → ℕ → List ℕ
levels_on T durations r k = tab (λ j. (onward T durations r (suc j)).level) k

unfoldable pub marks_on : LentTables → List ℕ → Run → ℕ → List ℕ
marks_on T durations r k = tab (λ j. one_if (decides (onward T durations r j))) k

-- A record that waits for its next action, with all the entries that the rest of its cycle reads and writes.
pub record Waiting (T : LentTables) (durations : List ℕ) (lists : DryLists) (r : Run) : Type 0 where
  pub ranged : in_range r ≡ true
  pub waits : r.running ≡ false
  pub limited : r.n * r.levels ≤ length T.limits
  pub timed : r.n * r.levels ≤ length T.worst
  pub bounded : r.n * r.levels * longest_coast ≤ length T.bounds
  pub lasting : r.n * r.levels ≤ length durations
  pub gives : r.n ≤ length lists.levels
  pub marked : r.n ≤ length lists.decided
  pub early : r.clock ≤ r.position * longest_time
  pub short : (k : ℕ) → k < r.n * r.levels → get_or durations k 0 ≤ longest_time

-- One whose action runs.
pub record Running (T : LentTables) (durations : List ℕ) (r : Run) : Type 0 where
  pub ranged : in_range r ≡ true
  pub runs : r.running ≡ true
  pub timed : r.n * r.levels ≤ length T.worst
  pub lasting : r.n * r.levels ≤ length durations
  pub early : r.clock ≤ r.position * longest_time
  pub short : (k : ℕ) → k < r.n * r.levels → get_or durations k 0 ≤ longest_time

-- The rest of the cycle from r on: what the two lists hold before and after, and the last record.
pub record Rest (T : LentTables) (durations : List ℕ) (before after : DryLists) (r last : Run) : Type 0 where
  pub levels : after.levels ≡ splice before.levels r.position (levels_on T durations r (r.n - r.position))
  pub decided : after.decided ≡ splice before.decided r.position (marks_on T durations r (r.n - r.position))
  pub ends : last ≡ onward T durations r (r.n - r.position)
