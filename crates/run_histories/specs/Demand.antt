-- Demand 3 of the calls: what a history of askings and reports on a policy's tables keeps, whole or stopped early.
use Rattle.std.specs.Prelude.{ℕ, suc, ◌≤◌, ◌<◌, ◌≡◌, false, List, length, get_or}
use Rattle.rules.specs.Numbers.{longest_coast}
use Rattle.rules.specs.Limits.{Tables, Gives}
use Rattle.rules.specs.Run.{Run}
use Rattle.rules.specs.Demand.{Policy, plan_of, Kept}
use Rattle.run_histories.specs.History.{Asking, asking_at, clock_before, duration, decided_count}

-- In a history from a start at time t the accepted reports have the clocks ks, and the accepted askings answered xs.

-- No duration is above the worst time at the level answered.
abbrev pub WithinAnswered : Tables → ℕ → List ℕ → List Asking → Type 0
WithinAnswered S t ks xs = (j : ℕ) → j < length ks → duration t ks j ≤ S.worst j (asking_at xs j).level

-- What it keeps, with r the record after it.
pub record CallsKeep {S : Tables} (P : Policy S) (t : ℕ) (ks : List ℕ) (xs : List Asking) (r : Run) : Type 0 where
  -- No deadline is missed: every action that ended met its own.
  pub meets : (j : ℕ) → j < length ks → get_or ks j 0 ≤ S.deadline j
  -- Each action asked for got the level that the manager asked then and there gives, and was not late.
  pub asked : (j : ℕ) → j < length xs → Gives (plan_of P) (clock_before t ks j) j (asking_at xs j).level
  pub never_late : (j : ℕ) → j < length xs → (asking_at xs j).late ≡ false
  -- Neither mark is set, and the record counts the decided answers.
  pub no_overrun : r.overrun ≡ false
  pub no_late : r.late ≡ false
  pub counted : r.decisions ≡ decided_count xs
  -- Actions are asked for and ended by turns.
  pub begun_first : length ks ≤ length xs
  pub one_runs : length xs ≤ suc (length ks)
  pub in_cycle : length xs ≤ S.n
  -- Where all actions have ended, no way of coasting over these durations decides fewer times.
  pub whole : length ks ≡ S.n → Kept longest_coast P t (duration t ks) (λ j. (asking_at xs j).level) (decided_count xs)
