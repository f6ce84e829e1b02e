-- Limits. Positions 0 to n - 1 follow the order.
use Rattle.std.specs.Prelude.{ℕ, suc, ◌+◌, ◌-◌, ◌<◌, ◌≡◌, cond, List, ◌⊎◌, eqb, ltb, ℤ, pos, negsuc, ◌-ℤ◌, ◌≤ℤ◌}
use Rattle.rules.specs.Numbers.{longest_coast, policy_2005}
use Rattle.rules.specs.Words.{span, greatest_of, minZ, least_of, cat, tab, rows}
use Rattle.rules.specs.Image.{Profile, due}
use Rattle.rules.specs.Order.{Order}

-- A profile by position.
pub record Tables : Type 0 where
  pub n : ℕ
  pub levels : ℕ
  pub deadline : ℕ → ℕ
  pub average : ℕ → ℕ → ℕ
  pub worst : ℕ → ℕ → ℕ

abbrev pub tables : (F : Profile) → Order F.n → Tables
tables F o = record {
  n = F.n;
  levels = F.levels;
  deadline = λ k. due F (o.at k);
  average = λ k q. F.average (o.at k) q;
  worst = λ k q. F.worst (o.at k) q;
}

-- safe (i, k, q) = worst of i at q, plus worst at level 0 of positions i + 1 to k
abbrev pub safe : Tables → ℕ → ℕ → ℕ → ℕ
safe S i k q = S.worst i q + span (λ p. S.worst p 0) (suc i) (suc k)

-- average (i, k, q) = sum of averages at q, positions i to k
abbrev pub average : Tables → ℕ → ℕ → ℕ → ℕ
average S i k q = span (λ p. S.average p q) i (suc k)

-- margin (i, k, q) = the greatest safe (j, k, q) - average (j, k, q) over j from i to k. At j = k it is worst - average, never below 0, so
-- that a difference below 0 may count as 0.
unfoldable pub margin : Tables → ℕ → ℕ → ℕ → ℕ
margin S i k q = greatest_of (λ j. safe S j k q - average S j k q) i (k - i)

-- mixed (i, k, q) = average (i, k, q) + margin (i, k, q)
unfoldable pub mixed : Tables → ℕ → ℕ → ℕ → ℕ
mixed S i k q = average S i k q + margin S i k q

-- limit (i, q) = the least deadline (k) - mixed (i, k, q) over k from i to n - 1. It may be negative.
unfoldable pub limit : Tables → ℕ → ℕ → ℤ
limit S i q = least_of (λ k. pos (S.deadline k) -ℤ pos (mixed S i k q)) i (S.n - 1 - i)

-- ---- the 2005 policy (E5): a level must pass two tests, the average sums alone and the safe sums alone, each against every deadline to come

-- the limit of the sums c (i, k, q): the least deadline (k) - c (i, k, q) over k from i to n - 1
abbrev pub limit_of_sums : Tables → (ℕ → ℕ → ℕ → ℕ) → ℕ → ℕ → ℤ
limit_of_sums S c i q = least_of (λ k. pos (S.deadline k) -ℤ pos (c i k q)) i (S.n - 1 - i)

-- the lesser of the two tests' limits
unfoldable pub limit_2005 : Tables → ℕ → ℕ → ℤ
limit_2005 S i q = minZ (limit_of_sums S (average S) i q) (limit_of_sums S (safe S) i q)

-- The limit of the policy chosen at planning, by its year. A call that plans refuses any other year than these two (20), so that what stands here
-- for one, the limit of 2008, is never given.
abbrev pub limit_by : ℕ → Tables → ℕ → ℕ → ℤ
limit_by policy S = cond (eqb policy policy_2005) (limit_2005 S) (limit S)

-- ---- coast bounds, of either policy

-- -2,147,483,648
abbrev pub absent : ℤ
absent = negsuc 2147483647

-- Coast bound (i, q, r) = the least, over j from i to i + r - 1, of limit (j, q) minus the worst times at q of positions i to j - 1. Where r
-- exceeds n - i the entry is absent. The limits are any policy's.
unfoldable pub coast_bound : Tables → (ℕ → ℕ → ℤ) → ℕ → ℕ → ℕ → ℤ
coast_bound S limit i q r =
    cond (ltb (S.n - i) r) absent (least_of (λ j. limit j q -ℤ pos (span (λ p. S.worst p q) i j)) i (r - 1))

-- ---- the tables as lists

-- What the planner writes, as it is lent to a call, whoever wrote it: the order, n; the limits and the worst times by position, n by L; the
-- coast bounds, n by L by 16. A list that a call does not take is empty.
pub record LentTables : Type 0 where
  pub order : List ℕ
  pub limits : List ℤ
  pub worst : List ℕ
  pub bounds : List ℤ

-- the coast bounds by position, level and length from 1 to 16
abbrev pub coast_bounds : Tables → (ℕ → ℕ → ℤ) → ℕ → ℕ → List ℤ
coast_bounds S limit n L = cat (λ i. rows (λ q x. coast_bound S limit i q (suc x)) L longest_coast) n

-- The planner writes the order, the limits of the chosen policy, the worst times by position and level, and the coast bounds.
abbrev pub planner_tables : ℕ → (F : Profile) → Order F.n → LentTables
planner_tables policy F o = record {
  order = tab o.at F.n;
  limits = rows (limit_by policy (tables F o)) F.n F.levels;
  worst = rows (tables F o).worst F.n F.levels;
  bounds = coast_bounds (tables F o) (limit_by policy (tables F o)) F.n F.levels;
}

-- ---- what the manager reads

-- The limit at a position and level, and the coast bound at a position, level and length, whoever wrote them.
pub record Plan : Type 0 where
  pub n : ℕ
  pub levels : ℕ
  pub limit : ℕ → ℕ → ℤ
  pub bound : ℕ → ℕ → ℕ → ℤ

-- The plan by any limits, and the planner's by the chosen policy.
abbrev pub plan_by : Tables → (ℕ → ℕ → ℤ) → Plan
plan_by S limit = record { n = S.n; levels = S.levels; limit = limit; bound = coast_bound S limit }

abbrev pub planned : ℕ → Tables → Plan
planned policy S = plan_by S (limit_by policy S)

-- The manager asked at position i and time t gives the greatest q with t at most limit (i, q); if there is none, level 0 with the late mark.
pub record Gives (P : Plan) (t i q : ℕ) : Type 0 where
  pub level : q < P.levels
  pub fits : (pos t ≤ℤ P.limit i q) ⊎ (q ≡ 0)
  pub none_above : (p : ℕ) → q < p → p < P.levels → pos t ≤ℤ P.limit i p → ⊥

abbrev pub Late : Plan → ℕ → ℕ → Type 0
Late P t i = (q : ℕ) → q < P.levels → pos t ≤ℤ P.limit i q → ⊥
