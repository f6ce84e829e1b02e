-- Demand 3: no deadline is missed; each action gets the level that a manager asked before every action would give; and the manager decides
-- the fewest times possible among all ways of coasting that can't differ from that manager under any later durations from zero to worst.
use Rattle.std.specs.Prelude.{ℕ, suc, ◌+◌, ◌≤◌, ◌<◌, ◌≡◌, false, ℤ, pos, ◌≤ℤ◌}
use Rattle.rules.specs.Words.{sum, span}
use Rattle.rules.specs.Limits.{Tables, safe, Plan, plan_by, Gives}
use Rattle.rules.specs.Dry.{before, level_of, took}

-- ---- any policy

-- t is at most the limit of the safe sums at position i and level q
abbrev pub Safe : Tables → ℕ → ℕ → ℕ → Type 0
Safe S t i q = (k : ℕ) → i ≤ k → k < S.n → t + safe S i k q ≤ S.deadline k

-- A policy is a limit at each position and level: never above that of the safe sums, never rising with the level, and passing level 0
-- whenever the worst times fit.
pub record Policy (S : Tables) : Type 0 where
  pub limit : ℕ → ℕ → ℤ
  pub is_safe : (t i q : ℕ) → i < S.n → q < S.levels → pos t ≤ℤ limit i q → Safe S t i q
  pub lower : (t i p q : ℕ) → i < S.n → p ≤ q → q < S.levels → pos t ≤ℤ limit i q → pos t ≤ℤ limit i p
  pub passes : (t i : ℕ) → i < S.n → Safe S t i 0 → pos t ≤ℤ limit i 0

-- what the manager reads of a policy
abbrev pub plan_of : {S : Tables} → Policy S → Plan
plan_of {S} P = plan_by S P.limit

-- ---- ways of coasting

-- the clock at position j of a cycle begun at time t in which position p takes d p
abbrev pub clock : ℕ → (ℕ → ℕ) → ℕ → ℕ
clock t d j = t + sum j d

-- Level q repeated over r actions from position i and time t can't differ from the asked manager under any later durations e from zero to
-- worst.
pub record Steady {S : Tables} (P : Policy S) (t i q r : ℕ) : Type 0 where
  pub same : (e : ℕ → ℕ) → ((p : ℕ) → i ≤ p → p < i + r → e p ≤ S.worst p q) → (j : ℕ) → i ≤ j → j < i + r → Gives (plan_of P) (t + span e i j) j q

-- To coast is to repeat a decided level, clock unread, over at most `cap` actions, the decided one included.
pub record Coast {S : Tables} (cap : ℕ) (P : Policy S) (t i r : ℕ) : Type 0 where
  pub level : ℕ
  pub some : 0 < r
  pub most : r ≤ cap
  pub room : i + r ≤ S.n
  pub decided : Gives (plan_of P) t i level
  pub steady : Steady P t i level r

-- A way of coasting from position i to the end of a cycle begun at time t, over the durations d, with m decisions.
pub data Way {S : Tables} (cap : ℕ) (P : Policy S) (t : ℕ) (d : ℕ → ℕ) : ℕ → ℕ → Type 0 where
  over : {i : ℕ} → i ≡ S.n → Way cap P t d i 0
  decide : {i m : ℕ} (r : ℕ) → Coast cap P (clock t d i) i r → Way cap P t d (i + r) m → Way cap P t d i (suc m)

-- ---- the demand

-- What a cycle begun at time t keeps in which position j takes d j, gets level `got j` and m decisions are made.
pub record Kept {S : Tables} (cap : ℕ) (P : Policy S) (t : ℕ) (d got : ℕ → ℕ) (m : ℕ) : Type 0 where
  pub meets : (j : ℕ) → j < S.n → clock t d (suc j) ≤ S.deadline j
  pub asked : (j : ℕ) → j < S.n → Gives (plan_of P) (clock t d j) j (got j)
  pub coasts : Way cap P t d 0 m
  pub fewest : (w : ℕ) → Way cap P t d 0 w → m ≤ w

-- The durations d (position, level) within worst at the levels that the run gives.
abbrev pub WithinWorst : {S : Tables} → ℕ → Policy S → ℕ → (ℕ → ℕ → ℕ) → Type 0
WithinWorst {S} cap P t d =
    (j : ℕ) → j < S.n → took cap (plan_of P) S.worst d t j ≤ S.worst j (level_of cap (plan_of P) S.worst d t j)

-- Demand 3 of the run record, stepped by the rules through a cycle begun at time t.
pub record DemandThree {S : Tables} (cap : ℕ) (P : Policy S) (t : ℕ) (d : ℕ → ℕ → ℕ) : Type 0 where
  pub kept : Kept cap P t (took cap (plan_of P) S.worst d t) (level_of cap (plan_of P) S.worst d t) (before cap (plan_of P) S.worst d t S.n).decisions
  pub ends : (before cap (plan_of P) S.worst d t S.n).clock ≡ clock t (took cap (plan_of P) S.worst d t) S.n
  pub no_overrun : (before cap (plan_of P) S.worst d t S.n).overrun ≡ false
  pub no_late : (before cap (plan_of P) S.worst d t S.n).late ≡ false
