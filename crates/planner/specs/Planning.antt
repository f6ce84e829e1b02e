-- Planning: the order, the limits, the worst times by position and the coast bounds of an image, written to lent tables.
use Rattle.std.specs.Prelude.{ℕ, ◌*◌, ◌≡◌, List, [], ◌∷◌, length, Result, Ok, Err}
use Rattle.rules.specs.Numbers.{most_actions, longest_coast}
use Rattle.rules.specs.Image.{profile}
use Rattle.rules.specs.Order.{Order, TheOrder}
use Rattle.rules.specs.Limits.{LentTables, planner_tables}
use Rattle.rules.specs.Reasons.{fault_of}
use Rattle.rules.specs.declared.blame.Blame.{Blame}
use Rattle.rules.specs.declared.Counts.{Counts}
use Rattle.rules.specs.Refusals.{First, AtFault, kept, plan_call}
pub use Rattle.plan_tables.specs.Filling.{with_fronts}
use Rattle.planner.specs.declared.Planned.{Planned}

-- the lengths of the lent tables, each with what n actions at L levels need of it
abbrev pub plan_rooms : ℕ → ℕ → LentTables → List (ℕ × ℕ)
plan_rooms n L lent =
    (length lent.order, n)
    ∷ (length lent.limits, n * L)
    ∷ (length lent.worst, n * L)
    ∷ (length lent.bounds, n * L * longest_coast)
    ∷ []

-- What is told of planning, laid flat: what the header says, and with a refusal 0.
abbrev pub planned : Result Counts Blame → Planned
planned (Ok c) = record { refusal = record { number = 0; action = most_actions }; n = c.n; levels = c.levels; cycle = c.cycle }
planned (Err b) = record { refusal = fault_of b; n = 0; levels = 0; cycle = 0 }

-- What planning by a policy answers, and what it leaves of the lent tables: the planner's at their fronts, whose tails are kept, and with a refusal all
-- that was there. Without one the order is the profile's; with one there need not be any, and o counts for nothing.
pub record Plans (s : List ℕ) (policy : ℕ) (before after : LentTables) (r : Planned) : Type 0 where
  pub number : First (plan_call s policy (plan_rooms (profile s).n (profile s).levels before)) r.refusal.number
  pub action : AtFault (plan_call s policy (plan_rooms (profile s).n (profile s).levels before)) r.refusal.action
  pub n : r.n ≡ kept r.refusal.number (profile s).n 0
  pub levels : r.levels ≡ kept r.refusal.number (profile s).levels 0
  pub cycle : r.cycle ≡ kept r.refusal.number (profile s).cycle 0
  pub o : Order (profile s).n
  pub the_order : r.refusal.number ≡ 0 → TheOrder (profile s) o
  pub tables_are : after ≡ kept r.refusal.number (with_fronts before (planner_tables policy (profile s) o)) before
