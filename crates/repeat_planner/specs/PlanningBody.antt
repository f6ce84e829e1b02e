-- Planning a body repeated: the order, the summaries of the rest of the body and the worst times, written to lent tables.
use Rattle.std.specs.Prelude.{ℕ, ◌*◌, ◌≡◌, List, [], ◌∷◌, length, Result, Ok, Err}
use Rattle.rules.specs.Numbers.{most_actions, summary_numbers}
use Rattle.rules.specs.Image.{profile}
use Rattle.rules.specs.Order.{Order, TheOrder}
use Rattle.rules.specs.Reasons.{fault_of}
use Rattle.rules.specs.declared.blame.Blame.{Blame}
use Rattle.rules.specs.declared.Body.{Body}
use Rattle.rules.specs.Refusals.{First, AtFault, kept}
use Rattle.rules.specs.Repeat.{LentBody, body_tables, body_of, no_body, body_call}
use Rattle.fields.specs.Fields.{splice}
use Rattle.repeat_planner.specs.declared.BodyPlanned.{BodyPlanned}

-- the lengths of the lent tables, each with what n actions at L levels need of it; nothing grows with N
abbrev pub body_rooms : ℕ → ℕ → LentBody → List (ℕ × ℕ)
body_rooms n L lent =
    (length lent.order, n) ∷ (length lent.summaries, n * L * summary_numbers) ∷ (length lent.worst, n * L) ∷ []

-- lent tables with others written at their fronts; their tails are kept
abbrev pub with_body_fronts : LentBody → LentBody → LentBody
with_body_fronts lent new = record {
  order = splice lent.order 0 new.order;
  summaries = splice lent.summaries 0 new.summaries;
  worst = splice lent.worst 0 new.worst;
}

-- What is told of planning, laid flat: what the header says, N and the policy, and with a refusal 0.
abbrev pub body_planned : Result Body Blame → BodyPlanned
body_planned (Ok b) = record { refusal = record { number = 0; action = most_actions }; body = b }
body_planned (Err b) = record { refusal = fault_of b; body = no_body }

-- What planning answers, and what it leaves of the lent tables: planning's at their fronts, whose tails are kept, and with a refusal all that
-- was there. Without one the order is the body's; with one there need not be any, and o counts for nothing.
pub record PlansBody (s : List ℕ) (N policy : ℕ) (before after : LentBody) (r : BodyPlanned) : Type 0 where
  pub number : First (body_call s N policy (body_rooms (profile s).n (profile s).levels before)) r.refusal.number
  pub action : AtFault (body_call s N policy (body_rooms (profile s).n (profile s).levels before)) r.refusal.action
  pub body : r.body ≡ kept r.refusal.number (body_of (profile s) N policy) no_body
  pub o : Order (profile s).n
  pub the_order : r.refusal.number ≡ 0 → TheOrder (profile s) o
  pub tables_are : after ≡ kept r.refusal.number (with_body_fronts before (body_tables policy (profile s) o)) before
