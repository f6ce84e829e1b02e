-- Refused by the body, by the frame's own, and else the frame. Assumes nothing.
use mathlib.Core.Path.{refl}
use native.Mathlib.Omega.{arith}
use borrow.Author.Rules.{rules}
use Rattle.std.proofs.lemmas.Result.{err_from_is_err_and}
use Rattle.rules.specs.Repeat.{LentBody}
use Rattle.rules.proofs.Reasons.{some_number}
use Rattle.dry_frame.specs.Frame.{FrameLists}
use Rattle.repeat_limits.proofs.Refusing.{products}
use Rattle.repeat_planner.specs.declared.BodyPlanned.{BodyPlanned}
use Rattle.repeat_planner.specs.PlanningBody.{PlansBody}
use Rattle.repeat_frame.proofs.Answers.{zeros, Planning, counts, may_walk, body_refused, own-refused, framed}
use Rattle.repeat_frame.proofs.dry_frame.Goals as goal
use Rattle.repeat_frame.proofs.dry_frame.Goals.{After-plan}

-- the body is planned: the tables, and the lists that are lent
module _ (c : After-plan) where
  abbrev lent : LentBody
  lent = let new = c.plan.new in record { order = new.order; summaries = new.summaries; worst = new.worst }

  abbrev lists : FrameLists
  lists = record { order = c.args.order.now; levels = c.args.given.now; decided = c.args.marks.now }

  planning : {p : BodyPlanned} → let a = c.args in PlansBody a.image.now a.repeats a.policy zeros lent p → Planning a.image.now a.repeats a.policy lent p
  planning plans = record { plans = plans; order_room = search rules; summaries_room = search rules; worst_room = search rules }

pub returns-in_err-body : goal.returns-in_err-body
returns-in_err-body c =
    let at = (goal.at.returns-in_err-body c).After-plan in
    let p = err_from_is_err_and c.from_residual.result c.from_residual.ensures.1 in
    rw (p.1, p.2) (body_refused (planning at c.in_err-body.ensures) _ (lists at) (some_number c.in_err-body.field-0.0.reason) refl)

pub own_refusal-requires : goal.own_refusal-requires
own_refusal-requires c = counts (planning (goal.at.own_refusal-requires c).After-plan c.in_ok-body.ensures) refl

pub returns-in_err-own_refusal : goal.returns-in_err-own_refusal
returns-in_err-own_refusal c =
    let at = (goal.at.returns-in_err-own_refusal c).After-plan in
    let made = c.from_residual-in_err-own_refusal in
    let p = err_from_is_err_and made.result made.ensures.1 in
    rw (p.1, p.2.0, p.2.1)
    (own-refused (planning at c.in_ok-body.ensures) _ (lists at) refl c.in_err-own_refusal.ensures (some_number c.in_err-own_refusal.field-0.0) refl)

pub walk-last-requires : goal.walk-last-requires
walk-last-requires c =
    let at = (goal.at.walk-last-requires c).After-plan in
    may_walk (planning at c.in_ok-body.ensures) _ (lists at) refl c.in_ok-own_refusal.ensures refl

pub overflow_mul-result : goal.overflow_mul-result
overflow_mul-result c =
    let at = (goal.at.overflow_mul-result c).After-plan in
    omega (arith, (products (counts (planning at c.in_ok-body.ensures) refl)).total)

pub returns : goal.returns
returns c =
    let at = (goal.at.returns c).After-plan in
    framed (planning at c.in_ok-body.ensures) _ (lists at) refl c.in_ok-own_refusal.ensures refl c.walk-last.ensures c.copy_front.ensures
