-- Refused by planning, by the room of the order or by the dry run, and else the frame. Assumes nothing.
use mathlib.Core.Path.{refl}
use borrow.Author.Rules.{rules}
use Rattle.std.proofs.lemmas.Result.{err_from_is_err_and}
use Rattle.rules.specs.Limits.{LentTables}
use Rattle.rules.proofs.Reasons.{some_number}
use Rattle.planner.specs.declared.Planned.{Planned}
use Rattle.planner.specs.Planning.{Plans}
use Rattle.dry_frame.proofs.Answers.{zeros, Planning, plan-refused, order-refused, dry-refused, run_dry}
use Rattle.dry_frame.proofs.dry_frame.Goals as goal
use Rattle.dry_frame.proofs.dry_frame.Goals.{After-plan}

abbrev lent : After-plan → LentTables
lent c = let new = c.plan.new in record { order = new.order; limits = new.limits; worst = new.worst; bounds = new.bounds }

planning : (c : After-plan) {p : Planned} → Plans c.args.image.now c.args.policy zeros (lent c) p → Planning c.args.image.now c.args.policy (lent c) p
planning c plans =
    record {
      plans = plans;
      sized = record { order_room = search rules; limits_room = search rules; worst_room = search rules; bounds_room = search rules };
    }

-- ---- the answers

pub returns-in_err-counts : goal.returns-in_err-counts
returns-in_err-counts c =
    let p = err_from_is_err_and c.from_residual.result c.from_residual.ensures.1 in
    let planned = planning (goal.at.returns-in_err-counts c).After-plan c.in_err-counts.ensures in
    rw (p.1, p.2) (plan-refused planned _ _ (some_number c.in_err-counts.field-0.0.reason))

pub returns-then-order-n : goal.returns-then-order-n
returns-then-order-n c =
    let planned = planning (goal.at.returns-then-order-n c).After-plan c.in_ok-counts.ensures in
    rw (c.from.ensures.0, c.from.ensures.1) (order-refused planned _ _ refl c.if-order-n.true)

pub returns-in_err-dry : goal.returns-in_err-dry
returns-in_err-dry c =
    let made = c.from_residual-in_err-dry in
    let p = err_from_is_err_and made.result made.ensures.1 in
    let planned = planning (goal.at.returns-in_err-dry c).After-plan c.in_ok-counts.ensures in
    rw (p.1, p.2.0, p.2.1) (dry-refused planned _ _ _ refl c.if-order-n.false c.in_err-dry.ensures (some_number c.in_err-dry.field-0.0) refl)

pub returns : goal.returns
returns c =
    let planned = planning (goal.at.returns c).After-plan c.in_ok-counts.ensures in
    run_dry planned _ _ _ refl c.if-order-n.false c.in_ok-dry.ensures refl c.copy_front.ensures
