-- Refused by the check, by the policy or for want of room, and else written. Assumes nothing.
use Rattle.std.proofs.lemmas.Result.{err_from_is_err_and}
use Rattle.rules.proofs.Reasons.{some_number}
use Rattle.planner.proofs.Answers.{image-refused, policy-refused, tight-refused, some_input, all_written}
use Rattle.planner.proofs.plan.Goals as goal

pub returns-in_err-checked : goal.returns-in_err-checked
returns-in_err-checked c =
    let p = err_from_is_err_and c.from_residual.result c.from_residual.ensures.1 in
    rw (p.1, p.2) (image-refused _ _ c.in_err-checked.ensures.given (some_number _))

pub returns-in_err-policy_refusal : goal.returns-in_err-policy_refusal
returns-in_err-policy_refusal c =
    let made = c.from_residual-in_err-policy_refusal in
    let p = err_from_is_err_and made.result made.ensures.1 in
    rw (p.1, p.2.0, p.2.1) (policy-refused _ c.in_ok-checked.ensures _ c.in_err-policy_refusal.ensures (some_number c.in_err-policy_refusal.field-0.0))

pub returns-in_err-tight : goal.returns-in_err-tight
returns-in_err-tight c =
    let made = c.from_residual-in_err-tight in
    let p = err_from_is_err_and made.result made.ensures.1 in
    rw (p.1, p.2.0, p.2.1)
    (tight-refused _ c.in_ok-checked.ensures c.in_ok-policy_refusal.ensures _ c.in_err-tight.ensures (some_number c.in_err-tight.field-0.0))

pub fill-requires-clause-some_plan_input : goal.fill-requires-clause-some_plan_input
fill-requires-clause-some_plan_input c =
    let a = c.args in
    some_input (record { order = a.order.now; limits = a.limits.now; worst = a.worst.now; bounds = a.bounds.now })
    c.in_ok-checked.ensures c.in_ok-policy_refusal.ensures c.in_ok-tight.ensures

pub returns : goal.returns
returns c = all_written _ c.in_ok-checked.ensures c.in_ok-policy_refusal.ensures c.in_ok-tight.ensures c.fill.ensures
