-- Assumes nothing.
use Rattle.std.proofs.lemmas.Result.{err_from_is_err_and}
use Rattle.rules.proofs.Reasons.{some_number}
use Rattle.rules.specs.Repeat.{LentBody}
use Rattle.repeat_planner.proofs.Answers.{stopped, refused_on, passed_on, body-numbered, policy-said, room-said}
use Rattle.repeat_planner.proofs.with_room.Goals as goal

pub returns-in_err-found : goal.returns-in_err-found
returns-in_err-found c =
    let p = err_from_is_err_and c.from_residual.result c.from_residual.ensures.1 in
    rw (p.1, p.2) (stopped _ ((λ a z. z), ((λ a z. z), tt)) c.in_err-found.ensures)

pub returns-in_err-policy_refusal : goal.returns-in_err-policy_refusal
returns-in_err-policy_refusal c =
    let a = c.args in
    let lent : LentBody = record { order = a.order.now; summaries = a.summaries.now; worst = a.worst.now } in
    let made = c.from_residual-in_err-policy_refusal in
    let p = err_from_is_err_and made.result made.ensures.1 in
    let reason = c.in_err-policy_refusal.field-0.0 in
    rw p.1
    (refused_on _ ((λ a z. z), ((λ a z. z), tt)) (body-numbered a.image.now a.repeats) c.in_ok-found.ensures
    p.0 p.2.1 (rw p.2.0 (policy-said c.in_ok-found.ensures a.policy lent _ c.in_err-policy_refusal.ensures (some_number reason))))

pub returns-in_err-tight : goal.returns-in_err-tight
returns-in_err-tight c =
    let a = c.args in
    let lent : LentBody = record { order = a.order.now; summaries = a.summaries.now; worst = a.worst.now } in
    let made = c.from_residual-in_err-tight in
    let p = err_from_is_err_and made.result made.ensures.1 in
    rw p.1
    (refused_on _ ((λ a z. z), ((λ a z. z), tt)) (body-numbered a.image.now a.repeats) c.in_ok-found.ensures
    p.0 p.2.1 (rw p.2.0 (room-said c.in_ok-found.ensures a.policy lent _ c.in_ok-policy_refusal.ensures c.in_err-tight.ensures)))

pub returns : goal.returns
returns c =
    let a = c.args in
    let lent : LentBody = record { order = a.order.now; summaries = a.summaries.now; worst = a.worst.now } in
    passed_on _ ((λ a z. z), ((λ a z. z), tt)) (body-numbered a.image.now a.repeats) c.in_ok-found.ensures
    (room-said c.in_ok-found.ensures a.policy lent 0 c.in_ok-policy_refusal.ensures c.in_ok-tight.ensures)
