-- Refused, or planned. Assumes nothing.
use Rattle.std.proofs.lemmas.Result.{err_from_is_err_and}
use Rattle.rules.specs.Repeat.{LentBody}
use Rattle.repeat_planner.proofs.Answers.{refused-plans, some_input, all_written}
use Rattle.repeat_planner.proofs.plan.Goals as goal

pub returns-in_err-found : goal.returns-in_err-found
returns-in_err-found c =
    let a = c.args in
    let lent : LentBody = record { order = a.order.now; summaries = a.summaries.now; worst = a.worst.now } in
    let p = err_from_is_err_and c.from_residual.result c.from_residual.ensures.1 in
    rw (p.1, p.2) (refused-plans lent _ c.in_err-found.ensures)

pub fill-requires-clause-some_body_input : goal.fill-requires-clause-some_body_input
fill-requires-clause-some_body_input c =
    let a = c.args in
    let lent : LentBody = record { order = a.order.now; summaries = a.summaries.now; worst = a.worst.now } in
    some_input lent c.in_ok-found.ensures

pub returns : goal.returns
returns c =
    let a = c.args in
    let lent : LentBody = record { order = a.order.now; summaries = a.summaries.now; worst = a.worst.now } in
    let after = c.fill.new in
    all_written lent c.in_ok-found.ensures
    {after = record { order = after.order; summaries = after.summaries; worst = after.worst }} c.fill.ensures
