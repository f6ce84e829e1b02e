-- Assumes nothing.
use Rattle.std.proofs.lemmas.Result.{err_from_is_err_and}
use Rattle.rules.proofs.Refusals.{loop-numbered}
use Rattle.repeat_planner.proofs.Answers.{stopped, refused_on, passed_on, passed}
use Rattle.repeat_planner.proofs.checked.Goals as goal

pub returns-in_err-found : goal.returns-in_err-found
returns-in_err-found c =
    let p = err_from_is_err_and c.from_residual.result c.from_residual.ensures.1 in
    rw (p.1, p.2) (stopped _ ((λ a z. z), ((λ a z. z), tt)) c.in_err-found.ensures.answers)

pub repeats_refusal-requires : goal.repeats_refusal-requires
repeats_refusal-requires c = passed c.in_ok-found.ensures.answers

pub returns-in_err-repeats_refusal : goal.returns-in_err-repeats_refusal
returns-in_err-repeats_refusal c =
    let made = c.from_residual-in_err-repeats_refusal in
    let p = err_from_is_err_and made.result made.ensures.1 in
    rw p.1
    (refused_on _ ((λ a z. z), ((λ a z. z), tt)) (loop-numbered c.args.image.now) c.in_ok-found.ensures.answers
    p.0 p.2.1 (rw p.2.0 c.in_err-repeats_refusal.ensures))

pub returns : goal.returns
returns c =
    passed_on _ ((λ a z. z), ((λ a z. z), tt)) (loop-numbered c.args.image.now) c.in_ok-found.ensures.answers
    c.in_ok-repeats_refusal.ensures
