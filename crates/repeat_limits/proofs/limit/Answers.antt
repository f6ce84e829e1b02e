-- Refused, or the limit at a position and level that are there. Assumes nothing.
use mathlib.Core.Path.{◌≡◌}
use native.Mathlib.Omega.{arith}
use mir.Syntax.{w64}
use mir.Val.{SFits}
use mir.Facts.{to_z-of_z}
use Rattle.std.proofs.lemmas.Result.{err_from_is_err_and}
use Rattle.rules.specs.Repeat.{body_limit_refusal}
use Rattle.rules.proofs.Reasons.{some_number}
use Rattle.repeat_limits.proofs.Refusing.{limit-stands}
use Rattle.repeat_limits.proofs.Answers.{limit-refused, limit_answered}
use Rattle.repeat_limits.proofs.limit.Goals as goal
use Rattle.repeat_limits.proofs.limit.Goals.{After-limit_at}

pub returns-in_err-limit_refusal : goal.returns-in_err-limit_refusal
returns-in_err-limit_refusal c =
    let p = err_from_is_err_and c.from_residual.result c.from_residual.ensures.1 in
    rw (p.1, p.2) (limit-refused _ _ _ _ _ (some_number _) c.in_err-limit_refusal.ensures)

pub limit_at-requires : goal.limit_at-requires
limit_at-requires c = limit-stands _ _ _ _ c.in_ok-limit_refusal.ensures

pub returns : goal.returns
returns c =
    let a = c.args in
    let clear : 0 ≡ body_limit_refusal a.body a.summaries.now a.position a.level = c.in_ok-limit_refusal.ensures in
    let fits : SFits w64 c.limit_at.result = record { sfits = omega (arith, c.limit_at.ensures.small) } in
    rw (to_z-of_z fits) (limit_answered a.body a.summaries.now a.position a.level c.limit_at.result (limit-stands _ _ _ _ clear) clear c.limit_at.ensures.is)
