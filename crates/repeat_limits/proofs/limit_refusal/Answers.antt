-- The row of refusals, test by test. Assumes nothing.
use mathlib.Core.Path.{◌≡◌, ◌∙◌}
use native.Mathlib.Omega.{arith}
use borrow.Author.Tests.{lt-ltb, le-ltb}
use Rattle.std.proofs.lemmas.Result.{err_from_is_err_and}
use Rattle.rules.specs.Refusals.{first}
use Rattle.rules.specs.Repeat.{known_tests, body_limit_refusal}
use Rattle.rules.proofs.Reasons.{some_number}
use Rattle.repeat_limits.proofs.Refusing.{counts_in, known-passes, Products, products, body-first, limit_passed}
use Rattle.repeat_limits.proofs.limit_refusal.Goals as goal
use Rattle.repeat_limits.proofs.limit_refusal.Goals.{In_ok-known_refusal}

-- after the first test
counted : (c : In_ok-known_refusal) → 0 ≡ first (known_tests c.args.body)
counted c = c.in_ok-known_refusal.ensures

few : (c : In_ok-known_refusal) → Products c.args.body
few c = products (counts_in _ (known-passes c.args.body (counted c)))

pub returns-in_err-known_refusal : goal.returns-in_err-known_refusal
unfolding body_limit_refusal
returns-in_err-known_refusal c =
    let e = c.in_err-known_refusal.ensures in
    let p = err_from_is_err_and c.from_residual.result c.from_residual.ensures.1 in
    rw (p.1, p.2) (e ∙ body-first c.args.body _ (λ z. some_number _ (e ∙ z)))

pub overflow_mul-n-2 : goal.overflow_mul-n-2
overflow_mul-n-2 c = omega (arith, few (goal.at.overflow_mul-n-2 c).In_ok-known_refusal)

pub returns-then-summaries-n : goal.returns-then-summaries-n
returns-then-summaries-n c =
    let a = c.args in
    rw (limit_passed a.body a.summaries.now a.position a.level (counted (goal.at.returns-then-summaries-n c).In_ok-known_refusal), lt-ltb _ _ c.if-summaries-n.true)

pub returns-then-body-n : goal.returns-then-body-n
returns-then-body-n c =
    let a = c.args in
    rw (limit_passed a.body a.summaries.now a.position a.level (counted (goal.at.returns-then-body-n c).In_ok-known_refusal), le-ltb _ _ c.if-summaries-n.false, c.if-body-n.true)

pub returns : goal.returns
returns c =
    let a = c.args in
    rw (limit_passed a.body a.summaries.now a.position a.level (counted (goal.at.returns c).In_ok-known_refusal), le-ltb _ _ c.if-summaries-n.false, c.if-body-n.false)
