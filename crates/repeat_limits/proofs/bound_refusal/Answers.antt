-- The row of refusals, test by test. Assumes nothing.
use mathlib.Core.List.{[]}
use mathlib.Core.Path.{◌≡◌, ◌∙◌}
use native.Mathlib.Omega.{arith}
use Rattle.std.proofs.lemmas.Result.{err_from_is_err_and}
use Rattle.rules.specs.Refusals.{first}
use Rattle.rules.specs.Repeat.{known_tests, body_bound_refusal}
use Rattle.rules.proofs.Reasons.{some_number}
use Rattle.repeat_limits.proofs.Refusing.{counts_in, known-passes, Products, products, body-first, bound_passed}
use Rattle.repeat_limits.proofs.bound_refusal.Goals as goal
use Rattle.repeat_limits.proofs.bound_refusal.Goals.{In_ok-known_refusal}

-- after the first test
counted : (c : In_ok-known_refusal) → 0 ≡ first (known_tests c.args.body)
counted c = c.in_ok-known_refusal.ensures

few : (c : In_ok-known_refusal) → Products c.args.body
few c = products (counts_in _ (known-passes c.args.body (counted c)))

pub returns-in_err-known_refusal : goal.returns-in_err-known_refusal
unfolding body_bound_refusal
returns-in_err-known_refusal c =
    let e = c.in_err-known_refusal.ensures in
    let p = err_from_is_err_and c.from_residual.result c.from_residual.ensures.1 in
    rw (p.1, p.2) (e ∙ body-first c.args.body _ (λ z. some_number _ (e ∙ z)))

pub overflow_mul-cells-2 : goal.overflow_mul-cells-2
overflow_mul-cells-2 c = omega (arith, few (goal.at.overflow_mul-cells-2 c).In_ok-known_refusal)

pub returns-then-summaries-cells : goal.returns-then-summaries-cells
returns-then-summaries-cells c =
    let a = c.args in
    rw (bound_passed a.body (record { order = []; summaries = a.summaries.now; worst = a.worst.now }) a.position a.level a.length (counted (goal.at.returns-then-summaries-cells c).In_ok-known_refusal), c.if-summaries-cells.true)

pub returns-then-body-n : goal.returns-then-body-n
returns-then-body-n c =
    let a = c.args in
    rw (bound_passed a.body (record { order = []; summaries = a.summaries.now; worst = a.worst.now }) a.position a.level a.length (counted (goal.at.returns-then-body-n c).In_ok-known_refusal), c.if-summaries-cells.false, c.if-body-n.true)

pub returns : goal.returns
returns c =
    let a = c.args in
    rw (bound_passed a.body (record { order = []; summaries = a.summaries.now; worst = a.worst.now }) a.position a.level a.length (counted (goal.at.returns c).In_ok-known_refusal), c.if-summaries-cells.false, c.if-body-n.false)
