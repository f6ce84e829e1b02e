-- The body's own tests, then that of its policy. Assumes nothing.
use mathlib.Core.Path.{◌≡◌, sym, ◌∙◌}
use borrow.Author.Tests.{eqb-true, eqb-false}
use Rattle.rules.specs.Refusals.{first}
use Rattle.rules.specs.Repeat.{body_tests}
use Rattle.repeat_limits.proofs.Refusing.{own_first, own_passed, own_out}
use Rattle.repeat_limits.proofs.known_refusal.Goals as goal
use Rattle.repeat_limits.proofs.known_refusal.Goals.{Else-not-body_in}

-- after the test
none : (c : Else-not-body_in) → 0 ≡ first (body_tests c.args.body)
none c = sym (eqb-true _ 0 (sym c.body_in.ensures ∙ c.if-not-body_in.false))

pub returns-then-not-body_in : goal.returns-then-not-body_in
returns-then-not-body_in c =
    let own = c.body_refusal.ensures in
    own_first c.args.body own (λ none. eqb-false _ 0 (sym c.body_in.ensures ∙ c.if-not-body_in.true) (sym own ∙ none))

pub returns-then-policy : goal.returns-then-policy
returns-then-policy c = own_out c.args.body (none (goal.at.returns-then-policy c).Else-not-body_in) c.if-policy.true

pub returns : goal.returns
returns c = own_passed c.args.body (none (goal.at.returns c).Else-not-body_in) c.if-policy.false
