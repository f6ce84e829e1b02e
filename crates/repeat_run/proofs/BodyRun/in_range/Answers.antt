-- Each return is judged by the ranges as a whole. Assumes nothing.
use mathlib.Core.Path.{◌≡◌, sym, ◌∙◌}
use native.Mathlib.Omega.{arith}
use Rattle.rules.specs.Refusals.{first}
use Rattle.rules.specs.Repeat.{body_tests}
use Rattle.run.proofs.Ranges.{mark-number}
use Rattle.repeat_limits.proofs.Refusing.{Products, counts_in, products}
use Rattle.repeat_run.proofs.Ranges.{none-ok, some-err, is-ranged, not-ranged}
use Rattle.repeat_run.proofs.BodyRun.in_range.Goals as goal
use Rattle.repeat_run.proofs.BodyRun.in_range.Goals.{Else-is_err}

-- after the first test
none : (c : Else-is_err) → first (body_tests c.args.self.body) ≡ 0
none c = sym c.body_refusal.ensures ∙ none-ok _ (sym c.is_err.ensures.value ∙ c.if-is_err.false)

few : (c : Else-is_err) → Products c.args.self.body
few c = products (counts_in _ (sym (none c)))

pub returns-then-is_err : goal.returns-then-is_err
returns-then-is_err c = not-ranged _ _ (λ none C. some-err _ (sym c.is_err.ensures.value ∙ c.if-is_err.true) (c.body_refusal.ensures ∙ none))

pub overflow_mul-n : goal.overflow_mul-n
overflow_mul-n c = omega (arith, few (goal.at.overflow_mul-n c).Else-is_err)

pub returns-then-n-self : goal.returns-then-n-self
returns-then-n-self c = not-ranged _ _ (λ none C. omega (arith, C.position))

pub overflow_add-asked : goal.overflow_add-asked
overflow_add-asked c = omega (arith, few (goal.at.overflow_add-asked c).Else-is_err, mark-number c.args.self.running)

pub overflow_add-left : goal.overflow_add-left
overflow_add-left c = omega (arith, few (goal.at.overflow_add-left c).Else-is_err, mark-number c.args.self.running)

pub returns-then-n-left : goal.returns-then-n-left
returns-then-n-left c = not-ranged _ _ (λ none C. omega (arith, C.room, mark-number c.args.self.running))

pub returns-then-left-ge-LONGEST_COAST : goal.returns-then-left-ge-LONGEST_COAST
returns-then-left-ge-LONGEST_COAST c = not-ranged _ _ (λ none C. omega (arith, C.left))

pub returns-then-body-self : goal.returns-then-body-self
returns-then-body-self c = not-ranged _ _ (λ none C. omega (arith, C.level))

pub returns-then-self : goal.returns-then-self
returns-then-self c = not-ranged _ _ (λ none C. omega (arith, C.clock))

pub returns-then-asked-self : goal.returns-then-asked-self
returns-then-asked-self c =
    not-ranged _ _ (λ none C. omega (arith, C.decisions, mark-number c.args.self.running))

pub returns : goal.returns
returns c =
    let e = mark-number c.args.self.running in
    is-ranged _ _ (none (goal.at.returns c).Else-is_err) (record {
      position = omega arith;
      clock = omega arith;
      running = omega (arith, e, c.if-n-left.false);
      level = omega arith;
      left = omega (arith, c.if-left-ge-LONGEST_COAST.false);
      room = omega (arith, e, c.if-n-left.false);
      decisions = omega (arith, e);
    })
