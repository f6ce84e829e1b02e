-- The row of refusals, test by test. Assumes nothing.
use mathlib.Core.Path.{◌≡◌, sym, ◌∙◌}
use mathlib.Core.Bool.{true}
use native.Mathlib.Omega.{arith}
use borrow.Author.Tests.{eq-eqb, ne_eqb}
use Rattle.rules.specs.Refusals.{first}
use Rattle.rules.specs.Repeat.{body_in_range, body_ask_refusal}
use Rattle.repeat_run.specs.Calls.{steps_of}
use Rattle.repeat_run.proofs.Ranges.{Ranged, ranged}
use Rattle.repeat_run.proofs.BodyRun.ask_refusal.Goals as goal
use Rattle.repeat_run.proofs.BodyRun.ask_refusal.Goals.{Else-not-in_range}

-- after the first test
in_range : (c : Else-not-in_range) → let r = c.args.self in body_in_range r.body (steps_of r) ≡ true
in_range c = sym c.in_range.ensures ∙ c.if-not-in_range.false

few : (c : Else-not-in_range) → let r = c.args.self in Ranged r.body (steps_of r)
few c = ranged _ _ (in_range c)

pub returns-then-not-in_range : goal.returns-then-not-in_range
unfolding body_ask_refusal first
returns-then-not-in_range c = rw (← c.in_range.ensures, c.if-not-in_range.true)

pub overflow_mul-cells-2 : goal.overflow_mul-cells-2
overflow_mul-cells-2 c = omega (arith, (few (goal.at.overflow_mul-cells-2 c).Else-not-in_range).products)

pub returns-then-order-n : goal.returns-then-order-n
unfolding body_ask_refusal first
returns-then-order-n c = rw (in_range (goal.at.returns-then-order-n c).Else-not-in_range, c.if-order-n.true)

pub returns-then-self : goal.returns-then-self
unfolding body_ask_refusal first
returns-then-self c = rw (in_range (goal.at.returns-then-self c).Else-not-in_range, c.if-order-n.false, c.if-self.true)

pub overflow_mul-body : goal.overflow_mul-body
overflow_mul-body c = omega (arith, (few (goal.at.overflow_mul-body c).Else-not-in_range).products)

pub returns-then-self-body : goal.returns-then-self-body
unfolding body_ask_refusal first
returns-then-self-body c =
    rw (in_range (goal.at.returns-then-self-body c).Else-not-in_range, c.if-order-n.false, c.if-self.false, eq-eqb _ _ c.if-self-body.true)

pub returns : goal.returns
unfolding body_ask_refusal first
returns c =
    rw (in_range (goal.at.returns c).Else-not-in_range, c.if-order-n.false, c.if-self.false, ne_eqb _ _ c.if-self-body.false)
