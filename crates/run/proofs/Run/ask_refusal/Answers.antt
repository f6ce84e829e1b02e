-- The row of refusals, test by test. Assumes nothing.
use mathlib.Core.Path.{◌≡◌, sym}
use mathlib.Core.Bool.{true}
use native.Mathlib.Omega.{arith}
use borrow.Author.Tests.{eq-eqb, ne_eqb}
use Rattle.rules.specs.Refusals.{first}
use Rattle.rules.specs.Run.{in_range, ask_refusal}
use Rattle.run.specs.Calls.{run_of}
use Rattle.run.proofs.Ranges.{few-cells}
use Rattle.run.proofs.Run.ask_refusal.Goals as goal
use Rattle.run.proofs.Run.ask_refusal.Goals.{Else-not-in_range}

-- after the first test
ranged : (c : Else-not-in_range) → in_range (run_of c.args.self) ≡ true
ranged c = sym c.if-not-in_range.ensures

pub returns-then-not-in_range : goal.returns-then-not-in_range
unfolding ask_refusal first
returns-then-not-in_range c = rw (← c.if-not-in_range.ensures)

pub overflow_mul-cells-2 : goal.overflow_mul-cells-2
overflow_mul-cells-2 c = omega (arith, few-cells _ (ranged (goal.at.overflow_mul-cells-2 c).Else-not-in_range))

pub returns-then-order-n : goal.returns-then-order-n
unfolding ask_refusal first
returns-then-order-n c = rw (ranged (goal.at.returns-then-order-n c).Else-not-in_range, c.if-order-n.true)

pub returns-then-self : goal.returns-then-self
unfolding ask_refusal first
returns-then-self c = rw (ranged (goal.at.returns-then-self c).Else-not-in_range, c.if-order-n.false, c.if-self.true)

pub returns-then-self-2 : goal.returns-then-self-2
unfolding ask_refusal first
returns-then-self-2 c =
    rw (ranged (goal.at.returns-then-self-2 c).Else-not-in_range, c.if-order-n.false, c.if-self.false, eq-eqb _ _ c.if-self-2.true)

pub returns : goal.returns
unfolding ask_refusal first
returns c =
    rw (ranged (goal.at.returns c).Else-not-in_range, c.if-order-n.false, c.if-self.false, ne_eqb _ _ c.if-self-2.false)
