-- The row of refusals, test by test. Assumes nothing.
use mathlib.Core.Path.{◌≡◌, sym}
use mathlib.Core.Bool.{true}
use borrow.Author.Tests.{lt-ltb, le-ltb}
use Rattle.rules.specs.Refusals.{first}
use Rattle.rules.specs.Run.{in_range, report_refusal}
use Rattle.run.specs.Calls.{run_of}
use Rattle.run.proofs.Run.report_refusal.Goals as goal
use Rattle.run.proofs.Run.report_refusal.Goals.{Else-not-in_range}

-- after the first test
ranged : (c : Else-not-in_range) → in_range (run_of c.args.self) ≡ true
ranged c = sym c.if-not-in_range.ensures

pub returns-then-not-in_range : goal.returns-then-not-in_range
unfolding report_refusal first
returns-then-not-in_range c = rw (← c.if-not-in_range.ensures)

pub returns-then-worst-self : goal.returns-then-worst-self
unfolding report_refusal first
returns-then-worst-self c = rw (ranged (goal.at.returns-then-worst-self c).Else-not-in_range, lt-ltb _ _ c.if-worst-self.true)

pub returns-then-not-self : goal.returns-then-not-self
unfolding report_refusal first
returns-then-not-self c =
    rw (ranged (goal.at.returns-then-not-self c).Else-not-in_range, le-ltb _ _ c.if-worst-self.false, c.if-not-self.true)

pub returns-then-clock-self : goal.returns-then-clock-self
unfolding report_refusal first
returns-then-clock-self c =
    rw (ranged (goal.at.returns-then-clock-self c).Else-not-in_range, le-ltb _ _ c.if-worst-self.false, c.if-not-self.false, lt-ltb _ _ c.if-clock-self.true)

pub returns-then-clock-gt-LAST_CLOCK : goal.returns-then-clock-gt-LAST_CLOCK
unfolding report_refusal first
returns-then-clock-gt-LAST_CLOCK c =
    let onward = le-ltb _ _ c.if-clock-self.false in
    rw (ranged (goal.at.returns-then-clock-gt-LAST_CLOCK c).Else-not-in_range, le-ltb _ _ c.if-worst-self.false, c.if-not-self.false, onward, lt-ltb _ _ c.if-clock-gt-LAST_CLOCK.true)

pub returns : goal.returns
unfolding report_refusal first
returns c =
    let onward = le-ltb _ _ c.if-clock-self.false in
    rw (ranged (goal.at.returns c).Else-not-in_range, le-ltb _ _ c.if-worst-self.false, c.if-not-self.false, onward, le-ltb _ _ c.if-clock-gt-LAST_CLOCK.false)
