-- The row of refusals, test by test. Assumes nothing.
use mathlib.Core.Path.{◌≡◌, sym, ◌∙◌}
use mathlib.Core.Bool.{true}
use borrow.Author.Tests.{lt-ltb, le-ltb}
use Rattle.rules.specs.Refusals.{first}
use Rattle.rules.specs.Repeat.{body_in_range, body_report_refusal}
use Rattle.repeat_run.specs.Calls.{steps_of}
use Rattle.repeat_run.proofs.BodyRun.report_refusal.Goals as goal
use Rattle.repeat_run.proofs.BodyRun.report_refusal.Goals.{Else-not-in_range}

-- after the first test
in_range : (c : Else-not-in_range) → let r = c.args.self in body_in_range r.body (steps_of r) ≡ true
in_range c = sym c.in_range.ensures ∙ c.if-not-in_range.false

pub returns-then-not-in_range : goal.returns-then-not-in_range
unfolding body_report_refusal first
returns-then-not-in_range c = rw (← c.in_range.ensures, c.if-not-in_range.true)

pub returns-then-worst-body : goal.returns-then-worst-body
unfolding body_report_refusal first
returns-then-worst-body c = rw (in_range (goal.at.returns-then-worst-body c).Else-not-in_range, lt-ltb _ _ c.if-worst-body.true)

pub returns-then-not-self : goal.returns-then-not-self
unfolding body_report_refusal first
returns-then-not-self c =
    rw (in_range (goal.at.returns-then-not-self c).Else-not-in_range, le-ltb _ _ c.if-worst-body.false, c.if-not-self.true)

pub returns-then-clock-self : goal.returns-then-clock-self
unfolding body_report_refusal first
returns-then-clock-self c =
    rw (in_range (goal.at.returns-then-clock-self c).Else-not-in_range, le-ltb _ _ c.if-worst-body.false, c.if-not-self.false, lt-ltb _ _ c.if-clock-self.true)

pub returns-then-clock-gt-LAST_CLOCK : goal.returns-then-clock-gt-LAST_CLOCK
unfolding body_report_refusal first
returns-then-clock-gt-LAST_CLOCK c =
    let onward = le-ltb _ _ c.if-clock-self.false in
    rw (in_range (goal.at.returns-then-clock-gt-LAST_CLOCK c).Else-not-in_range, le-ltb _ _ c.if-worst-body.false, c.if-not-self.false, onward, lt-ltb _ _ c.if-clock-gt-LAST_CLOCK.true)

pub returns : goal.returns
unfolding body_report_refusal first
returns c =
    let onward = le-ltb _ _ c.if-clock-self.false in
    rw (in_range (goal.at.returns c).Else-not-in_range, le-ltb _ _ c.if-worst-body.false, c.if-not-self.false, onward, le-ltb _ _ c.if-clock-gt-LAST_CLOCK.false)
