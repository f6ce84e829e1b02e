-- Refused or ended, within its worst time or not. Assumes nothing.
use Prim.Native.Nat.{◌+◌, ◌-◌, ◌*◌, ◌%◌, ◌≤◌}
use mathlib.Core.Path.{◌≡◌, refl, sym}
use native.Mathlib.Omega.{arith}
use lib.Dec.{ltb}
use lib.ListN.{get_or}
use Rattle.rules.specs.Repeat.{body_report_refusal, body_report}
use Rattle.rules.proofs.Reasons.{some_number}
use Rattle.run.proofs.Turns.{reported-refused, reported-ended}
use Rattle.repeat_run.specs.Calls.{steps_of}
use Rattle.repeat_run.proofs.Ranges.{Reportable, reportable, cell_in}
use Rattle.repeat_run.proofs.Turns.{left_ended}
use Rattle.repeat_run.proofs.BodyRun.ends.Goals as goal
use Rattle.repeat_run.proofs.BodyRun.ends.Goals.{In_default}

-- after the test of the refusal
none : (c : In_default) → let a = c.args in 0 ≡ body_report_refusal a.self.body a.worst.now a.clock (steps_of a.self)
none c = c.in_default.ensures

ready : (c : In_default) → let a = c.args in Reportable a.self.body a.worst.now a.clock (steps_of a.self)
ready c = reportable _ _ _ _ (none c)

-- the entry read
entry : (c : In_default) → let r = c.args.self in
    r.position % r.body.n * r.body.levels + r.body.levels ≤ r.body.n * r.body.levels
entry c = let r = c.args.self in cell_in r.body (ready c).ranged.counts r.position

pub nonzero_rem-at : goal.nonzero_rem-at
nonzero_rem-at c = (ready (goal.at.nonzero_rem-at c).In_default).ranged.counts.some_action

pub overflow_mul-at : goal.overflow_mul-at
overflow_mul-at c = omega (arith, entry (goal.at.overflow_mul-at c).In_default, (ready (goal.at.overflow_mul-at c).In_default).ranged.products)

pub overflow_add-at : goal.overflow_add-at
overflow_add-at c = omega (arith, entry (goal.at.overflow_add-at c).In_default, (ready (goal.at.overflow_add-at c).In_default).ranged.products, (ready (goal.at.overflow_add-at c).In_default).ranged.cycle.level)

pub offset_bounds-worst-at : goal.offset_bounds-worst-at
offset_bounds-worst-at c = omega (arith, entry (goal.at.offset_bounds-worst-at c).In_default, (ready (goal.at.offset_bounds-worst-at c).In_default).ranged.products, (ready (goal.at.offset_bounds-worst-at c).In_default).ranged.cycle.level)

pub bounds-worst-at : goal.bounds-worst-at
bounds-worst-at c =
    omega (arith, entry (goal.at.bounds-worst-at c).In_default, (ready (goal.at.bounds-worst-at c).In_default).ranged.cycle.level, (ready (goal.at.bounds-worst-at c).In_default).timed)

pub overflow_sub-over : goal.overflow_sub-over
overflow_sub-over c = (ready (goal.at.overflow_sub-over c).In_default).onward

pub passed-run-requires : goal.passed-run-requires
passed-run-requires c =
    let h = ready (goal.at.passed-run-requires c).In_default in
    omega (arith, h.more, h.ranged.products)

pub returns-in-Err-clause-answer : goal.returns-in-Err-clause-answer
unfolding body_report
returns-in-Err-clause-answer c =
    let e = c.in-Err.ensures in rw (c.from.ensures, sym e) (reported-refused _ _ _ _ (some_number _))

pub returns-clause-answer : goal.returns-clause-answer
unfolding body_report
returns-clause-answer c =
    let a = c.args in
    let r = a.self in
    let worst = get_or a.worst.now (r.position % r.body.n * r.body.levels + r.level) 0 in
    let over = ltb worst (a.clock - r.clock) in
    reported-ended _ worst a.clock (steps_of r) _ (none (goal.at.returns-clause-answer c).In_default)
    (left_ended r c.passed-run.result c.cut.result worst a.clock over refl c.passed-run.ensures.1 c.cut.ensures.1)
