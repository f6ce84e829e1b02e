-- Within its worst time, or cut short. Assumes nothing.
use mathlib.Core.Path.{ap, ◌∙◌}
use borrow.Author.Tests.{lt-ltb, le-ltb}
use Rattle.repeat_run.specs.Calls.{steps_of, cut_short}
use Rattle.repeat_run.proofs.Turns.{ends-over, ends-within}
use Rattle.repeat_run.proofs.BodyRun.ended.Goals as goal

pub returns-then-over : goal.returns-then-over
returns-then-over c =
    let a = c.args in
    let p = c.passed-run.ensures in
    (c.cut.ensures.0 ∙ p.0, c.cut.ensures.1 ∙ ap cut_short p.1 ∙ ends-over a.worst a.clock (steps_of a.self) (lt-ltb _ _ c.if-over.true))

pub returns : goal.returns
returns c =
    let a = c.args in
    let p = c.passed-run.ensures in
    (p.0, p.1 ∙ ends-within a.worst a.clock (steps_of a.self) (le-ltb _ _ c.if-over.false))
