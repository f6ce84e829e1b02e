-- Decided where nothing is left to coast. Assumes nothing.
use Prim.Native.Nat.{◌-◌}
use mathlib.Core.Path.{sym, ◌∙◌}
use native.Mathlib.Omega.{arith}
use Rattle.rules.proofs.Demand.Record.{given-decided, given_coasted}
use Rattle.repeat_run.specs.Calls.{steps_of}
use Rattle.repeat_frame.proofs.asked.Goals as goal

pub returns-then-run-eq0 : goal.returns-then-run-eq0
returns-then-run-eq0 c =
    let d = c.decided.ensures in
    let r = c.args.run in
    (d.0, d.1 _ (c.choose-made.ensures _ c.spot_of-spot.ensures) ∙ sym (given-decided 16 _ (steps_of r) c.if-run-eq0.true))

pub returns : goal.returns
returns c =
    let d = c.coasted.ensures in
    let r = c.args.run in
    (d.0, d.1 ∙ sym (given_coasted 16 _ (steps_of r) (r.left - 1) (omega (arith, c.if-run-eq0.false))))
