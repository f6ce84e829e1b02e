use Rattle.image_check.proofs.Answers.{refused_judged, unfit_judged, fit_judged}
use Rattle.image_check.proofs.whole.checked.Goals as goal

pub returns-in-Ok : goal.returns-in-Ok
returns-in-Ok c = record { given = rw (c.from.ensures.0, c.from.ensures.1) (unfit_judged c.args.image.now _ c.in-Ok.ensures c.if-checked.true); accepted = tt }

pub returns-in_default : goal.returns-in_default
returns-in_default c = fit_judged c.args.image.now _ c.in-Ok.ensures c.if-checked.false

pub returns-in_default-2 : goal.returns-in_default-2
returns-in_default-2 c = rw c.in_default.is (refused_judged c.args.image.now _ (rw c.in_default.is at c.checked_body-found.ensures))
