-- Assumes nothing.
use mathlib.Core.Path.{refl}
use mathlib.Core.Logic.{inl, inr}
use Rattle.image_fields.proofs.Faults.{denied}
use Rattle.repeat_planner.proofs.Answers.{records, unfit-says}
use Rattle.repeat_planner.proofs.repeats_refusal.Goals as goal

pub unfit-requires : goal.unfit-requires
unfit-requires c = records c.requires

pub returns-then-unfit : goal.returns-then-unfit
returns-then-unfit c =
    let repeats = denied c.repeats_out.ensures c.if-repeats_out.false in
    inr (repeats, inl ((unfit-says c.requires _ repeats).1 (c.unfit.ensures.0 c.if-unfit.true), refl))

pub returns : goal.returns
returns c =
    let repeats = denied c.repeats_out.ensures c.if-repeats_out.false in
    inr (repeats, inr ((λ h. denied c.unfit.ensures c.if-unfit.false ((unfit-says c.requires _ repeats).0 h)), refl))
