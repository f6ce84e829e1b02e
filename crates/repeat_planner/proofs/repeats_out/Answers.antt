-- Assumes nothing.
use Rattle.repeat_planner.proofs.Answers.{records}
use Rattle.repeat_planner.proofs.repeats_out.Goals as goal

pub other_deadline-requires : goal.other_deadline-requires
other_deadline-requires c =
    let given = c.requires in
    (records given, given.cycle_is)
