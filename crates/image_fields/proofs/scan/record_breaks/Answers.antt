use Rattle.image_fields.proofs.Faults.{copied-says}
use Rattle.image_fields.proofs.scan.record_breaks.Goals as goal

pub returns : goal.returns
returns c =
    let taken = c.take_row.ensures in
    copied-says _ _ _ _ taken.averages_after taken.worst_after c.row_breaks.ensures
