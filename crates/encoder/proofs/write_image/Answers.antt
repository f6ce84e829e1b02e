-- The tables that are written are those of the definition. Assumes nothing.
use Rattle.encoder.specs.Times.{masks, deadlines}
use Rattle.encoder.proofs.write_image.Goals as goal

pub returns : goal.returns
unfolding masks deadlines
returns c = rw (← c.times-times.ensures, ← c.column-averages.ensures, ← c.column-worst.ensures) c.write.ensures
