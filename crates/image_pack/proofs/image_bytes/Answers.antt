-- Assumes nothing.
use Rattle.rules.specs.Image.{record_at, image_bytes}
use Rattle.image_pack.proofs.image_bytes.Goals as goal

pub returns : goal.returns
unfolding record_at image_bytes
returns c = c.record_at.ensures
