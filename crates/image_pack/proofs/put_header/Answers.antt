-- Assumes nothing.
use Rattle.rules.specs.Image.{of_tables, header_of}
use Rattle.image_pack.proofs.put_header.Goals as goal

pub returns : goal.returns
unfolding of_tables header_of
returns c = rw c.from.ensures at c.put_be.ensures
