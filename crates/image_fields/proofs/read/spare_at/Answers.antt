use borrow.Author.Rules.{rules}
use Rattle.rules.specs.Image.{record_bytes, spare_of}
use Rattle.image_fields.proofs.read.spare_at.Goals as goal

pub be32-requires : goal.be32-requires
unfolding record_bytes
be32-requires c = search rules

pub returns : goal.returns
unfolding spare_of
returns c = rw (c.be32.ensures.0, c.record_at.ensures, c.requires.said)
