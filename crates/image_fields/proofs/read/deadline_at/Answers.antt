use borrow.Author.Rules.{rules}
use Rattle.rules.specs.Image.{record_bytes, deadline_of}
use Rattle.image_fields.proofs.read.deadline_at.Goals as goal

pub be32-requires : goal.be32-requires
unfolding record_bytes
be32-requires c = search rules

pub returns : goal.returns
unfolding deadline_of
returns c = rw (c.be32.ensures.0, c.record_at.ensures, c.requires.said)
