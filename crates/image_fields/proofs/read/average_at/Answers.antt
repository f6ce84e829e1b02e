use borrow.Author.Rules.{rules}
use Rattle.rules.specs.Image.{record_bytes, average_of}
use Rattle.image_fields.proofs.read.average_at.Goals as goal

pub be24-requires : goal.be24-requires
unfolding record_bytes
be24-requires c = search rules

pub returns : goal.returns
unfolding average_of
returns c = rw (c.be24.ensures.0, c.record_at.ensures, c.requires.0.said)
