use borrow.Author.Rules.{rules}
use Rattle.rules.specs.Image.{record_bytes, worst_of}
use Rattle.image_fields.proofs.read.worst_at.Goals as goal

pub be24-requires : goal.be24-requires
unfolding record_bytes
be24-requires c = search rules

pub returns : goal.returns
unfolding worst_of
returns c = rw (c.be24.ensures.0, c.record_at.ensures, c.requires.0.said)
