use borrow.Author.Rules.{rules}
use Rattle.rules.specs.Image.{record_bytes, mask_of}
use Rattle.image_fields.proofs.read.mask_at.Goals as goal

pub big_endian-requires : goal.big_endian-requires
unfolding record_bytes
big_endian-requires c = search rules

pub returns : goal.returns
unfolding mask_of
returns c = rw (c.big_endian.ensures.0, c.record_at.ensures, c.requires.said)
