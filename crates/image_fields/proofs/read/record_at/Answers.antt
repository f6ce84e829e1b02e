use borrow.Author.Rules.{rules}
use Rattle.rules.specs.Image.{record_bytes, record_at}
use Rattle.image_fields.proofs.read.record_at.Goals as goal

pub returns : goal.returns
unfolding record_at record_bytes
returns c = search rules
