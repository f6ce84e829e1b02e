use borrow.Author.Rules.{rules}
use Rattle.rules.specs.Image.{header, version, actions, levels, cycle, header_spare}
use Rattle.image_fields.proofs.read.header.Goals as goal

pub returns : goal.returns
unfolding header version actions levels cycle header_spare
returns c = search rules
