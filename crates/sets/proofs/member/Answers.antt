use borrow.Author.Rules.{rules}
use Rattle.rules.specs.Image.{has}
use Rattle.sets.proofs.member.Goals as goal

pub returns : goal.returns
unfolding has
returns c = search rules
