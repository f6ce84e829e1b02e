use mathlib.Core.Path.{sym, subst}
use Rattle.sets.specs.Sets.{One}
use Rattle.sets.proofs.Bits.{one_shl, pow-one}
use Rattle.sets.proofs.one.Goals as goal

pub returns : goal.returns
returns c = let b = c.args.b in subst (One b) (sym (one_shl b c.requires)) (pow-one b)
