use mathlib.Core.Path.{◌≡◌}
use mathlib.Core.Bool.{true}
use mathlib.Core.Logic.{◌↔◌}
use native.Mathlib.Omega.{arith}
use borrow.Author.Rules.{rules}
use Rattle.sets.specs.Sets.{Below}
use Rattle.image_fields.proofs.Faults.{mask-says}
use Rattle.image_fields.proofs.scan.out_of_range.Goals as goal

pub returns-else-cycle-deadline : goal.returns-else-cycle-deadline
returns-else-cycle-deadline c =
    let says : (c.below.result ≡ true) ↔ Below c.args.mask c.args.n = search rules in
    mask-says _ c.args.cycle _ c.args.deadline c.ranges.mask.fits (omega arith) _ says
