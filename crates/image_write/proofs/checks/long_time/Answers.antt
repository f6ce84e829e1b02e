-- In order the top level tells; else the loop has found no time above the longest below level q. Assumes nothing.
use Rattle.rules.specs.Image.{time_at}
use Rattle.image_write.proofs.Answers.{less-says}
use Rattle.image_write.proofs.Levels.{longest_top}
use Rattle.image_write.proofs.checks.long_time.Goals as goal

pub returns-then-ordered : goal.returns-then-ordered
returns-then-ordered c =
    let x = c.args in
    let says = longest_top (time_at x.levels x.averages.now x.a) (time_at x.levels x.worst.now x.a) x.levels c.requires.le_levels.0
    (c.requires.le_levels.1 c.if-ordered.true) in
    ((λ e. says.0 ((less-says _ _).0 e)), (λ f. (less-says _ _).1 (says.1 f)))
