-- `speed_stretch::read` meets its contract: room is above 0 exactly if margin and t together are below the deadline. Assumes nothing.
use Prim.Native.Nat.{◌+◌}
use mathlib.Core.Path.{ap, sym, ◌∙◌}
use native.Mathlib.Omega.{arith}
use borrow.Author.Tests.{lt-ltb, le-ltb}
use Rattle.rules.specs.Speed.{ratio}
use Rattle.rules.proofs.Speed.Reading.{reading_unsigned}
use Rattle.speed_stretch.specs.Answer.{gives}
use Rattle.speed_stretch.proofs.read.Goals as goal

pub returns-then-margin-t : goal.returns-then-margin-t
returns-then-margin-t c =
    let a = c.args in
    ap gives
    (ap ratio c.quotient.ensures
    ∙ sym (reading_unsigned a.average a.deadline a.margin a.t ∙ rw (lt-ltb (a.margin + a.t) a.deadline (omega arith))))

pub returns-else-margin-t : goal.returns-else-margin-t
returns-else-margin-t c =
    let a = c.args in
    ap gives (sym (reading_unsigned a.average a.deadline a.margin a.t ∙ rw (le-ltb (a.margin + a.t) a.deadline (omega arith))))
