use mathlib.Core.Path.{sym, ◌∙◌}
use native.Mathlib.Omega.{arith}
use Rattle.rules.specs.Image.{profile}
use Rattle.image_check.proofs.Checks.{spare-says, spare_blamed, spare-header, spare_none}
use Rattle.image_check.proofs.whole.check_spare.Goals as goal

pub returns-in-Some : goal.returns-in-Some
unfolding profile
returns-in-Some c =
    let x = c.requires in
    rw (c.on.ensures.0, c.on.ensures.1) (spare_blamed _ (spare-says x.header c.in-Some.ensures.0) (omega (arith, x.header.n, x.records.few_actions)) (omega (arith, x.header.n, c.in-Some.ensures.1)))

pub returns-then-head-ne0 : goal.returns-then-head-ne0
unfolding profile
returns-then-head-ne0 c =
    let x = c.requires.header in
    rw (c.from.ensures.0, c.from.ensures.1) (spare-header _ (spare-says x c.in_default.ensures) (omega (arith, x.n)) (λ z. c.if-head-ne0.true (x.spare ∙ z)))

pub returns : goal.returns
unfolding profile
returns c =
    let x = c.requires.header in
    spare_none _ (spare-says x c.in_default.ensures) (omega (arith, x.n)) (sym x.spare ∙ c.if-head-ne0.false)
