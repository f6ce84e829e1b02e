use mathlib.Core.Path.{refl}
use Rattle.order.proofs.Judging.{ordered-timed, verdict_loop, some_looped, verdict_told}
use Rattle.order.proofs.judge.Goals as goal

pub unwrap-a-requires : goal.unwrap-a-requires
unwrap-a-requires c =
    let s = c.args in
    some_looped (ordered-timed s.n s.cycle s.masks.now s.deadlines.now s.worst.now s.stride (c.in_default.ensures)) refl c.first_looped.result c.first_looped.ensures

pub returns-in_default-clause-verdict : goal.returns-in_default-clause-verdict
returns-in_default-clause-verdict c =
    let s = c.args in
    let known = ordered-timed s.n s.cycle s.masks.now s.deadlines.now s.worst.now s.stride (c.in_default.ensures) in
    rw (c.on.ensures.0, c.on.ensures.1) (verdict_loop known refl c.requires.0.few (rw c.unwrap-a.ensures at c.first_looped.ensures).0)

pub returns-clause-verdict : goal.returns-clause-verdict
returns-clause-verdict c =
    let s = c.args in
    verdict_told (ordered-timed s.n s.cycle s.masks.now s.deadlines.now s.worst.now s.stride (c.in-Some.ensures)) refl c.fit-unfit.result (c.fit-unfit.ensures s.masks.now)
