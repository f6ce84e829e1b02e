-- At each position, and by the ends where these tell. Assumes nothing.
use Prim.Native.Nat.{◌+◌, ◌-◌, ◌*◌}
use mathlib.Core.Path.{◌∙◌}
use mathlib.Core.List.{[]}
use mathlib.Core.Logic.{⊎_map}
use native.Mathlib.Omega.{arith}
use Rattle.repeat_laws.proofs.Standing.{rest-left}
use Rattle.repeat_limits.proofs.Reading.{standing_mix}
use Rattle.repeat_limits.proofs.Reaching.{by_each, by_either, untold, told}
use Rattle.repeat_limits.proofs.least_reach.Goals as goal

pub returns-then-level-levels-clause-is : goal.returns-then-level-levels-clause-is
returns-then-level-levels-clause-is c i h =
    let a = c.args in
    let each = c.reach-each in
    let left = rest-left c.requires.spans.counts.some_action h in
    by_each a.body (record { order = []; summaries = a.summaries.now; worst = a.worst.now }) i a.level a.length each.result (each.ensures.is i h)
    (⊎_map (λ u. u) (λ u. (u.0, omega (arith, u.1, left)))
    (untold a.body.levels a.level a.length (a.after * a.body.n + (a.body.n - a.place)) c.if-level-levels.true))

pub returns-clause-is : goal.returns-clause-is
returns-clause-is c i h =
    let a = c.args in
    let each = c.reach-each in
    let room = c.requires.spans in
    let left = rest-left room.counts.some_action h in
    let so = told a.body.levels a.level a.length (a.after * a.body.n + (a.body.n - a.place)) c.if-level-levels.false room.most room.room in
    rw (c.min.ensures, c.max.ensures)
    (by_either a.body (record { order = []; summaries = a.summaries.now; worst = a.worst.now }) i a.level a.length each.result (each.ensures.is i h) so.0 (omega (arith, so.1, left))
    (c.mix_from-first.ensures.mixed ∙ standing_mix a.summaries.now a.level h) (c.last_reach-last.ensures.is i h))
