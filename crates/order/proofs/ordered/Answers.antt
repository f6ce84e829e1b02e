use mathlib.Core.Path.{◌∙◌}
use Rattle.sets.proofs.Lists.{none_yet}
use Rattle.order.proofs.Judging.{ordered-loop, ordered-placed}
use Rattle.order.proofs.Numbering.{ordered_numbers}
use Rattle.order.proofs.ordered.Goals as goal

pub returns-then-by_number : goal.returns-then-by_number
returns-then-by_number c =
    ordered_numbers (c.by_number.ensures.0 c.if-by_number.true) c.number.ensures.by_index (λ k l. c.number.ensures.rest k l ∙ none_yet 64 k)

pub returns-then-urgencies : goal.returns-then-urgencies
returns-then-urgencies c =
    let s = c.args in
    ordered-loop s.n s.cycle s.masks.now s.deadlines.now c.urgencies.ensures.looped c.if-urgencies.true

pub returns : goal.returns
returns c =
    let s = c.args in
    ordered-placed s.n s.cycle s.masks.now s.deadlines.now c.urgencies.ensures.looped c.if-urgencies.false
    c.urgencies.ensures.urgent c.arrange.ensures
