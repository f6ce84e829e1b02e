use mathlib.Core.Path.{refl}
use Rattle.rules.specs.Image.{due}
use Rattle.rules.proofs.Tests.{not-both}
use Rattle.order.proofs.by_number.Goals as goal

pub returns-then-one_deadline : goal.returns-then-one_deadline
unfolding due
returns-then-one_deadline c =
    let one = c.one_deadline.ensures.0 c.if-one_deadline.true in
    (λ e. record { one = one; lower = c.lower_alone.ensures.0 e }, λ x. c.lower_alone.ensures.1 x.lower)

pub returns : goal.returns
unfolding due
returns c = (λ e. absurd (not-both e refl), λ x. absurd (not-both (c.one_deadline.ensures.1 x.one) c.if-one_deadline.false))
