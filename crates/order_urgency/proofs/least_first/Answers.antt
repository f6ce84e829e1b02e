use mathlib.Core.Path.{refl, sym, ap, ◌∙◌}
use Prim.Native.Nat.{ℕ}
use native.Mathlib.Nat.{lt_of_le_of_lt}
use native.Mathlib.Omega.{arith}
use borrow.Author.Tests.{lt-ltb, ltb-true}
use lib.Bits.{and_le_l}
use Rattle.rules.specs.Image.{has}
use Rattle.rules.proofs.Tests.{not-both}
use Rattle.sets.proofs.Bits.{has-empty}
use Rattle.sets.proofs.Laws.{was}
use Rattle.order_urgency.specs.Spread.{Foremost}
use Rattle.order_urgency.proofs.Handing.{handed-each}
use Rattle.order_urgency.proofs.Turns.{turns_start, turn_of-least, front-more, turns_end}
use Rattle.order_urgency.proofs.least_first.Goals as goal
use Rattle.order_urgency.proofs.least_first.Goals.{After-foremost-a}

-- the action whose turn it is
chosen : (c : After-foremost-a) → Foremost c.loop-left.u c.loop-left.left c.foremost-a.result
chosen c = c.foremost-a.ensures c.loop-left.invariant.2

pub loop-left-init : goal.loop-left-init
loop-left-init c =
    let all = c.all_below-left.ensures in (
      λ a p. ltb-true a _ (sym (all.each a) ∙ p),
      turns_start _ _ _ (λ a l. all.each a ∙ lt-ltb a _ l) c.requires.2 (λ a l. refl),
      λ a p. absurd (not-both p (has-empty a)),
    )

pub loop-left-preserved : goal.loop-left-preserved
loop-left-preserved c =
    let out = c.without-left.ensures in
    let few = c.requires.0 in
    let inv = c.loop-left.invariant in
    let fits = lt_of_le_of_lt (and_le_l _ c.without-left.result) (c.type_inv.masks c.foremost-a.result).fits in (
      λ a p. inv.0 a (was out a p),
      turn_of-least _ _ _ few inv.0 (chosen (goal.at.loop-left-preserved c).After-foremost-a) out (handed-each _ _ _ fits c.hand_each.ensures) inv.1,
      front-more _ (λ a p. omega (arith, few, inv.0 a p)) (chosen (goal.at.loop-left-preserved c).After-foremost-a) out c.hand_each.ensures c.loop-left.front inv.2,
    )

pub returns : goal.returns
returns c =
    turns_end c.args.u.now
    (λ a l m. not-both m (ap (λ (s : ℕ). has s a) c.loop-left-test.false ∙ has-empty a)) c.loop-left.invariant.1
