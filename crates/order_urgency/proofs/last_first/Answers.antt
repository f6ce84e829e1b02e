use mathlib.Core.Path.{sym, ◌∙◌}
use Prim.Native.Nat.{◌-◌}
use native.Mathlib.Omega.{arith}
use borrow.Author.Tests.{ltb-true}
use lib.ListN.{get_or}
use Rattle.order_urgency.proofs.Turns.{both_in, turn_of-last, turns_end}
use Rattle.order_urgency.proofs.last_first.Goals as goal

pub hand_on-requires : goal.hand_on-requires
hand_on-requires c =
    let line = c.requires.2 in
    let all = c.all_below-all in
    let mask = get_or c.args.masks.now (get_or c.args.order.now (c.loop-k.k - 1) 0) 0 in (
      λ j p. omega (arith, ltb-true j c.args.n (sym (all.ensures.each j) ∙ (both_in mask all.result j p).1), c.requires.1),
      (c.loop-k.invariant line.0 line.1 line.2).long,
    )

pub loop-k-preserved : goal.loop-k-preserved
loop-k-preserved c = λ o p e.
    turn_of-last _ _ _ c.requires.0 o p (omega arith) c.loop-k.auto.k (e _ (omega (arith, c.loop-k.auto.k)))
    c.all_below-all.ensures (c.loop-k.invariant o p e) c.hand_on.ensures

pub returns : goal.returns
returns c =
    let line = c.requires.2 in
    turns_end c.args.u.now (λ a l m. omega arith) (c.loop-k.invariant line.0 line.1 line.2)
