use mathlib.Core.Path.{refl}
use native.Mathlib.Omega.{arith}
use Rattle.sets.proofs.Lists.{none_yet}
use Rattle.order.proofs.Waiting.{parted_start, parted_done}
use Rattle.order.proofs.Placing.{placing_start, counted, placing_more, some-free, placing_whole}
use Rattle.order.proofs.arrange.Goals as goal

pub loop-k-init : goal.loop-k-init
loop-k-init c =
    placing_start _ _ _ refl (λ j h. none_yet 64 j) (c.release-free.ensures _ c.requires.0 (parted_start _ _ c.all_below.ensures))

pub next-a-requires : goal.next-a-requires
next-a-requires c =
    let pre = c.requires in
    some-free _ _ _ pre.0 c.loop-k.invariant pre.1 c.loop-k-test.true

pub loop-k-smaller : goal.loop-k-smaller
loop-k-smaller c =
    omega (
      arith,
      c.count-k.ensures,
      counted _ _ _ c.requires.0 c.loop-k.invariant c.next-a.ensures c.with-done.ensures,
    )

pub loop-k-preserved : goal.loop-k-preserved
loop-k-preserved c =
    let pre = c.requires.0 in
    -- those that wait with it are to be looked at
    let done = parted_done c.loop-k.invariant.parted c.next-a.ensures.member c.without.ensures c.with-done.ensures in
    placing_more _ _ _ pre c.loop-k.invariant c.next-a.ensures c.with-done.ensures c.loop-k-test.true
    (c.release-free-in-loop-k.ensures _ pre done) c.count-k.ensures

pub returns : goal.returns
returns c = placing_whole _ _ _ c.loop-k.invariant c.loop-k-test.false
