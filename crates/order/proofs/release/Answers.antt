use Rattle.rules.proofs.Tests.{not-both}
use Rattle.sets.proofs.Laws.{end-member, was}
use Rattle.order.proofs.Waiting.{some_left, one_left, parted_free, parted_held}
use Rattle.order.proofs.release.Goals as goal
use Rattle.order.proofs.release.Goals.{then-subset, else-subset}

pub end-b-requires : goal.end-b-requires
end-b-requires c =
    some_left (c.type_inv.masks _).fits c.ranges.done.fits
    (λ h. not-both (c.subset.ensures.1 h) c.if-subset.false)

pub loop-t-preserved : goal.loop-t-preserved
loop-t-preserved c =
    let low = c.lowest-a.ensures in
    let out = c.above_lowest-t.ensures _ low in
    let d = c.ranges.done.fits in (
      λ j p. c.loop-t.invariant.0 j (was out j p),
      λ n x g. elim c.if-subset.branch [
        | then-subset w ↦ rw (w.waiting-is, w.r-is) (parted_free (c.loop-t.invariant.1 n x g) low out (c.subset.ensures.0 w.if-subset.true) w.with-r.ensures)
        | else-subset w ↦ rw (w.waiting-is, w.r-is) (parted_held (c.loop-t.invariant.1 n x g) low out (end-member _ w.end-b.ensures).0 (one_left (c.type_inv.masks _).fits d _ (end-member _ w.end-b.ensures).1) w.with.ensures)
      ],
    )

pub returns : goal.returns
returns c = λ n x g. rw c.loop-t-test.false at (c.loop-t.invariant.1 n x g)
