use native.Mathlib.Omega.{arith}
use borrow.Author.Tests.{leb-true, le-leb}
use lib.Pow.{pow_pos}
use Rattle.sets.proofs.Laws.{lt-below, below-lt}
use Rattle.sets.proofs.below.Goals as goal

pub returns : goal.returns
returns c =
    let s = c.args.s in
    let n = c.args.n in
    let r = c.all_below.result in (
      λ e. lt-below n s (omega (arith, leb-true s r e, c.all_below.ensures.is, pow_pos n)),
      λ h. le-leb s r (omega (arith, below-lt n s c.ranges.s.fits h, c.all_below.ensures.is)),
    )
