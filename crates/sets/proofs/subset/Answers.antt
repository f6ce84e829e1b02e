use borrow.Author.Tests.{eq-eqb, eqb-true}
use Rattle.sets.proofs.Laws.{and_subset, subset_and}
use Rattle.sets.proofs.subset.Goals as goal

pub returns : goal.returns
returns c = (
  λ e. and_subset c.args.a c.args.b (eqb-true _ _ e),
  λ h. eq-eqb _ _ (subset_and c.args.a c.args.b c.ranges.a.fits h),
)
