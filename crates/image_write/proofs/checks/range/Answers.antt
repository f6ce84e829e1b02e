-- The loop has found no action below a at fault. Assumes nothing.
use mathlib.Core.Logic.{inl, inr, ⊎_elim}
use native.Mathlib.Omega.{arith}
use borrow.Author.Rules.{rules}
use borrow.Author.Count.{below_more}
use Rattle.rules.specs.Image.{of_tables}
use Rattle.rules.proofs.Faults.{lowest-here, lowest-none}
use Rattle.image_fields.proofs.Faults.{denied}
use Rattle.image_write.proofs.checks.range.Goals as goal
use Rattle.image_write.proofs.checks.range.Goals.{then-out_of_range-via-then-out_of_range, then-out_of_range-via-else-out_of_range+then-long_time}

pub returns-then-out_of_range : goal.returns-then-out_of_range
unfolding of_tables
returns-then-out_of_range c = (
  lowest-here c.loop-a-test.true c.loop-a.invariant.1
      (elim c.then-out_of_range.branch [
        | then-out_of_range-via-then-out_of_range w ↦ inl (c.out_of_range.ensures.0 w.if-out_of_range.true)
        | then-out_of_range-via-else-out_of_range+then-long_time w ↦ inr (w.long_time.ensures.0 w.if-long_time.true)
      ]),
  c.loop-a-test.true,
)

pub long_time-requires-clause-le_levels : goal.long_time-requires-clause-le_levels
long_time-requires-clause-le_levels c =
    (c.requires.roomy.1, λ e. c.requires.unbroken e c.loop-a.a c.loop-a-test.true)

pub loop-a-preserved : goal.loop-a-preserved
unfolding of_tables
loop-a-preserved c = (
  search rules,
  below_more _ _ c.loop-a.invariant.1
      (⊎_elim (denied c.out_of_range.ensures c.if-out_of_range.false) (denied c.long_time.ensures c.if-long_time.false)),
)

pub returns : goal.returns
returns c = lowest-none (omega arith) c.loop-a.invariant.1
