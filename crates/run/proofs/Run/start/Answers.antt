-- A start by the ranges of n and L. Assumes nothing.
use mathlib.Core.Path.{sym}
use native.Mathlib.Omega.{arith}
use Rattle.rules.specs.Run.{start}
use Rattle.run_decision.proofs.Rows.{into, past}
use Rattle.run.proofs.Ranges.{Counts, fit_counts, unfit-three}
use Rattle.run.proofs.Run.start.Goals as goal
use Rattle.run.proofs.Run.start.Goals.{Else-not-counts_fit}

-- n and L fit 32 bits
counted : (c : Else-not-counts_fit) → let a = c.args in Counts a.n a.levels
counted c = fit_counts _ _ c.if-not-counts_fit.ensures

pub returns-then-not-counts_fit : goal.returns-then-not-counts_fit
unfolding start
returns-then-not-counts_fit c =
    let h = sym c.if-not-counts_fit.ensures in
    past _ _ _ h (rw (c.from.ensures, sym (unfit-three _ _ h), c.begun.ensures))

pub overflow_cast-n : goal.overflow_cast-n
overflow_cast-n c = omega (arith, counted (goal.at.overflow_cast-n c).Else-not-counts_fit)

pub overflow_cast-levels : goal.overflow_cast-levels
overflow_cast-levels c = omega (arith, counted (goal.at.overflow_cast-levels c).Else-not-counts_fit)

pub returns : goal.returns
unfolding start
returns c =
    let h = sym c.if-not-counts_fit.ensures in
    into _ _ _ h (rw c.begun-2.ensures)
