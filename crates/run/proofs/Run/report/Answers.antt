-- Refused or ended. Assumes nothing.
use mathlib.Core.Path.{sym, ◌∙◌}
use native.Mathlib.Omega.{arith}
use Rattle.rules.proofs.Reasons.{some_number}
use Rattle.run.proofs.Refusing.{reportable}
use Rattle.run.proofs.Turns.{report-refuses, report-ends}
use Rattle.run.proofs.Run.report.Goals as goal

pub returns-in-Err : goal.returns-in-Err
returns-in-Err c = report-refuses _ _ _ _ (c.from.ensures ∙ c.in-Err.ensures) (λ z. some_number c.in-Err.reason (sym c.from.ensures ∙ z))

pub overflow_mul-at : goal.overflow_mul-at
overflow_mul-at c = omega (arith, reportable _ _ _ c.in_default.ensures)

pub overflow_add-at : goal.overflow_add-at
overflow_add-at c = let may = reportable _ _ _ c.in_default.ensures in omega (arith, may, may.ranged)

pub offset_bounds-worst-at : goal.offset_bounds-worst-at
offset_bounds-worst-at c = let may = reportable _ _ _ c.in_default.ensures in omega (arith, may, may.ranged)

pub bounds-worst-at : goal.bounds-worst-at
bounds-worst-at c = let may = reportable _ _ _ c.in_default.ensures in omega (arith, may, may.ranged)

pub ended-requires : goal.ended-requires
ended-requires c = let may = reportable _ _ _ c.in_default.ensures in omega (arith, may, may.ranged)

pub returns : goal.returns
returns c = report-ends _ _ _ _ c.in_default.ensures c.ended.ensures
