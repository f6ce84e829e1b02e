-- `trace::trace_refusal` meets its contract. Assumes nothing.
use mathlib.Core.Path.{refl}
use mathlib.Core.Logic.{inl, inr, ⊎_elim}
use native.Mathlib.Omega.{arith}
use Rattle.rules.specs.Refresh.{records}
use Rattle.trace.proofs.trace_refusal.Goals as goal

pub returns-then-trace-gt-MOST_RECORDS : goal.returns-then-trace-gt-MOST_RECORDS
unfolding records
returns-then-trace-gt-MOST_RECORDS c = inl (inr c.if-trace-gt-MOST_RECORDS.true, refl)

pub returns : goal.returns
unfolding records
returns c = inr (⊎_elim (λ h. h c.if-trace-ne0.false) (λ h. omega arith), refl)
