-- Refused, or a cycle begun and run to its end. Assumes nothing.
use mathlib.Core.Path.{ap}
use mathlib.Core.List.{[]}
use native.Mathlib.Omega.{arith}
use Rattle.rules.specs.Limits.{LentTables}
use Rattle.rules.specs.Run.{Run, begun}
use Rattle.std.proofs.lemmas.Result.{err_from_is_err_and}
use Rattle.rules.proofs.Reasons.{some_number}
use Rattle.run.proofs.dry.Refusing.{is-counted, ready-begun}
use Rattle.run.specs.Dry.{DryLists}
use Rattle.run.proofs.dry.Drying.{made, dries, dries_not}
use Rattle.run.proofs.dry.dry_run.Goals as goal

pub returns : goal.returns
unfolding made
returns c =
    dries _ _ _ _ _ _ c.in_ok-dry_refusal.ensures (rw c.begun-run.ensures at c.decide-last.ensures)

pub decide-last-requires-clause-waiting : goal.decide-last-requires-clause-waiting
decide-last-requires-clause-waiting c =
    rw c.begun-run.ensures (ready-begun _ _ _ _ _ c.in_ok-dry_refusal.ensures)

pub decide-last-requires-clause-left_value : goal.decide-last-requires-clause-left_value
unfolding begun
decide-last-requires-clause-left_value c =
    let e = c.begun-run.ensures in
    let a = c.args in
    let T : LentTables = record { order = []; limits = a.limits.now; worst = a.worst.now; bounds = a.bounds.now } in
    let lists : DryLists = record { levels = a.given.now; decided = a.marks.now } in
    let n = is-counted a.n a.levels T a.durations.now lists c.in_ok-dry_refusal.ensures in
    (ap (λ (s : Run). s.left) e, omega (arith, n, ap (λ (s : Run). s.position) e, ap (λ (s : Run). s.n) e))

pub returns-in_err-dry_refusal : goal.returns-in_err-dry_refusal
unfolding made
returns-in_err-dry_refusal c =
    let p = err_from_is_err_and c.from_residual.result c.from_residual.ensures.1 in
    rw (p.1, p.2) (dries_not _ _ _ _ _ _ c.in_err-dry_refusal.ensures (some_number c.in_err-dry_refusal.field-0.0))
