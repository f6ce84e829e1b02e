use Prim.Native.Nat.{ℕ, ◌-◌}
use mathlib.Core.List.{[]}
use Rattle.rules.specs.Limits.{LentTables}
use Rattle.rules.specs.Run.{Run}
use Rattle.run.specs.Calls.{run_of}
use Rattle.recording.proofs.Cycling.{Stretching}
use Rattle.recording.proofs.stretch.Given as goal

-- What holds after the decision holds after each coasted action.
abbrev pub invariant-loop-run : goal.invariant-loop-run
invariant-loop-run l =
    let T : LentTables = record { order = []; limits = l.limits; worst = l.worst; bounds = l.bounds } in
    (n L : ℕ) (r₀ : Run) → Stretching n L T l.frame r₀ (run_of l.initial.run) l.lowest → Stretching n L T l.frame r₀ (run_of l.run) l.lowest

abbrev pub decreases-loop-run : goal.decreases-loop-run
decreases-loop-run l = l.run.n - l.run.position
