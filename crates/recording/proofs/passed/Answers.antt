-- The cell of the running action lies in the table and in the frame, and its end within the clock limit. Assumes nothing.
use Prim.Native.Nat.{ℕ, ◌+◌}
use mathlib.Core.Path.{ap, ◌∙◌}
use native.Mathlib.Omega.{arith}
use Rattle.rules.specs.Run.{ended}
use Rattle.rules.specs.Dry.{cell}
use Rattle.run.specs.Calls.{run_of}
use Rattle.run.proofs.dry.Readiness.{place}
use Rattle.recording.proofs.Cycling.{entry}
use Rattle.recording.proofs.passed.Goals as goal

pub overflow_mul-at : goal.overflow_mul-at
overflow_mul-at c = omega (arith, place c.requires)

pub overflow_add-at : goal.overflow_add-at
overflow_add-at c = omega (arith, place c.requires)

pub overflow_mul-at-2 : goal.overflow_mul-at-2
overflow_mul-at-2 c = omega (arith, place c.requires)

pub be32-duration-requires : goal.be32-duration-requires
be32-duration-requires c = (entry c.args.frame.now c.requires).lies

pub offset_bounds-worst-at : goal.offset_bounds-worst-at
offset_bounds-worst-at c = omega (arith, place c.requires)

pub bounds-worst-at : goal.bounds-worst-at
bounds-worst-at c = omega (arith, place c.requires)

-- what be32 read is the duration
pub overflow_add-run : goal.overflow_add-run
overflow_add-run c =
    let run = c.requires in
    omega (arith, place run, (place run).ranges, run, (entry c.args.frame.now run).says, c.be32-duration.ensures.0)

pub ended-requires : goal.ended-requires
ended-requires c =
    let run = c.requires in
    omega (arith, place run, (place run).ranges, run)

pub returns : goal.returns
returns c =
    let a = c.args in
    let r = a.run in
    c.ended.ensures
    ∙ ap (λ (d : ℕ). ended (cell a.worst.now r.levels r.position r.level) (r.clock + d) (run_of r))
    (c.be32-duration.ensures.0 ∙ (entry a.frame.now c.requires).says)
