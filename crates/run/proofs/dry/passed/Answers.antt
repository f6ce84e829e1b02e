-- The cell of the running action lies in both tables, and its end within the clock limit. Assumes nothing.
use native.Mathlib.Omega.{arith}
use Rattle.run.proofs.dry.Readiness.{place}
use Rattle.run.proofs.dry.passed.Goals as goal

pub overflow_mul-at : goal.overflow_mul-at
overflow_mul-at c = omega (arith, place c.requires)

pub overflow_add-at : goal.overflow_add-at
overflow_add-at c = omega (arith, place c.requires)

pub offset_bounds-worst-at : goal.offset_bounds-worst-at
offset_bounds-worst-at c = omega (arith, place c.requires)

pub bounds-worst-at : goal.bounds-worst-at
bounds-worst-at c = omega (arith, place c.requires)

pub offset_bounds-durations-at : goal.offset_bounds-durations-at
offset_bounds-durations-at c = omega (arith, place c.requires)

pub bounds-durations-at : goal.bounds-durations-at
bounds-durations-at c = omega (arith, place c.requires)

pub overflow_add-run : goal.overflow_add-run
overflow_add-run c = let run = c.requires in omega (arith, place run, (place run).ranges, run)

pub ended-requires : goal.ended-requires
ended-requires c = let run = c.requires in omega (arith, place run, (place run).ranges, run)
