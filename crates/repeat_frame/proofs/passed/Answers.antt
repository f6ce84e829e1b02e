-- Its own duration is read past those of the positions before it. Assumes nothing.
use Prim.Native.Nat.{◌+◌, ◌*◌, ◌≤◌}
use native.Mathlib.Nat.{mul-le-mul_right}
use native.Mathlib.Omega.{arith}
use Rattle.repeat_frame.proofs.passed.Goals as goal

pub bounds-durations-entry : goal.bounds-durations-entry
bounds-durations-entry c =
    let b = c.args.run.body in
    let own : c.args.run.position * b.levels + b.levels ≤ b.repeats * b.n * b.levels = omega (arith, mul-le-mul_right b.levels c.requires.more) in
    omega (arith, own, c.requires.level, c.requires.lasting)
