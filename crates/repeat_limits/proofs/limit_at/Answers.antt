-- The cycle less M from the position on. Assumes nothing.
use Prim.Native.Nat.{ℕ, ◌<◌}
use mathlib.Core.Path.{ap, sym, ◌∙◌}
use native.Mathlib.Omega.{arith}
use lib.IntN.{pos, ◌-ℤ◌}
use Rattle.repeat_limits.specs.Limits.{signed_above}
use Rattle.repeat_limits.proofs.Reading.{alone, limit-read}
use Rattle.repeat_limits.proofs.Rooms.{kept}
use Rattle.repeat_limits.proofs.limit_at.Goals as goal

pub returns-clause-is : goal.returns-clause-is
returns-clause-is c =
    let a = c.args in
    let m = c.mix_from in
    let small : m.result < signed_above = omega (arith, m.ensures.small) in
    rw (kept a.body.cycle m.result (rw c.from.ensures at c.less.ensures) (omega arith) small)
    (ap (λ (x : ℕ). pos a.body.cycle -ℤ pos x) m.ensures.mixed
    ∙ sym (limit-read (alone a.summaries.now) a.level c.spot_of-spot.ensures))
