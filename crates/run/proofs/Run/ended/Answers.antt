-- The record at its end, field by field. Assumes nothing.
use Prim.Native.Nat.{ℕ, ◌+◌, ◌-◌}
use mathlib.Core.Path.{◌≡◌}
use mathlib.Core.Bool.{true, false, or-true, or-false}
use native.Mathlib.Numerals.{add-one}
use lib.Dec.{ltb}
use borrow.Author.Tests.{lt-ltb, le-ltb}
use Rattle.rules.specs.Run.{Run, ended}
use Rattle.run.proofs.Run.ended.Goals as goal

module _ (w t : ℕ) (r : Run) where
  over : ltb w (t - r.clock) ≡ true → record r { position = r.position + 1; clock = t; running = false; left = 0; overrun = true } ≡ ended w t r
  unfolding ended
  over e = rw (e, add-one, or-true r.overrun)

  in_time : ltb w (t - r.clock) ≡ false → record r { position = r.position + 1; clock = t; running = false } ≡ ended w t r
  unfolding ended
  in_time e = rw (e, add-one, or-false r.overrun)

pub returns-then-over : goal.returns-then-over
returns-then-over c = over _ _ _ (lt-ltb _ _ c.if-over.true)

pub returns-else-over : goal.returns-else-over
returns-else-over c = in_time _ _ _ (le-ltb _ _ c.if-over.false)
