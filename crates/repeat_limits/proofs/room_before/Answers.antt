-- What is left for M, and for the averages where they count. Assumes nothing.
use Prim.Native.Nat.{ℕ, ◌+◌, ◌≤◌, ◌<◌}
use mathlib.Core.Path.{◌≡◌, ap, ◌∙◌}
use native.Mathlib.Omega.{arith}
use lib.IntN.{ℤ, pos, ◌-ℤ◌}
use lib.Signed.{mag}
use mir.Syntax.{w64}
use mir.Val.{to_z, of_z}
use Rattle.rules.proofs.Differences.{take-both}
use Rattle.repeat_laws.proofs.Ranges.{difference_within}
use Rattle.repeat_limits.specs.Limits.{signed_above, greatest_later, room_left}
use Rattle.repeat_limits.proofs.Rooms.{kept, room-some}
use Rattle.repeat_limits.proofs.room_before.Goals as goal
use Rattle.repeat_limits.proofs.room_before.Goals.{After-less-left}

-- what is left of the cycle, and of that after so many bodies
module _ (c : After-less-left) where
  left_is : to_z w64 (of_z w64 c.less-left.result) ≡ pos c.args.cycle -ℤ pos c.args.begins
  left_is = kept c.args.cycle c.args.begins c.less-left.ensures (omega arith) (omega (arith, c.requires.early))

  module _ (k : ℕ) (few : k ≤ greatest_later) where
    near : mag (to_z w64 (of_z w64 c.less-left.result) -ℤ pos k) < signed_above
    near =
        rw (left_is, take-both c.args.cycle c.args.begins k)
        (difference_within c.args.cycle (c.args.begins + k) signed_above (omega arith) (omega (arith, few, c.requires.early)))

    after_is : {z : ℤ} → z ≡ to_z w64 (of_z w64 c.less-left.result) -ℤ pos k
        → to_z w64 (of_z w64 z) ≡ pos c.args.cycle -ℤ pos (c.args.begins + k)
    after_is e =
        kept c.args.cycle (c.args.begins + k)
        (e ∙ rw left_is (take-both c.args.cycle c.args.begins k))
        (omega arith) (omega (arith, few, c.requires.early))

pub returns-then-later : goal.returns-then-later
returns-then-later c =
    let a = c.args in
    let e = c.bodies_after-later.ensures in
    let left = (goal.at.returns-then-later c).After-less-left in
    rw (after_is left _ e.few_lowest c.taken-mix.ensures, after_is left _ e.few_mix c.taken-average.ensures)
    (room-some a.cycle a.begins c.bodies_after-later.result c.if-later.true ∙ ap (room_left a.cycle a.begins) e.is)
