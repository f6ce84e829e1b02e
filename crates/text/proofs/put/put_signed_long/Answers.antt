-- A negative number has its sign and then its digits, any other its digits. Assumes nothing.
use mathlib.Core.Path.{◌≡◌}
use mathlib.Core.Bool.{false}
use lib.IntN.{pos}
use lib.Signed.{le_z}
use mir.Facts.{to_z-of_z}
use Rattle.text.proofs.Puts.{put_then, put_as}
use Rattle.text.proofs.Signed.{as_negative}
use Rattle.text.proofs.put.put_signed_long.Goals as goal
use Rattle.text.proofs.put.put_signed_long.Goals.{Else-z-ge0}

negative : (c : Else-z-ge0) → le_z (pos 0) c.args.z ≡ false
negative c = rw (to_z-of_z c.ranges.z) at c.if-z-ge0.false

pub returns : goal.returns
returns c =
    put_as
    (as_negative c.args.z c.unsigned_abs-size.result (negative (goal.at.returns c).Else-z-ge0) (rw (to_z-of_z c.ranges.z) at c.unsigned_abs-size.ensures.value))
    (put_then c.requires.0 c.put_byte-next.ensures c.put_long-2.ensures)
