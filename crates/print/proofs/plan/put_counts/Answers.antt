-- Two numbers with a space, and one with the newline. Assumes nothing.
use Prim.Native.Nat.{zero-le}
use mathlib.Core.List.{append_assoc}
use Rattle.text.specs.Digits.{line}
use Rattle.text.proofs.Puts.{put_then, put_as}
use Rattle.print.specs.Plan.{counts_line}
use Rattle.print.proofs.plan.put_counts.Goals as goal

pub returns : goal.returns
unfolding line counts_line
returns c =
    put_as (simp append_assoc)
    (put_then zero-le (put_then zero-le c.put_field-second.ensures c.put_field-third.ensures) c.put_field.ensures)
