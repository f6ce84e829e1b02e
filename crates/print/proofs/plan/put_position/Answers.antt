-- Position, action, the limits of the position's row, the newline. Assumes nothing.
use Prim.Native.Nat.{ℕ, ◌+◌, ◌-◌, ◌*◌}
use mathlib.Core.Path.{ap, ◌∙◌}
use mathlib.Core.List.{List, [], ◌∷◌, ◌++◌}
use native.Mathlib.Omega.{arith}
use lib.IntN.{pos}
use lib.ListN.{get_or}
use Rattle.text.specs.Digits.{newline, space, decimal}
use Rattle.text.proofs.Puts.{put_then, put_as}
use Rattle.print.proofs.Lines.{position-is, limits-part}
use Rattle.print.proofs.plan.put_position.Goals as goal

pub returns : goal.returns
returns c =
    let room = c.requires.0.0 in
    let L = c.args.levels in
    let row_at = c.args.i * L in
    let part = limits-part c.args.limits.now row_at L (row_at + L - row_at) (omega arith) (omega arith) in
    put_as
    (ap (λ (x : List ℕ). ((decimal c.args.i ++ (space ∷ [])) ++ decimal c.args.action) ++ (x ++ (newline ∷ []))) part
    ∙ position-is c.args.i c.args.action (λ q. get_or c.args.limits.now (row_at + q) (pos 0)) L)
    (put_then room (put_then room c.put_field-second.ensures c.put_number-third.ensures)
    (put_then c.put_number-third.ensures.counts.0 c.put_limits-end.ensures c.put_byte.ensures))
