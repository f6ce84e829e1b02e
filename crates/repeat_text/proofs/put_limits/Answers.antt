-- The limits before the level are put. Assumes nothing.
use mathlib.Core.Path.{◌≡◌, ap, ◌∙◌}
use mathlib.Core.List.{◌∷◌}
use native.Mathlib.Omega.{arith}
use lib.IntN.{ℤ}
use mir.Syntax.{w64}
use Rattle.std.proofs.Common.{rules, to_z, of_z}
use Rattle.text.specs.Digits.{space, signed}
use Rattle.text.proofs.Puts.{put_then, put_as}
use Rattle.print.proofs.Lines.{loop-none, loop_turn}
use Rattle.repeat_text.proofs.Lines.{at_level, limit-told, not_refused, entry}
use Rattle.repeat_text.proofs.put_limits.Goals as goal

pub loop-q-init : goal.loop-q-init
loop-q-init c = (omega arith, omega arith, loop-none (omega arith) _)

pub unwrap-limit-requires : goal.unwrap-limit-requires
unwrap-limit-requires c = not_refused (at_level c.requires.1 (omega arith)) c.requires.2 c.limit.result c.limit.ensures

pub loop-q-preserved : goal.loop-q-preserved
loop-q-preserved c =
    let a = c.args in
    let is = limit-told (at_level c.requires.1 (omega arith)) c.requires.2 (rw c.unwrap-limit.ensures at c.limit.ensures) in
    let z = c.unwrap-limit.result in
    let read : to_z w64 (of_z w64 z) ≡ z = search rules in
    let both = put_then c.loop-q.invariant.2.counts.0 c.put_byte-next.ensures c.put_signed_long-to.ensures in
    (omega arith, omega arith, loop_turn c.requires.0.0 (entry a.body a.summaries.now a.position) c.loop-q.q c.loop-q.invariant.2 (put_as (ap (λ (z : ℤ). space ∷ signed z) (read ∙ is)) both))
