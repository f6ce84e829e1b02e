-- The entries passed are short where their bits together are. Assumes nothing.
use Prim.Native.Nat.{◌<◌}
use mathlib.Core.Path.{refl}
use native.Mathlib.Omega.{arith}
use lib.ListN.{length-take}
use Rattle.std.proofs.lemmas.List.{get_or-take}
use Rattle.rules.specs.Words.{all_pass}
use Rattle.run.proofs.dry.Refusing.{all_short-more}
use Rattle.run.proofs.dry.all_short.Goals as goal

pub loop-duration-init : goal.loop-duration-init
unfolding all_pass
loop-duration-init c = refl

pub loop-duration-preserved : goal.loop-duration-preserved
loop-duration-preserved c =
    let l = c.loop-duration in
    let inside : l.duration-index < c.args.cells = omega (arith, length-take c.args.cells c.args.durations.now) in
    rw (get_or-take c.args.cells c.args.durations.now l.duration-index 0 inside)
    (all_short-more c.args.durations.now l.duration-index l.all l.invariant)
