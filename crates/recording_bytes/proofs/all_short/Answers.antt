-- The entries before k are short where the first of their bytes together is 0. Assumes nothing.
use mathlib.Core.Path.{refl}
use Rattle.rules.specs.Words.{all_pass}
use Rattle.recording_bytes.proofs.Entries.{clear-more}
use Rattle.recording_bytes.proofs.all_short.Goals as goal

pub loop-k-init : goal.loop-k-init
unfolding all_pass
loop-k-init c = refl

pub loop-k-preserved : goal.loop-k-preserved
loop-k-preserved c =
    clear-more c.args.frame.now c.loop-k.k c.loop-k.all c.four-all.result c.loop-k.invariant c.four-all.ensures
