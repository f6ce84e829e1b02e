-- What a read gives stands after what came before it.
use Rattle.std.proofs.Common.{◌-◌, subst, length, rules}
use Rattle.std.specs.Io.KnownBytes.{Consumes}
use Rattle.files.proofs.Reading.{Consumes_both, take_after}
use Rattle.files.proofs.read_full.Goals as goal

pub loop-done-preserved : goal.loop-done-preserved
loop-done-preserved g c =
    let done = c.loop-done.done in
    let more = Consumes_both _ _ _ _ _ c.loop-done.invariant.taken c.in_ok-n.ensures.bytes.0 in
    record {
      in_range = search rules;
      taken = subst (Consumes _ _) (take_after done (length c.loop-done.out - done) c.in_ok-n.n c.loop-done.out c.read.new.buf c.loop-done.invariant.in_range c.in_ok-n.ensures.bound.0) more;
    }
