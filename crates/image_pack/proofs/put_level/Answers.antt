-- Assumes nothing.
use mathlib.Core.Path.{refl}
use native.Mathlib.Omega.{arith}
use Rattle.rules.specs.Image.{bytes}
use Rattle.fields.proofs.Splice.{splice-join}
use Rattle.image_pack.proofs.put_level.Goals as goal

pub returns : goal.returns
returns c =
    splice-join _ _ (bytes 3 _) (bytes 3 _) _ (omega arith) refl (rw c.from.ensures at c.put_be.ensures) (rw c.from-2.ensures at c.put_be-2.ensures)
