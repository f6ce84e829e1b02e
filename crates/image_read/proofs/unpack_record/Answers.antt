use mathlib.Core.Path.{◌≡◌, ap, ◌∙◌}
use mathlib.Core.List.{List, [], ◌∷◌}
use Prim.Native.Nat.{ℕ, ◌<◌}
use native.Mathlib.Omega.{arith}
use lib.ListN.{length, set}
use Rattle.fields.specs.Fields.{splice}
use Rattle.fields.proofs.Splice.{set-splice}
use Rattle.image_read.proofs.unpack_record.Goals as goal

stored : (l : List ℕ) (i : ℕ) {v x : ℕ} → i < length l → v ≡ x → set l i v ≡ splice l i (x ∷ [])
stored l i {v} h e = set-splice l i v h ∙ ap (λ (y : ℕ). splice l i (y ∷ [])) e

pub returns-clause-masks_after : goal.returns-clause-masks_after
returns-clause-masks_after c = stored _ _ (omega arith) c.mask_at.ensures

pub returns-clause-deadlines_after : goal.returns-clause-deadlines_after
returns-clause-deadlines_after c = stored _ _ (omega arith) c.deadline_at.ensures
