-- Assumes nothing.
use mathlib.Core.Path.{◌≡◌}
use mathlib.Core.List.{List, [], ◌∷◌}
use Prim.Native.Nat.{ℕ, ◌+◌, ◌≤◌}
use native.Mathlib.Omega.{arith}
use borrow.Author.Rules.{rules}
use lib.ListN.{length, set, length-set}
use Rattle.fields.specs.Fields.{splice}
use Rattle.fields.proofs.Splice.{set-splice, splice-join}
use Rattle.repeat_tables.proofs.put_sums.Goals as goal

four : (l : List ℕ) (at w x y z : ℕ) → at + 4 ≤ length l
    → set (set (set (set l at w) (at + 1) x) (at + 2) y) (at + 3) z ≡ splice l at (w ∷ x ∷ y ∷ z ∷ [])
four l at w x y z h =
    let first = set l at w in
    let second = set first (at + 1) x in
    let third = set second (at + 2) y in
    splice-join l at (w ∷ x ∷ y ∷ []) (z ∷ []) (at + 3) (omega arith) (omega arith)
    (splice-join l at (w ∷ x ∷ []) (y ∷ []) (at + 2) (omega arith) (omega arith)
    (splice-join l at (w ∷ []) (x ∷ []) (at + 1) (omega arith) (omega arith) (set-splice l at w (omega arith))
    (set-splice first (at + 1) x (simp length-set (omega arith))))
    (set-splice second (at + 2) y (simp length-set (omega arith))))
    (set-splice third (at + 3) z (simp length-set (omega arith)))

pub returns : goal.returns
returns c = four _ _ _ _ _ _ (search rules)
