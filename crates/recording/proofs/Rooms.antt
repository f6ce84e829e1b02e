-- 17 by the lengths of the tables and of the frame. Assumes nothing.
use Prim.Native.Nat.{ℕ, ◌*◌, ◌≤◌, ◌<◌}
use mathlib.Core.Path.{◌≡◌, sym, ◌∙◌}
use mathlib.Core.Bool.{Bool, true, false, ◌||◌, or_assoc, or-false}
use mathlib.Core.List.{List}
use mathlib.Core.Logic.{inl, inr}
use native.Mathlib.Omega.{arith}
use lib.Dec.{ltb}
use lib.ListN.{length}
use Rattle.rules.specs.Numbers.{longest_coast, duration_bytes}
use Rattle.rules.specs.Limits.{LentTables}
use Rattle.rules.specs.Refusals.{Tight}
use Rattle.rules.specs.Recording.{frame_bytes}
use Rattle.run.proofs.dry.Refusing.{short_of, is_tight, not_tight}
use Rattle.recording.specs.Recording.{recorded_rooms}

module _ (n L : ℕ) (T : LentTables) (frame : List ℕ) where
  -- the four tests, one after another
  abbrev tested : Bool
  tested =
      ltb (length T.limits) (n * L) || ltb (length T.worst) (n * L) || ltb (length T.bounds) (n * L * longest_coast)
      || ltb (length frame) (n * L * duration_bytes)

  tested-is : tested ≡ short_of (recorded_rooms n L T frame)
  unfolding short_of frame_bytes
  tested-is =
      four (ltb (length T.limits) (n * L)) (ltb (length T.worst) (n * L)) (ltb (length T.bounds) (n * L * longest_coast))
      (ltb (length frame) (n * L * duration_bytes))
    where
      four : (a b c d : Bool) → a || b || c || d ≡ a || (b || (c || (d || false)))
      four a b c d = simp (or_assoc, or-false)

  pub tested_tight : tested ≡ true → Tight (recorded_rooms n L T frame)
  tested_tight h = is_tight _ (sym tested-is ∙ h)

  pub tested_roomy : tested ≡ false → Tight (recorded_rooms n L T frame) → ⊥
  tested_roomy h = not_tight _ (sym tested-is ∙ h)

  pub room : (Tight (recorded_rooms n L T frame) → ⊥) → n * L * duration_bytes ≤ length frame
  unfolding frame_bytes
  room out = by (λ l. out (inr (inr (inr (inl l)))))
    where
      by : (length frame < n * L * duration_bytes → ⊥) → n * L * duration_bytes ≤ length frame
      by h = omega arith
