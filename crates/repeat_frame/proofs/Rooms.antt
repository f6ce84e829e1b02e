-- Room for a frame, test by test. Assumes nothing.
use Prim.Native.Nat.{ℕ, ◌*◌, ◌≤◌}
use mathlib.Core.Path.{◌≡◌, sym, ◌∙◌}
use mathlib.Core.Bool.{Bool, true, false, ◌||◌, or_assoc, or-false}
use mathlib.Core.List.{List}
use mathlib.Core.Logic.{inl, inr}
use lib.Dec.{ltb}
use lib.ListN.{length}
use Rattle.rules.specs.Refusals.{Tight}
use Rattle.rules.proofs.Differences.{not-above}
use Rattle.run.proofs.dry.Refusing.{short_of, is_tight, not_tight}
use Rattle.dry_frame.specs.Frame.{FrameLists}
use Rattle.repeat_frame.specs.BodyFrame.{body_frame_rooms}

module _ (n L N : ℕ) (durations : List ℕ) (lists : FrameLists) where
  pub record Room : Type 0 where
    pub lasting : N * n * L ≤ length durations
    pub orders : n ≤ length lists.order
    pub gives : N * n ≤ length lists.levels
    pub marked : N * n ≤ length lists.decided

  -- the four tests, one after another
  abbrev tested : Bool
  tested = ltb (length durations) (N * n * L) || ltb (length lists.order) n || ltb (length lists.levels) (N * n) || ltb (length lists.decided) (N * n)

  tested-is : tested ≡ short_of (body_frame_rooms n L N durations lists)
  unfolding short_of
  tested-is = four (ltb (length durations) (N * n * L)) (ltb (length lists.order) n) (ltb (length lists.levels) (N * n)) (ltb (length lists.decided) (N * n))
    where
      four : (a b c d : Bool) → a || b || c || d ≡ a || (b || (c || (d || false)))
      four a b c d = simp (or_assoc, or-false)

  pub tested_tight : tested ≡ true → Tight (body_frame_rooms n L N durations lists)
  tested_tight h = is_tight _ (sym tested-is ∙ h)

  pub tested_roomy : tested ≡ false → Tight (body_frame_rooms n L N durations lists) → ⊥
  tested_roomy h = not_tight _ (sym tested-is ∙ h)

  pub room : (Tight (body_frame_rooms n L N durations lists) → ⊥) → Room
  room out = record {
    lasting = not-above (λ l. out (inl l));
    orders = not-above (λ l. out (inr (inl l)));
    gives = not-above (λ l. out (inr (inr (inl l))));
    marked = not-above (λ l. out (inr (inr (inr (inl l)))));
  }
