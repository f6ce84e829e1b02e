-- The times of an action that are above 16,777,215, and where the longest one stands. Assumes nothing.
use Prim.Native.Nat.{ℕ, ◌-◌, ◌≤◌, ◌<◌}
use mathlib.Core.Logic.{◌⊎◌, inl, inr, ⊎_elim, ◌↔◌}
use native.Mathlib.Omega.{arith}
use Rattle.rules.specs.Numbers.{longest_time}
use Rattle.rules.specs.Refusals.{LongTime, RowBreaks}
use Rattle.rules.proofs.Accepted.{rises}

module _ (average worst : ℕ → ℕ) where
  -- a time of level q is above 16,777,215
  abbrev pub LongAt : ℕ → Type 0
  LongAt q = (longest_time < average q) ⊎ (longest_time < worst q)

  -- In order the longest time is the worst one at the top level.
  pub longest_top : (L : ℕ) → 1 ≤ L → (RowBreaks L average worst → ⊥) → (longest_time < worst (L - 1)) ↔ LongTime L average worst
  longest_top L some none = ((λ h. (L - 1, omega arith, inr h)), (λ f. above f.0 f.1 f.2))
    where
      above : (q : ℕ) → q < L → LongAt q → longest_time < worst (L - 1)
      above q b long =
          let rise : worst q ≤ worst (L - 1) = rises worst L (λ f. none (inr (inr f))) q (L - 1) (omega arith) (omega arith) in
          let under : worst q < average q → ⊥ = λ f. none (inl (q, b, f)) in
          ⊎_elim (λ h. omega arith) (λ h. omega arith) long
