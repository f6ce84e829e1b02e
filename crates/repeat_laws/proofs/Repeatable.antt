-- What the laws ask of a body; it follows where nothing refuses one. Assumes nothing.
use Prim.Native.Nat.{ℕ, ◌<◌}
use mathlib.Core.Path.{◌≡◌}
use mathlib.Core.Bool.{true}
use mathlib.Core.Logic.{◌⊎◌, inl, inr}
use native.Mathlib.Decide.{ℕ_discrete}
use native.Mathlib.Omega.{arith}
use Rattle.rules.specs.Image.{Profile, has}
use Rattle.rules.specs.Refusals.{Count, Range}
use Rattle.rules.specs.Repeat.{Repeats}
use Rattle.rules.proofs.Differences.{not-above}

-- An action, masks that name only the body's actions, each deadline 0 or the cycle.
pub record Repeatable (F : Profile) : Type 0 where
  pub some : 0 < F.n
  pub within : (a b : ℕ) → a < F.n → has (F.mask a) b ≡ true → b < F.n
  pub one : (a : ℕ) → a < F.n → (F.deadline a ≡ 0) ⊎ (F.deadline a ≡ F.cycle)

-- Where 3, 6 and 19 are not given.
pub repeatable : (F : Profile) (N : ℕ) → (Count F → ⊥) → (Range F → ⊥) → (Repeats F N → ⊥) → Repeatable F
repeatable F N counts range repeats = record {
  some = not-above (λ h. counts (inl (inl h)));
  within = λ a b l h. not-above (λ e. range (a, l, inr (b, omega arith, h)));
  one = λ a l. go a l (ℕ_discrete (F.deadline a) 0) (ℕ_discrete (F.deadline a) F.cycle);
}
  where
    go : (a : ℕ) → a < F.n → Dec (F.deadline a ≡ 0) → Dec (F.deadline a ≡ F.cycle) → (F.deadline a ≡ 0) ⊎ (F.deadline a ≡ F.cycle)
    go a l (yes e) d = inl e
    go a l (no e) (yes d) = inr d
    go a l (no e) (no d) = absurd (repeats (inr (a, l, (e, d))))
