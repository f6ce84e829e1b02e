-- The policy chosen by its year: what holds of the limits of both holds of the chosen one. Assumes nothing.
use Prim.Native.Nat.{ℕ, ◌≤◌, ◌<◌}
use mathlib.Core.Path.{◌≡◌}
use mathlib.Core.Bool.{Bool, true, false, cond}
use lib.Dec.{eqb}
use lib.IntN.{ℤ, pos}
use lib.Signed.{◌≤ℤ◌, mag}
use Rattle.rules.specs.Numbers.{clock_end, policy_2005}
use Rattle.rules.specs.Limits.{Tables, safe, limit, limit_of_sums, limit_2005, limit_by}
use Rattle.rules.specs.Demand.{Safe, Policy}
use Rattle.rules.proofs.Limits.Mixed.{Sound}
use Rattle.rules.proofs.Limits.Shape.{mixed_policy}
use Rattle.rules.proofs.Limits.Range.{Small, range_2005, range_2008}
use Rattle.rules.proofs.Limits.Alike.{Alike, alike_2005, alike_2008}
use Rattle.rules.proofs.Limits.Earlier.{earlier_policy}
use Rattle.rules.proofs.Limits.Parts.{level_0_2005, level_0_2008}

pub of_either : (P : (ℕ → ℕ → ℤ) → Type 0) (S : Tables) (policy : ℕ) → P (limit_2005 S) → P (limit S) → P (limit_by policy S)
of_either P S policy earlier later = by (eqb policy policy_2005)
  where
    by : (b : Bool) → P (cond b (limit_2005 S) (limit S))
    by true = earlier
    by false = later

module _ (S : Tables) (sound : Sound S) (policy : ℕ) where
  -- The chosen policy is a policy, so what is shown of any policy holds of it.
  abbrev pub policy_by : Policy S
  policy_by = record {
    limit = limit_by policy S;
    is_safe = of_either (λ f. (t i q : ℕ) → i < S.n → q < S.levels → pos t ≤ℤ f i q → Safe S t i q) S policy
        (earlier_policy S sound).is_safe (mixed_policy S sound).is_safe;
    lower = of_either (λ f. (t i p q : ℕ) → i < S.n → p ≤ q → q < S.levels → pos t ≤ℤ f i q → pos t ≤ℤ f i p) S policy
        (earlier_policy S sound).lower (mixed_policy S sound).lower;
    passes = of_either (λ f. (t i : ℕ) → i < S.n → Safe S t i 0 → pos t ≤ℤ f i 0) S policy
        (earlier_policy S sound).passes (mixed_policy S sound).passes;
  }

  pub range_by : Small S → (i q : ℕ) → i < S.n → q < S.levels → mag (limit_by policy S i q) < clock_end
  range_by small i q l m = of_either (λ f. mag (f i q) < clock_end) S policy (range_2005 S sound small i q l m) (range_2008 S sound small i q l m)

  -- Its limit of level 0 is that of the safe sums.
  pub level_0_by : (i : ℕ) → i < S.n → limit_by policy S i 0 ≡ limit_of_sums S (safe S) i 0
  level_0_by i l = of_either (λ f. f i 0 ≡ limit_of_sums S (safe S) i 0) S policy (level_0_2005 S i 0 sound l) (level_0_2008 S i 0 sound l)

-- Tables that agree have the same limits.
pub alike_by : {S T : Tables} {n L : ℕ} → Alike S T n L → (policy i q : ℕ) → i < n → q < L → limit_by policy S i q ≡ limit_by policy T i q
alike_by {S} {T} same policy i q m l = by (eqb policy policy_2005)
  where
    by : (b : Bool) → cond b (limit_2005 S) (limit S) i q ≡ cond b (limit_2005 T) (limit T) i q
    by true = alike_2005 same i q m l
    by false = alike_2008 same i q m l
