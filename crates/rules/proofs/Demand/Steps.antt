-- The cycle position by position, as the run calls make it, is the cycle by whole coasts. Assumes nothing.
use Prim.Native.Nat.{ℕ, zero, suc, ◌+◌, ◌≤◌, ◌<◌}
use mathlib.Core.Path.{◌≡◌, ap, subst, ◌∙◌}
use mathlib.Core.Logic.{◌⊎◌, inl, inr}
use native.Mathlib.Nat.{le_antisymm}
use native.Mathlib.Decide.{dec_le}
use native.Mathlib.Omega.{arith}
use Rattle.rules.specs.Limits.{Tables, Gives}
use Rattle.rules.specs.Run.{Qualifies, Grants}
use Rattle.rules.specs.Demand.{Policy, plan_of, clock}
use Rattle.rules.proofs.Demand.Fewest.{Cycle}

-- From position i, level q, x actions of the coast left and m decisions to come: with none left a decision is made, else q is repeated.
pub data Steps {S : Tables} (cap : ℕ) (P : Policy S) (t : ℕ) (d got : ℕ → ℕ) : ℕ → ℕ → ℕ → ℕ → Type 0 where
  over : {i q x : ℕ} → i ≡ S.n → Steps cap P t d got i q x 0
  decide : {i q m : ℕ} (p x : ℕ) → i < S.n → Gives (plan_of P) (clock t d i) i p → Grants cap (plan_of P) (clock t d i) i p (suc x) → got i ≡ p
      → Steps cap P t d got (suc i) p x m → Steps cap P t d got i q 0 (suc m)
  coast : {i q x m : ℕ} → i < S.n → got i ≡ q → Steps cap P t d got (suc i) q x m → Steps cap P t d got i q (suc x) m

module _ {S : Tables} (cap : ℕ) (P : Policy S) (t : ℕ) (d got : ℕ → ℕ) where
  grants_room : {s i q r : ℕ} → i < S.n → Grants cap (plan_of P) s i q r → i + r ≤ S.n
  grants_room {s} {i} {q} {r} l g = go g.is
    where
      go : Qualifies cap (plan_of P) s i q r ⊎ ((r ≡ 1) × ((x : ℕ) → Qualifies cap (plan_of P) s i q x → ⊥)) → i + r ≤ S.n
      go (inl Q) = Q.room
      go (inr e) = omega (arith, e.0)

  -- position i got p, and the x after it
  from-here : (i x p : ℕ) → got i ≡ p → ((j : ℕ) → suc i ≤ j → j < suc i + x → got j ≡ p) → (j : ℕ) → i ≤ j → j < i + suc x → got j ≡ p
  from-here i x p e later j a b = at (dec_le j i)
    where
      at : Dec (j ≤ i) → got j ≡ p
      at (yes y) = ap got (le_antisymm y a) ∙ e
      at (no y) = later j (omega arith) (omega arith)

  coasted : {i q m : ℕ} (x : ℕ) → Steps cap P t d got i q x m → i + x ≤ S.n
      → ((j : ℕ) → i ≤ j → j < i + x → got j ≡ q) × Steps cap P t d got (i + x) q 0 m
  coasted {i} {q} {m} zero s l = ((λ j a b. let no_such : ⊥ = omega arith in absurd no_such), subst (λ (y : ℕ). Steps cap P t d got y q 0 m) (omega arith) s)
  coasted (suc x) (Steps.over e) l = let no_such : ⊥ = omega arith in absurd no_such
  coasted {i} {q} {m} (suc x) (Steps.coast h g s) l = go (coasted x s (omega arith))
    where
      go : ((j : ℕ) → suc i ≤ j → j < suc i + x → got j ≡ q) × Steps cap P t d got (suc i + x) q 0 m
          → ((j : ℕ) → i ≤ j → j < i + suc x → got j ≡ q) × Steps cap P t d got (i + suc x) q 0 m
      go c = (from-here i x q g c.0, subst (λ (y : ℕ). Steps cap P t d got y q 0 m) (omega arith) c.1)

  pub steps-cycle : (fuel : ℕ) {i q m : ℕ} → S.n < i + fuel → Steps cap P t d got i q 0 m → Cycle cap P t d got i m
  steps-cycle zero l (Steps.over e) = Cycle.over e
  steps-cycle zero l (Steps.decide p x h g gr e s) = let no_such : ⊥ = omega arith in absurd no_such
  steps-cycle (suc fuel) l (Steps.over e) = Cycle.over e
  steps-cycle (suc fuel) {i} l (Steps.decide {m = m} p x h g gr e s) =
      go (coasted x s (omega (arith, grants_room h gr))) (λ k w z. steps-cycle fuel {i = k} {q = p} {m = m} w z)
    where
      go : ((j : ℕ) → suc i ≤ j → j < suc i + x → got j ≡ p) × Steps cap P t d got (suc i + x) p 0 m
          → ((k : ℕ) → S.n < k + fuel → Steps cap P t d got k p 0 m → Cycle cap P t d got k m) → Cycle cap P t d got i (suc m)
      go c on = Cycle.decide p (suc x) h g gr (from-here i x p e c.0)
          (on (i + suc x) (omega arith) (subst (λ (y : ℕ). Steps cap P t d got y p 0 m) (omega arith) c.1))
