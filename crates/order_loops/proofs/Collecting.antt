-- The actions at fault, collected one by one into a set, and the lowest of them.
use mathlib.Core.Path.{◌≡◌, sym, subst}
use mathlib.Core.Bool.{true, false}
use mathlib.Core.Logic.{◌↔◌, ◌⊎◌, inl, inr}
use Prim.Native.Nat.{ℕ, ◌+◌, ◌<◌}
use native.Mathlib.Nat.{le_refl}
use native.Mathlib.Omega.{arith}
use Rattle.rules.specs.Image.{has}
use Rattle.rules.specs.Refusals.{LowestFault}
use Rattle.rules.proofs.Tests.{not-both}
use Rattle.rules.proofs.Faults.{lowest-here, lowest-none}
use Rattle.sets.specs.Sets.{With, Lowest}
use Rattle.sets.proofs.Bits.{has-empty}
use Rattle.sets.proofs.Cases.{eq-or_ne}
use Rattle.sets.proofs.Laws.{added, stays, either}

-- the set has the actions below a that are at fault
abbrev pub Collected : (ℕ → Type 0) → ℕ → ℕ → Type 0
Collected Faulty a set = (b : ℕ) → (has set b ≡ true) ↔ ((b < a) × Faulty b)

module _ (Faulty : ℕ → Type 0) where
  pub none_collected : Collected Faulty 0 0
  none_collected b = ((λ e. absurd (not-both e (has-empty b))), (λ h. absurd (omega (arith, h.0))))

  module _ {a : ℕ} (set : ℕ) (so_far : Collected Faulty a set) where
    -- the next action is at fault
    pub one_more : {set' : ℕ} → Faulty a → With set a set' → Collected Faulty (a + 1) set'
    one_more {set'} here w b = (to, from)
      where
        by : (has set b ≡ true) ⊎ (a ≡ b) → (b < a + 1) × Faulty b
        by (inl e) = let h = (so_far b).0 e in (omega (arith, h.0), h.1)
        by (inr e) = (omega (arith, e), subst Faulty e here)

        to : has set' b ≡ true → (b < a + 1) × Faulty b
        to e = by (either w b e)

        back : (a ≡ b) ⊎ (a ≡ b → ⊥) → (b < a + 1) × Faulty b → has set' b ≡ true
        back (inl e) h = subst (λ (c : ℕ). has set' c ≡ true) e (added w)
        back (inr n) (l, h) = stays w b ((so_far b).1 (omega (arith, below n l), h))
          where
            below : (a ≡ b → ⊥) → b < a + 1 → b < a
            below n l = omega arith

        from : (b < a + 1) × Faulty b → has set' b ≡ true
        from h = back (eq-or_ne a b) h

    -- it is not
    pub none_more : (Faulty a → ⊥) → Collected Faulty (a + 1) set
    none_more never b = (to, from)
      where
        to : has set b ≡ true → (b < a + 1) × Faulty b
        to e = let h = (so_far b).0 e in (omega (arith, h.0), h.1)

        by : (a ≡ b) ⊎ (a ≡ b → ⊥) → b < a + 1 → Faulty b → has set b ≡ true
        by (inl e) l h = absurd (never (subst Faulty (sym e) h))
        by (inr n) l h = (so_far b).1 (omega arith, h)

        from : (b < a + 1) × Faulty b → has set b ≡ true
        from h = by (eq-or_ne a b) h.0 h.1

  -- ---- all of them

  pub all_collected : {a n : ℕ} (set : ℕ) → a ≡ n → Collected Faulty a set → Collected Faulty n set
  all_collected set e c = subst (λ (m : ℕ). Collected Faulty m set) e c

  module _ {n : ℕ} (set : ℕ) (all : Collected Faulty n set) where
    pub lowest_collected : {r : ℕ} → Lowest set r → LowestFault Faulty n r
    lowest_collected {r} low =
        let here = (all r).0 low.member in
        lowest-here here.0 (λ b l h. not-both ((all b).1 (omega (arith, here.0), h)) (low.least b l)) here.1

    pub empty_collected : set ≡ 0 → LowestFault Faulty n n
    empty_collected e = lowest-none (le_refl n) (λ b l h. not-both ((all b).1 (l, h)) (subst (λ (s : ℕ). has s b ≡ false) (sym e) (has-empty b)))
