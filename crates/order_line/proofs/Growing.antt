-- A list of actions that grows at its end.
use mathlib.Core.Path.{◌≡◌, sym, ap, ◌∙◌}
use mathlib.Core.Logic.{◌⊎◌, inl, inr, ◌↔◌}
use mathlib.Core.List.{List}
use Prim.Native.Nat.{ℕ, suc, ◌≤◌, ◌<◌}
use native.Mathlib.Nat.{le_refl}
use native.Mathlib.Omega.{arith}
use lib.ListN.{length, get_or, set}
use lib.Seq.{get_or-set_same, get_or-set_other}
use Rattle.rules.proofs.Order.Stepwise.{Earlier}
use Rattle.sets.proofs.Cases.{eq-or_ne}

-- a is one of the first k of the list
abbrev pub Among : List ℕ → ℕ → ℕ → Type 0
Among l k a = Earlier (λ i. get_or l i 0) k a

module _ (l : List ℕ) (k a : ℕ) where
  -- the others stay where they are
  pub past : (j : ℕ) → (j ≡ k → ⊥) → get_or (set l k a) j 0 ≡ get_or l j 0
  past j ne = get_or-set_other l k j a 0 ne

  pub among_set : (j : ℕ) → j ≤ k → (b : ℕ) → Among l j b ↔ Among (set l k a) j b
  among_set j m b = (λ e. (e.0, e.1, past e.0 (omega (arith, e.1)) ∙ e.2), λ e. (e.0, e.1, sym (past e.0 (omega (arith, e.1))) ∙ e.2))

  module _ (long : k < length l) where
    pub here : get_or (set l k a) k 0 ≡ a
    here = get_or-set_same l k a 0 long

    -- Where the first k are those done, the first k + 1 are those and a.
    pub among_more : {Done Done' : ℕ → Type 0} → ((b : ℕ) → Done b ↔ Among l k b) → ((b : ℕ) → Done' b ↔ (Done b ⊎ (a ≡ b)))
        → (b : ℕ) → Done' b ↔ Among (set l k a) (suc k) b
    among_more {Done} {Done'} exact more b = (λ d. to ((more b).0 d), λ s. (more b).1 (from s (eq-or_ne s.0 k)))
      where
        to : Done b ⊎ (a ≡ b) → Among (set l k a) (suc k) b
        to (inl d) = let s = (among_set k (le_refl k) b).0 ((exact b).0 d) in (s.0, omega (arith, s.1), s.2)
        to (inr e) = (k, le_refl _, here ∙ e)

        from : (s : Among (set l k a) (suc k) b) → (s.0 ≡ k) ⊎ (s.0 ≡ k → ⊥) → Done b ⊎ (a ≡ b)
        from s (inl e) = inr (sym here ∙ ap (λ (i : ℕ). get_or (set l k a) i 0) (sym e) ∙ s.2)
        from s (inr ne) = inl ((exact b).1 (s.0, omega (arith, s.1), sym (past s.0 ne) ∙ s.2))
