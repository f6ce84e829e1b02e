-- A cycle by whole coasts, each granted by the rules: every action gets the asked manager's level, no deadline is missed, and no way of
-- coasting that cannot differ from that manager decides fewer times. Over any policy, any cap on the coast and any start that fits.
-- Assumes nothing.
use Prim.Native.Nat.{ℕ, suc, ◌+◌, ◌-◌, ◌≤◌, ◌<◌, zero-le, suc-le-suc}
use mathlib.Core.Path.{◌≡◌, sym, subst}
use mathlib.Core.Logic.{◌⊎◌, inl, inr}
use native.Mathlib.Nat.{le_refl, le_antisymm}
use native.Mathlib.Decide.{dec_lt, le_ind}
use native.Mathlib.Omega.{arith}
use Rattle.rules.specs.Words.{sum, span}
use Rattle.rules.specs.Limits.{Tables, Gives}
use Rattle.rules.specs.Run.{Qualifies, Grants}
use Rattle.rules.specs.Demand.{Safe, Policy, plan_of, clock, Coast, Way, Kept}
use Rattle.rules.proofs.Sums.{sum_longer}
use Rattle.rules.proofs.Limits.Signed.{sooner}
use Rattle.rules.proofs.Demand.Asked.{gives_one}
use Rattle.rules.proofs.Demand.Coast.{Fits, gives_fits, step-deadline, step-safe, Bounded, between, bounded-steady, steady-bounded, qualifies-bounded, bounded-qualifies}

-- The cycle of the rules from position i to the end, with m decisions, in which position j gets level `got j`.
pub data Cycle {S : Tables} (cap : ℕ) (P : Policy S) (t₀ : ℕ) (d got : ℕ → ℕ) : ℕ → ℕ → Type 0 where
  over : {i : ℕ} → i ≡ S.n → Cycle cap P t₀ d got i 0
  decide : {i m : ℕ} (q r : ℕ) → i < S.n → Gives (plan_of P) (clock t₀ d i) i q → Grants cap (plan_of P) (clock t₀ d i) i q r
      → ((j : ℕ) → i ≤ j → j < i + r → got j ≡ q) → Cycle cap P t₀ d got (i + r) m → Cycle cap P t₀ d got i (suc m)

module _ {S : Tables} (cap : ℕ) (some-coast : 0 < cap) (P : Policy S) where
  -- r = 1 qualifies where the worst times fit
  one-qualifies : {t i q : ℕ} → i < S.n → Safe S t i 0 → Gives (plan_of P) t i q → Qualifies cap (plan_of P) t i q 1
  one-qualifies {t} {i} {q} l s g = bounded-qualifies P (omega arith) some-coast (omega arith) (record {
    under = λ j a b. subst (λ (x : ℕ). Fits P (t + span (λ p. S.worst p q) i x) x q) (le_antisymm a (omega arith))
        (sooner _ t (P.limit i q) (omega arith) (gives_fits P l s g));
    above = λ j a b c f. g.none_above (suc q) (le_refl _) c (subst (λ (x : ℕ). Fits P t x (suc q)) (le_antisymm (omega arith) a) f);
  })

  grants_qualifies : {t i q r : ℕ} → i < S.n → Safe S t i 0 → Gives (plan_of P) t i q → Grants cap (plan_of P) t i q r → Qualifies cap (plan_of P) t i q r
  grants_qualifies {t} {i} {q} {r} l s g h = go h.is
    where
      go : Qualifies cap (plan_of P) t i q r ⊎ ((r ≡ 1) × ((x : ℕ) → Qualifies cap (plan_of P) t i q x → ⊥)) → Qualifies cap (plan_of P) t i q r
      go (inl x) = x
      go (inr x) = absurd (x.1 1 (one-qualifies l s g))

  module _ (t₀ : ℕ) (d : ℕ → ℕ) where
    -- durations within worst while the manager gives q
    abbrev Slow : ℕ → ℕ → ℕ → Type 0
    Slow i q r = (j : ℕ) → i ≤ j → j < i + r → Gives (plan_of P) (clock t₀ d j) j q → d j ≤ S.worst j q

    -- along a coast the clock stays within what the bounds allow
    along : {i q r : ℕ} → q < S.levels → i + r ≤ S.n → Bounded P (clock t₀ d i) i q r → Slow i q r
        → (j : ℕ) → i ≤ j → j ≤ i + r → clock t₀ d j ≤ clock t₀ d i + span (λ p. S.worst p q) i j
    unfolding sum
    along {i} {q} {r} top room b w j l = le_ind (λ (m : ℕ). m ≤ i + r → clock t₀ d m ≤ clock t₀ d i + span (λ p. S.worst p q) i m)
        (λ h. omega arith)
        (λ m k ih h. omega (
          arith,
          ih (omega arith),
          sum_longer (λ p. S.worst p q) i m k,
          w m k h (between P top room b (clock t₀ d m) m k h (omega (arith, sum_longer d i m k)) (ih (omega arith))),
        )) j l

    along-gives : {i q r : ℕ} → q < S.levels → i + r ≤ S.n → Bounded P (clock t₀ d i) i q r → Slow i q r
        → (j : ℕ) → i ≤ j → j < i + r → Gives (plan_of P) (clock t₀ d j) j q
    along-gives {i} top room b w j l m =
        between P top room b (clock t₀ d j) j l m (omega (arith, sum_longer d i j l)) (along top room b w j l (omega arith))

    -- what is left of a coast, from any position in it, passes the test at the clock met there
    rest : {i q r : ℕ} → q < S.levels → i + r ≤ S.n → Bounded P (clock t₀ d i) i q r → Slow i q r
        → (k x : ℕ) → i ≤ k → k < i + r → k + x ≡ i + r → Bounded P (clock t₀ d k) k q x
    rest {i} {q} {r} top room b w k x l m e = record {
      under = λ j a c. sooner _ _ (P.limit j q)
          (omega (arith, along top room b w k l (omega arith), sum_longer (λ p. S.worst p q) i k l, sum_longer (λ p. S.worst p q) k j a))
          (b.under j (omega arith) (omega arith));
      above = λ j a c h f. b.above j (omega arith) (omega arith) h (sooner _ _ (P.limit j (suc q)) (omega (arith, sum_longer d i k l)) f);
    }

    -- the worst times at level 0 fit again wherever the given levels were the manager's
    pub safe_on : (got : ℕ → ℕ) (i k : ℕ) → i ≤ k → k ≤ S.n → ((j : ℕ) → i ≤ j → j < k → Gives (plan_of P) (clock t₀ d j) j (got j))
        → ((j : ℕ) → j < S.n → d j ≤ S.worst j (got j)) → Safe S (clock t₀ d i) i 0 → Safe S (clock t₀ d k) k 0
    unfolding sum
    safe_on got i k l room g w s = le_ind (λ (m : ℕ). m ≤ k → Safe S (clock t₀ d m) m 0) (λ h. s)
        (λ m a ih h x b c. omega (
          arith,
          step-safe P (clock t₀ d m) (d m) m (got m) (omega arith) (g m a h).level (gives_fits P (omega arith) (ih (omega arith)) (g m a h)) (w m (omega arith)) x b c,
        ))
        k l (le_refl k)

    module _ (got : ℕ → ℕ) (within : (j : ℕ) → j < S.n → d j ≤ S.worst j (got j)) where
      -- Each action gets the level that a manager asked before every action would give.
      same_levels : {i m : ℕ} → Cycle cap P t₀ d got i m → Safe S (clock t₀ d i) i 0
          → (j : ℕ) → i ≤ j → j < S.n → Gives (plan_of P) (clock t₀ d j) j (got j)
      same_levels (Cycle.over e) s j l h = let no_such : ⊥ = omega arith in absurd no_such
      same_levels (Cycle.decide {i = i} q r l g gr same cycle) s j a h = go (dec_lt j (i + r))
          (λ b. same_levels cycle (safe_on got i (i + r) (omega arith) Q.room here within s) j b h)
        where
          Q : Qualifies cap (plan_of P) (clock t₀ d i) i q r
          Q = grants_qualifies l s g gr

          here : (x : ℕ) → i ≤ x → x < i + r → Gives (plan_of P) (clock t₀ d x) x (got x)
          here x b c = subst (λ (y : ℕ). Gives (plan_of P) (clock t₀ d x) x y) (sym (same x b c))
              (along-gives g.level Q.room (qualifies-bounded P Q)
              (λ y u v _. subst (λ (z : ℕ). d y ≤ S.worst y z) (same y u v) (within y (omega (arith, Q.room)))) x b c)

          go : Dec (j < i + r) → (i + r ≤ j → Gives (plan_of P) (clock t₀ d j) j (got j)) → Gives (plan_of P) (clock t₀ d j) j (got j)
          go (yes c) ih = here j a c
          go (no c) ih = ih (omega arith)

      -- The cycle is itself such a way of coasting.
      cycle_way : {i m : ℕ} → Cycle cap P t₀ d got i m → Safe S (clock t₀ d i) i 0 → Way cap P t₀ d i m
      cycle_way (Cycle.over e) s = Way.over e
      cycle_way (Cycle.decide {i = i} q r l g gr same cycle) s = Way.decide r coast
          (cycle_way cycle (safe_on got i (i + r) (omega arith) Q.room
          (λ j a b. same_levels (Cycle.decide q r l g gr same cycle) s j a (omega (arith, Q.room))) within s))
        where
          Q : Qualifies cap (plan_of P) (clock t₀ d i) i q r
          Q = grants_qualifies l s g gr

          coast : Coast cap P (clock t₀ d i) i r
          coast = record {
            level = q;
            some = Q.some;
            most = omega (arith, Q.most);
            room = Q.room;
            decided = g;
            steady = bounded-steady P g.level Q.room (qualifies-bounded P Q);
          }

      module _ (gives : (j : ℕ) → j < S.n → Gives (plan_of P) (clock t₀ d j) j (got j)) (safe_at : (j : ℕ) → j ≤ S.n → Safe S (clock t₀ d j) j 0) where
        -- what is left of another's coast qualifies for the cycle's own decision in it
        overtaken : {k r i q : ℕ} → Coast cap P (clock t₀ d k) k r → k ≤ i → i < k + r → Gives (plan_of P) (clock t₀ d i) i q
            → (x : ℕ) → i + x ≡ k + r → Qualifies cap (plan_of P) (clock t₀ d i) i q x
        overtaken {k} {r} {i} {q} c a b g x e = bounded-qualifies P (omega arith) (omega (arith, c.most)) (omega (arith, c.room))
            (subst (λ (y : ℕ). Bounded P (clock t₀ d i) i y x) (gives_one (plan_of P) (along-gives c.decided.level c.room bounded slow i a b) g)
            (rest c.decided.level c.room bounded slow i x a b e))
          where
            bounded : Bounded P (clock t₀ d k) k c.level r
            bounded = steady-bounded P c.room (safe_at k (omega (arith, c.room))) c.steady

            slow : Slow k c.level r
            slow j u v h = subst (λ (z : ℕ). d j ≤ S.worst j z) (gives_one (plan_of P) (gives j (omega (arith, c.room))) h) (within j (omega (arith, c.room)))

        -- A cycle that is no further back is never behind.
        ahead : {k i m w : ℕ} → Way cap P t₀ d k w → Cycle cap P t₀ d got i m → k ≤ i → m ≤ w
        ahead (Way.over e) (Cycle.over f) a = le_refl 0
        ahead (Way.over e) (Cycle.decide q r l g gr same cycle) a = let no_such : ⊥ = omega arith in absurd no_such
        ahead (Way.decide x c way) (Cycle.over f) a = zero-le
        ahead {k = k} {i = i} (Way.decide {m = w} x c way) (Cycle.decide {m = m} q r l g gr same cycle) a =
            go (dec_lt i (k + x)) (ahead way cycle) (ahead way (Cycle.decide q r l g gr same cycle))
          where
            go : Dec (i < k + x) → (k + x ≤ i + r → m ≤ w) → (k + x ≤ i → suc m ≤ w) → suc m ≤ suc w
            go (yes b) on stay = suc-le-suc (on (omega (arith, gr.greatest (k + x - i) (overtaken c a b g (k + x - i) (omega arith)))))
            go (no b) on stay = omega (arith, stay (omega arith))

  -- Each action starts as the one before it ends and none exceeds its worst time at the level it got.
  pub cycle-kept : (t₀ : ℕ) (d got : ℕ → ℕ) (m : ℕ) → Safe S t₀ 0 0 → ((j : ℕ) → j < S.n → d j ≤ S.worst j (got j))
      → Cycle cap P t₀ d got 0 m → Kept cap P t₀ d got m
  unfolding sum
  cycle-kept t₀ d got m begins within cycle = record {
    meets = λ j l. omega (arith, step-deadline P (clock t₀ d j) (d j) j (got j) l (asked j l).level (gives_fits P l (safe_at j (omega arith)) (asked j l)) (within j l));
    asked = asked;
    coasts = cycle_way t₀ d got within cycle start;
    fewest = λ w way. ahead t₀ d got within asked safe_at way cycle (le_refl 0);
  }
    where
      start : Safe S (clock t₀ d 0) 0 0
      start k a b = omega (arith, begins k a b)

      asked : (j : ℕ) → j < S.n → Gives (plan_of P) (clock t₀ d j) j (got j)
      asked j l = same_levels t₀ d got within cycle start j zero-le l

      safe_at : (j : ℕ) → j ≤ S.n → Safe S (clock t₀ d j) j 0
      safe_at j l = safe_on t₀ d got 0 j zero-le l (λ x a b. asked x (omega arith)) within start
