-- Over any policy: one step keeps the worst times fitting, and the rules' test for a coast is exactly that its level cannot differ.
-- Assumes nothing.
use Prim.Native.Nat.{ℕ, suc, ◌+◌, ◌-◌, ◌≤◌, ◌<◌}
use mathlib.Core.Path.{◌≡◌, refl, sym, subst}
use mathlib.Core.Logic.{◌⊎◌, inl, inr, ◌↔◌}
use native.Mathlib.Nat.{le_refl}
use native.Mathlib.Decide.{le_ind}
use native.Mathlib.Omega.{arith}
use borrow.Author.Tests.{le-ltb}
use lib.IntN.{ℤ, pos, ◌-ℤ◌}
use lib.Signed.{◌≤ℤ◌}
use Rattle.rules.specs.Words.{sum, span, least_of}
use Rattle.rules.specs.Limits.{Tables, Gives, coast_bound}
use Rattle.rules.specs.Run.{Qualifies}
use Rattle.rules.specs.Demand.{Safe, Policy, plan_of, Steady}
use Rattle.rules.proofs.Sums.{sum_longer, sum-none, span_less}
use Rattle.rules.proofs.Limits.Signed.{sooner, time-less, time_at-most, least_all, all_least}

module _ {S : Tables} (P : Policy S) where
  -- t is at most the policy's limit at position i and level q
  abbrev pub Fits : ℕ → ℕ → ℕ → Type 0
  Fits t i q = pos t ≤ℤ P.limit i q

  -- ---- one step

  -- where the worst times at level 0 fit, what the manager gives fits
  pub gives_fits : {t i q : ℕ} → i < S.n → Safe S t i 0 → Gives (plan_of P) t i q → Fits t i q
  gives_fits {t} {i} {q} l s g = go g.fits
    where
      go : Fits t i q ⊎ (q ≡ 0) → Fits t i q
      go (inl f) = f
      go (inr e) = subst (Fits t i) (sym e) (P.passes t i l s)

  -- an action at a level that fits, within its worst time: its deadline is met and the worst times fit again
  pub step-deadline : (t d i q : ℕ) → i < S.n → q < S.levels → Fits t i q → d ≤ S.worst i q → t + d ≤ S.deadline i
  step-deadline t d i q l m f w = omega (arith, P.is_safe t i q l m f i (le_refl i) l)

  pub step-safe : (t d i q : ℕ) → i < S.n → q < S.levels → Fits t i q → d ≤ S.worst i q → Safe S (t + d) (suc i) 0
  unfolding sum
  step-safe t d i q l m f w k le lt = omega (
    arith,
    P.is_safe t i q l m f k (omega arith) lt,
    sum_longer (λ p. S.worst p 0) (suc (suc i)) (suc k) (omega arith),
  )

  -- ---- the test for a coast

  -- q fits at each position of the coast after worst times at q, and q + 1 fits at none of them at the clock of the decision
  pub record Bounded (t i q r : ℕ) : Type 0 where
    pub under : (j : ℕ) → i ≤ j → j < i + r → Fits (t + span (λ p. S.worst p q) i j) j q
    pub above : (j : ℕ) → i ≤ j → j < i + r → suc q < S.levels → Fits t j (suc q) → ⊥

  -- at any clock that the coast can meet the manager gives q
  pub between : {t i q r : ℕ} → q < S.levels → i + r ≤ S.n → Bounded t i q r
      → (s j : ℕ) → i ≤ j → j < i + r → t ≤ s → s ≤ t + span (λ p. S.worst p q) i j → Gives (plan_of P) s j q
  between {t} {i} {q} {r} top room b s j l m lo hi = record {
    level = top;
    fits = inl (sooner s _ (P.limit j q) hi (b.under j l m));
    none_above = λ p a c f. b.above j l m (omega arith) (sooner t s (P.limit j (suc q)) lo (P.lower s j (suc q) p (omega arith) a c f));
  }

  pub bounded-steady : {t i q r : ℕ} → q < S.levels → i + r ≤ S.n → Bounded t i q r → Steady P t i q r
  bounded-steady {t} {i} {q} {r} top room b = record {
    same = λ e h j l m. between top room b (t + span e i j) j l m (omega arith)
        (omega (arith, span_less e (λ p. S.worst p q) i j l (λ p a c. h p a (omega arith))));
  }

  -- the worst times at level 0 still fit after worst times at q
  steady-safe : {t i q r : ℕ} → i + r ≤ S.n → Safe S t i 0 → Steady P t i q r
      → (j : ℕ) → i ≤ j → j ≤ i + r → Safe S (t + span (λ p. S.worst p q) i j) j 0
  unfolding sum
  steady-safe {t} {i} {q} {r} room s st j l = le_ind (λ (m : ℕ). m ≤ i + r → Safe S (t + span (λ p. S.worst p q) i m) m 0)
      (λ h k a c. omega (arith, s k a c))
      (λ m k ih h x a c. omega (
        arith,
        step-safe (t + span (λ p. S.worst p q) i m) (S.worst m q) m q (omega arith) (at-worst m k h).level
            (gives_fits (omega arith) (ih (omega arith)) (at-worst m k h)) (le_refl _) x a c,
        sum_longer (λ p. S.worst p q) i m k,
      )) j l
    where
      at-worst : (m : ℕ) → i ≤ m → m < i + r → Gives (plan_of P) (t + span (λ p. S.worst p q) i m) m q
      at-worst m a c = st.same (λ p. S.worst p q) (λ p x y. le_refl _) m a c

  pub steady-bounded : {t i q r : ℕ} → i + r ≤ S.n → Safe S t i 0 → Steady P t i q r → Bounded t i q r
  steady-bounded {t} {i} {q} {r} room s st = record {
    under = λ j l m. gives_fits (omega arith) (steady-safe room s st j l (omega arith)) (st.same (λ p. S.worst p q) (λ p x y. le_refl _) j l m);
    above = λ j l m a f. (at_zero j l m).none_above (suc q) (le_refl _) a (sooner _ t (P.limit j (suc q)) (omega (arith, none j)) f);
  }
    where
      none : (j : ℕ) → sum j (λ p. 0) ≡ 0
      none j = sum-none j (λ p. 0) (λ a l. refl)

      at_zero : (j : ℕ) → i ≤ j → j < i + r → Gives (plan_of P) (t + span (λ p. 0) i j) j q
      at_zero j l m = st.same (λ p. 0) (λ p x y. omega arith) j l m

  -- The test for a coast is exactly that the level cannot differ under any later durations from zero to worst.
  pub coast-exact : {t i q r : ℕ} → q < S.levels → i + r ≤ S.n → Safe S t i 0 → Bounded t i q r ↔ Steady P t i q r
  coast-exact top room s = (bounded-steady top room, steady-bounded room s)

  -- ---- the same by the table of coast bounds

  pub bound-exact : (t i q r : ℕ) → 0 < r → i + r ≤ S.n
      → (pos t ≤ℤ coast_bound S P.limit i q r) ↔ ((j : ℕ) → i ≤ j → j < i + r → Fits (t + span (λ p. S.worst p q) i j) j q)
  unfolding coast_bound
  bound-exact t i q r some room = rw (le-ltb (S.n - i) r (omega arith)) (
    (λ h j a b. (time-less t (P.limit j q) (span (λ p. S.worst p q) i j)).0
        ((time_at-most t (f j)).1 (least_all f t 0 i (r - 1) ((time_at-most t (least_of f i (r - 1))).0 h) j a (omega arith)))),
    (λ h. (time_at-most t (least_of f i (r - 1))).1 (all_least f t 0 i (r - 1)
        (λ j a b. (time_at-most t (f j)).0 ((time-less t (P.limit j q) (span (λ p. S.worst p q) i j)).1 (h j a (omega arith)))))),
  )
    where
      f : ℕ → ℤ
      f j = P.limit j q -ℤ pos (span (λ p. S.worst p q) i j)

  pub qualifies-bounded : {cap t i q r : ℕ} → Qualifies cap (plan_of P) t i q r → Bounded t i q r
  qualifies-bounded {cap} {t} {i} {q} {r} Q = record {
    under = (bound-exact t i q r Q.some Q.room).0 Q.under;
    above = λ j a b l f. Q.above l j a b f;
  }

  pub bounded-qualifies : {cap t i q r : ℕ} → 0 < r → r ≤ cap → i + r ≤ S.n → Bounded t i q r → Qualifies cap (plan_of P) t i q r
  bounded-qualifies {cap} {t} {i} {q} {r} some most room b = record {
    some = some;
    most = most;
    room = room;
    under = (bound-exact t i q r some room).1 b.under;
    above = λ l j a c f. b.above j a c l f;
  }
