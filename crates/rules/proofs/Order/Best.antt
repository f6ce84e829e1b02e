-- Proposition 2.4: if any permitted order meets every deadline, the order by urgency does.
use Prim.Native.Nat.{ℕ, zero, suc, ◌+◌, ◌≤◌, ◌<◌}
use mathlib.Core.Path.{◌≡◌, ap, sym, subst, ◌∙◌}
use mathlib.Core.Logic.{◌⊎◌, inl, inr, ◌↔◌}
use native.Mathlib.Nat.{le_trans, le_of_eq, not-suc-le-zero, lt_of_not-le}
use native.Mathlib.Decide.{dec_le, dec_lt, ℕ_discrete}
use native.Mathlib.Omega.{arith}
use Rattle.rules.specs.Words.{sum}
use Rattle.rules.specs.Order.{Order, Permitted, MustFollow, Urgency, ends, Meets, ByUrgency, Ready}
use Rattle.rules.proofs.Sums.{sum_mono, sum_same, sum-add, sum-none, sum_one, sum_longer, keep, keep_yes, keep_no, keep_mono}
use Rattle.rules.proofs.Sums.{greatest, Found, find, both}

-- ---- sums over positions are sums over actions

-- what the actions at the first k positions take, summed over the actions
within : {n : ℕ} → Order n → (ℕ → ℕ) → ℕ → ℕ
within {n} o c k = sum n (λ a. keep (dec_lt (o.pos a) k) (c a))

keep-step : (p k x : ℕ) → keep (dec_lt p (suc k)) x ≡ keep (dec_lt p k) x + keep (ℕ_discrete p k) x
unfolding keep
keep-step p k x = go (dec_lt p k) (ℕ_discrete p k)
  where
    go : (d : Dec (p < k)) (e : Dec (p ≡ k)) → keep (dec_lt p (suc k)) x ≡ keep d x + keep e x
    go (yes a) (yes b) = omega arith
    go (yes a) (no b) = omega (arith, keep_yes (dec_lt p (suc k)) x (omega arith))
    go (no a) (yes b) = omega (arith, keep_yes (dec_lt p (suc k)) x (omega arith))
    go (no a) (no b) = omega (arith, keep_no (dec_lt p (suc k)) x (λ l. omega arith))

-- the same summed over the positions
within-ends : {n : ℕ} (o : Order n) (c : ℕ → ℕ) (k : ℕ) → k ≤ n → within o c k ≡ sum k (λ j. c (o.at j))
unfolding within sum
within-ends {n} o c zero l = sum-none n _ (λ a m. keep_no (dec_lt (o.pos a) 0) (c a) (λ h. omega arith))
within-ends {n} o c (suc k) l = omega (arith, one_more, sum-add n before here, within-ends o c k (omega arith), only, kept)
  where
    before : ℕ → ℕ
    before a = keep (dec_lt (o.pos a) k) (c a)

    here : ℕ → ℕ
    here a = keep (ℕ_discrete (o.pos a) k) (c a)

    one_more : sum n (λ a. keep (dec_lt (o.pos a) (suc k)) (c a)) ≡ sum n (λ a. before a + here a)
    one_more = sum_same n _ _ (λ a m. keep-step (o.pos a) k (c a))

    only : sum n here ≡ here (o.at k)
    only = sum_one n (o.at k) here (o.at_lt k l)
        (λ a m ne. keep_no (ℕ_discrete (o.pos a) k) (c a) (λ e. ne (sym (o.at_pos a m) ∙ ap o.at e)))

    kept : here (o.at k) ≡ c (o.at k)
    kept = keep_yes (ℕ_discrete (o.pos (o.at k)) k) (c (o.at k)) (o.pos_at k l)

-- what one order has done before position k takes no longer than what another has before position m, if that has those actions too
within-less : {n : ℕ} (o p : Order n) (c : ℕ → ℕ) (k m : ℕ)
    → ((a : ℕ) → a < n → o.pos a < k → p.pos a < m) → within o c k ≤ within p c m
unfolding within
within-less {n} o p c k m h = sum_mono n _ _ (λ a l. keep_mono (dec_lt (o.pos a) k) (dec_lt (p.pos a) m) (c a) (h a l))

-- ---- what must follow comes later

pub follower_present : {n : ℕ} {before : ℕ → ℕ → Type 0} {a b : ℕ} → MustFollow n before a b → b < n
follower_present (MustFollow.next l h) = l
follower_present (MustFollow.through l h f) = follower_present f

pub follows_later : {n : ℕ} {before : ℕ → ℕ → Type 0} (o : Order n) → Permitted before o
    → {a b : ℕ} → a < n → MustFollow n before a b → o.pos a < o.pos b
follows_later o p {a} {b} l (MustFollow.next m h) = p a b l m h
follows_later o p {a} l (MustFollow.through {b = b} m h f) = omega (arith, p a b l m h, follows_later o p m f)

-- an order in which each action is ready at its position is permitted
pub ready_permitted : {n : ℕ} {before : ℕ → ℕ → Type 0} (o : Order n) → ((k : ℕ) → k < n → Ready n before o k (o.at k)) → Permitted before o
ready_permitted {before = before} o ready b a l m h = (ready (o.pos a) (o.pos_lt a m)).free b l (subst (before b) (sym (o.at_pos a m)) h)

-- the order by urgency is permitted
pub by_urgency_permitted : {n : ℕ} {before : ℕ → ℕ → Type 0} {U : ℕ → ℕ} (o : Order n) → ByUrgency n before U o → Permitted before o
by_urgency_permitted o g = ready_permitted o g.ready

-- ---- the order by urgency is best

-- urgency never falls along the order
abbrev pub Rises : {n : ℕ} → (ℕ → ℕ) → Order n → Type 0
Rises {n} U o = (j k : ℕ) → j ≤ k → k < n → U (o.at j) ≤ U (o.at k)

module _ (n : ℕ) (before : ℕ → ℕ → Type 0) (D U c : ℕ → ℕ) (urgent : (a : ℕ) → a < n → Urgency n before D a (U a)) where
  -- In a permitted order that meets every deadline each action ends by its urgency.
  ends-by_urgency : (t : ℕ) (o : Order n) → Permitted before o → Meets t o c D → (a : ℕ) → a < n → t + ends o c (o.pos a) ≤ U a
  ends-by_urgency t o p meets a l = go (urgent a l).met
    where
      by_own : (b : ℕ) → b < n → t + ends o c (o.pos b) ≤ D b
      by_own b m = le_trans (meets (o.pos b) (o.pos_lt b m)) (le_of_eq (ap D (o.at_pos b m)))

      go : (U a ≡ D a) ⊎ ((b : ℕ) × MustFollow n before a b × (U a ≡ D b)) → t + ends o c (o.pos a) ≤ U a
      go (inl e) = omega (arith, by_own a l)
      go (inr f) = omega (arith, f.2, by_own f.0 (follower_present f.1), longer)
        where
          longer : ends o c (o.pos a) ≤ ends o c (o.pos f.0)
          longer = sum_longer (λ j. c (o.at j)) _ _ (omega (arith, follows_later o p l f.1))

  -- In the order p the last of the actions that o has up to position k ends no earlier than o ends them all.
  rising_best : (t : ℕ) (o p : Order n) → Rises U o → Permitted before p → Meets t p c D → Meets t o c D
  rising_best t o p rises permitted meets k l = go (greatest (λ i. p.pos (o.at i)) k)
    where
      go : (j : ℕ) × (j ≤ k) × ((i : ℕ) → i ≤ k → p.pos (o.at i) ≤ p.pos (o.at j)) → t + ends o c k ≤ D (o.at k)
      go g = omega (
        arith,
        within-ends o c (suc k) l,
        within-less o p c (suc k) (suc last) (λ a m h. omega (arith, g.2 (o.pos a) (omega arith), ap p.pos (o.at_pos a m))),
        within-ends p c (suc last) (p.pos_lt slowest present),
        ends-by_urgency t p permitted meets slowest present,
        rises g.0 k g.1 l,
        (urgent (o.at k) (o.at_lt k l)).own,
      )
        where
          slowest : ℕ
          slowest = o.at g.0

          present : slowest < n
          present = o.at_lt g.0 (omega (arith, g.1))

          last : ℕ
          last = p.pos slowest

  -- a predecessor is at least as urgent
  urgency_rises : (b a : ℕ) → b < n → a < n → before b a → U b ≤ U a
  urgency_rises b a l m h = go (urgent a m).met
    where
      go : (U a ≡ D a) ⊎ ((x : ℕ) × MustFollow n before a x × (U a ≡ D x)) → U b ≤ U a
      go (inl e) = omega (arith, (urgent b l).later a (MustFollow.next m h))
      go (inr f) = omega (arith, f.2, (urgent b l).later f.0 (MustFollow.through m h f.1))

  module _ (before? : (b a : ℕ) → Dec (before b a)) (o : Order n) (g : ByUrgency n before U o) where
    -- Of what waits at position j nothing is more urgent than the action there: it is ready, or a predecessor of it waits too.
    waiting : (fuel j a : ℕ) → o.pos a < fuel → a < n → j ≤ o.pos a → U (o.at j) ≤ U a
    waiting zero j a s l w = absurd (not-suc-le-zero s)
    waiting (suc fuel) j a s l w = go (find n Waits (λ b. both (before? b a) (dec_le j (o.pos b)))) (waiting fuel j)
      where
        Waits : ℕ → Type 0
        Waits b = before b a × (j ≤ o.pos b)

        go : Found n Waits → ((b : ℕ) → o.pos b < fuel → b < n → j ≤ o.pos b → U (o.at j) ≤ U b) → U (o.at j) ≤ U a
        go (inl f) earlier = le_trans
            (earlier f.0 (omega (arith, by_urgency_permitted o g f.0 a f.1 l f.2.0)) f.1 f.2.1)
            (urgency_rises f.0 a f.1 l f.2.0)
        go (inr f) earlier = g.least j a (omega (arith, o.pos_lt a l))
            (record { present = l; waits = w; free = λ b m h. lt_of_not-le (λ e. f b m (h, e)) })

    pub by_urgency_rises : Rises U o
    by_urgency_rises j k le l = waiting (suc k) j (o.at k) (omega (arith, o.pos_at k l)) (o.at_lt k l) (omega (arith, o.pos_at k l))

    -- The order by urgency meets every deadline from any start exactly if some permitted order does.
    pub best : (t : ℕ) → Meets t o c D ↔ ((p : Order n) × Permitted before p × Meets t p c D)
    best t = (λ m. (o, by_urgency_permitted o g, m), λ s. rising_best t o s.0 by_urgency_rises s.1 s.2)
