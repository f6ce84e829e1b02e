-- More numbers than places: two share one. So n different actions below n are an order.
use Prim.Native.Nat.{ℕ, zero, suc, ◌≤◌, ◌<◌}
use mathlib.Core.Path.{◌≡◌, refl, sym, ◌∙◌}
use mathlib.Core.Logic.{inl, inr, ◌≢◌}
use native.Mathlib.Nat.{le_refl, not-suc-le-zero}
use native.Mathlib.Decide.{dec_lt, ℕ_discrete}
use native.Mathlib.Omega.{arith}
use Rattle.rules.specs.Order.{Order}
use Rattle.rules.proofs.Sums.{choose, Found, find}

-- two numbers up to n at which f is the same
abbrev pub Shared : ℕ → (ℕ → ℕ) → Type 0
Shared n f = (i : ℕ) × (j : ℕ) × (i < j) × (j ≤ n) × (f i ≡ f j)

-- If none of f 0 .. f n is f (n + 1), then f with that value put for the value n keeps below n, and shares no more than f does.
pub pigeon : (n : ℕ) (f : ℕ → ℕ) → ((i : ℕ) → i ≤ n → f i < n) → Shared n f
unfolding choose
pigeon zero f h = absurd (not-suc-le-zero (h 0 (le_refl 0)))
pigeon (suc n) f h = go (find (suc n) Last (λ i. ℕ_discrete (f i) (f (suc n)))) (pigeon n g)
  where
    Last : ℕ → Type 0
    Last i = f i ≡ f (suc n)

    put : {i : ℕ} → Dec (f i ≡ n) → ℕ
    put {i} e = choose e (f (suc n)) (f i)

    g : ℕ → ℕ
    g i = put (ℕ_discrete (f i) n)

    go : Found (suc n) Last → (((i : ℕ) → i ≤ n → g i < n) → Shared n g) → Shared (suc n) f
    go (inl s) fewer = (s.0, suc n, s.1, le_refl _, s.2)
    go (inr s) fewer = back (fewer (λ i l. below i l (ℕ_discrete (f i) n)))
      where
        below : (i : ℕ) → i ≤ n → (e : Dec (f i ≡ n)) → put e < n
        below i l (yes e) = omega (arith, h (suc n) (le_refl _), s i (omega arith))
        below i l (no e) = omega (arith, h i (omega arith))

        same : (i j : ℕ) → i < j → j ≤ n → (d : Dec (f i ≡ n)) (e : Dec (f j ≡ n)) → put d ≡ put e → f i ≡ f j
        same i j l m (yes d) (yes e) h = d ∙ sym e
        same i j l m (yes d) (no e) h = absurd (s j (omega arith) (sym h))
        same i j l m (no d) (yes e) h = absurd (s i (omega arith) h)
        same i j l m (no d) (no e) h = h

        back : Shared n g → Shared (suc n) f
        back c = (
          c.0,
          c.1,
          c.2,
          omega (arith, c.3),
          same c.0 c.1 c.2 c.3 (ℕ_discrete (f c.0) n) (ℕ_discrete (f c.1) n) c.4,
        )

module _ (n : ℕ) (at : ℕ → ℕ) (low : (k : ℕ) → k < n → at k < n) (differ : (j k : ℕ) → j < k → k < n → at j ≢ at k) where
  -- Every action has a position: if a had none, at 0 .. at (n - 1) and a would be n + 1 different numbers below n.
  placed : (a : ℕ) → a < n → (k : ℕ) × (k < n) × (at k ≡ a)
  unfolding choose
  placed a l = go (find n (λ k. at k ≡ a) (λ k. ℕ_discrete (at k) a))
    where
      with_a : {k : ℕ} → Dec (k ≡ n) → ℕ
      with_a {k} e = choose e a (at k)

      go : Found n (λ k. at k ≡ a) → (k : ℕ) × (k < n) × (at k ≡ a)
      go (inl s) = s
      go (inr s) = absurd (clash (pigeon n (λ k. with_a (ℕ_discrete k n)) (λ k m. under k m (ℕ_discrete k n))))
        where
          under : (k : ℕ) → k ≤ n → (e : Dec (k ≡ n)) → with_a e < n
          under k m (yes e) = l
          under k m (no e) = low k (omega arith)

          two : (i j : ℕ) → i < j → j ≤ n → (d : Dec (i ≡ n)) (e : Dec (j ≡ n)) → with_a d ≡ with_a e → ⊥
          two i j x y (yes d) e h = omega arith
          two i j x y (no d) (yes e) h = s i (omega arith) h
          two i j x y (no d) (no e) h = differ i j x (omega arith) h

          clash : Shared n (λ k. with_a (ℕ_discrete k n)) → ⊥
          clash c = two c.0 c.1 c.2 c.3 (ℕ_discrete c.0 n) (ℕ_discrete c.1 n) c.4

  position : (a : ℕ) → Dec (a < n) → ℕ
  position a (yes l) = (placed a l).0
  position a (no l) = 0

  position-is : (a : ℕ) → a < n → (e : Dec (a < n)) → (position a e < n) × (at (position a e) ≡ a)
  unfolding position
  position-is a l (yes m) = ((placed a m).1, (placed a m).2)
  position-is a l (no m) = absurd (m l)

  one_place : (j k : ℕ) → j < n → k < n → at j ≡ at k → j ≡ k
  one_place j k a b e = go (dec_lt j k) (dec_lt k j)
    where
      go : Dec (j < k) → Dec (k < j) → j ≡ k
      go (yes l) m = absurd (differ j k l b e)
      go (no l) (yes m) = absurd (differ k j m a (sym e))
      go (no l) (no m) = omega arith

  -- n different actions below n are an order
  pub order-of : Order n
  order-of = record {
    at = at;
    pos = λ a. position a (dec_lt a n);
    at_lt = low;
    pos_lt = λ a l. (position-is a l (dec_lt a n)).0;
    pos_at = λ k l. let p = position-is (at k) (low k l) (dec_lt (at k) n) in one_place _ k p.0 l p.1;
    at_pos = λ a l. (position-is a l (dec_lt a n)).1;
  }

  pub order-of-at : (k : ℕ) → order-of.at k ≡ at k
  unfolding order-of
  order-of-at k = refl
