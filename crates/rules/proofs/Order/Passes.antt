-- Urgency computed by n passes over the masks.
use Prim.Native.Nat.{ℕ, zero, suc, ◌+◌, ◌≤◌, ◌<◌, min}
use mathlib.Core.Path.{◌≡◌, refl, subst}
use mathlib.Core.Logic.{◌⊎◌, inl, inr}
use native.Mathlib.Nat.{le_refl, le_trans, not-suc-le-zero}
use native.Mathlib.Decide.{dec_le}
use native.Mathlib.Omega.{arith}
use Rattle.rules.specs.Order.{Order, Permitted, MustFollow, Urgency}
use Rattle.rules.proofs.Sums.{below_suc, choose}

module _ (n : ℕ) (before : ℕ → ℕ → Type 0) (before? : (b a : ℕ) → Dec (before b a)) (D : ℕ → ℕ) where
  -- the least of u and of U b over the b below m that a comes before
  unfoldable pub spread : (ℕ → ℕ) → ℕ → ℕ → ℕ → ℕ
  unfolding choose
  spread U a zero u = u
  spread U a (suc m) u = let v = spread U a m u in choose (before? a m) (min v (U m)) v

  -- the urgencies after some passes
  unfoldable pub passes : ℕ → ℕ → ℕ
  passes zero a = D a
  passes (suc m) a = spread (passes m) a n (passes m a)

  spread-own : (U : ℕ → ℕ) (a m u : ℕ) → spread U a m u ≤ u
  unfolding spread
  spread-own U a zero u = le_refl u
  spread-own U a (suc m) u = le_trans (go (before? a m)) (spread-own U a m u)
    where
      go : (e : Dec (before a m)) → choose e (min (spread U a m u) (U m)) (spread U a m u) ≤ spread U a m u
      go (yes h) = omega arith
      go (no h) = le_refl _

  spread-each : (U : ℕ → ℕ) (a m u b : ℕ) → b < m → before a b → spread U a m u ≤ U b
  unfolding spread
  spread-each U a zero u b l h = absurd (not-suc-le-zero l)
  spread-each U a (suc m) u b l h =
      below_suc m Least (λ x k g. earlier (before? a m) (spread-each U a m u x k g)) (last (before? a m)) b l h
    where
      v : Dec (before a m) → ℕ
      v e = choose e (min (spread U a m u) (U m)) (spread U a m u)

      Least : ℕ → Type 0
      Least x = before a x → v (before? a m) ≤ U x

      earlier : {x : ℕ} (e : Dec (before a m)) → spread U a m u ≤ x → v e ≤ x
      earlier (yes y) k = omega arith
      earlier (no y) k = k

      last : (e : Dec (before a m)) → before a m → v e ≤ U m
      last (yes y) k = omega arith
      last (no y) k = absurd (y k)

  -- u is the deadline of a or of an action that must follow it
  abbrev From : ℕ → ℕ → Type 0
  From a u = (u ≡ D a) ⊎ ((b : ℕ) × MustFollow n before a b × (u ≡ D b))

  spread-from : (U : ℕ → ℕ) → ((b : ℕ) → b < n → From b (U b)) → (a m u : ℕ) → m ≤ n → From a u → From a (spread U a m u)
  unfolding spread
  spread-from U f a zero u l g = g
  spread-from U f a (suc m) u l g = go (before? a m) (spread-from U f a m u (omega arith) g)
    where
      behind : before a m → From m (U m) → From a (U m)
      behind h (inl e) = inr (m, MustFollow.next l h, e)
      behind h (inr e) = inr (e.0, MustFollow.through l h e.1, e.2)

      lesser : {v : ℕ} → From a v → From a (U m) → Dec (v ≤ U m) → From a (min v (U m))
      lesser x y (yes k) = subst (From a) (omega arith) x
      lesser x y (no k) = subst (From a) (omega arith) y

      go : (e : Dec (before a m)) → From a (spread U a m u) → From a (choose e (min (spread U a m u) (U m)) (spread U a m u))
      go (yes h) x = lesser x (behind h (f m l)) (dec_le (spread U a m u) (U m))
      go (no h) x = x

  passes-from : (m a : ℕ) → a < n → From a (passes m a)
  unfolding passes
  passes-from zero a l = inl refl
  passes-from (suc m) a l = spread-from (passes m) (passes-from m) a n (passes m a) (le_refl n) (passes-from m a l)

  passes-own : (m a : ℕ) → passes m a ≤ D a
  unfolding passes
  passes-own zero a = le_refl _
  passes-own (suc m) a = le_trans (spread-own (passes m) a n (passes m a)) (passes-own m a)

  -- after m passes the last m positions of a permitted order are settled
  passes-later : (o : Order n) → Permitted before o → (m a b : ℕ) → a < n → n ≤ o.pos a + m → MustFollow n before a b → passes m a ≤ D b
  unfolding passes
  passes-later o p zero a b l h f = let no_such : ⊥ = omega (arith, o.pos_lt a l) in absurd no_such
  passes-later o p (suc m) a b l h (MustFollow.next k g) = le_trans (spread-each (passes m) a n (passes m a) b k g) (passes-own m b)
  passes-later o p (suc m) a b l h (MustFollow.through {b = c} k g f) = le_trans (spread-each (passes m) a n (passes m a) c k g)
      (passes-later o p m c b k (omega (arith, p a c l k g)) f)

  pub passes-urgency : (o : Order n) → Permitted before o → (a : ℕ) → a < n → Urgency n before D a (passes n a)
  passes-urgency o p a l = record { own = passes-own n a; later = λ b f. passes-later o p n a b l (omega arith) f; met = passes-from n a l }
