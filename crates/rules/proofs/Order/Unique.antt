-- The rules settle every urgency, and the order by urgency.
use Prim.Native.Nat.{ℕ, zero, suc, ◌≤◌, ◌<◌}
use mathlib.Core.Path.{◌≡◌, ap, sym, subst, ◌∙◌}
use mathlib.Core.Logic.{◌⊎◌, inl, inr}
use native.Mathlib.Nat.{le_refl, le_antisymm, lt_of_not-le, not-suc-le-zero}
use native.Mathlib.Decide.{dec_le}
use native.Mathlib.Omega.{arith}
use Rattle.rules.specs.Order.{Order, MustFollow, Urgency, Ready, ByUrgency}
use Rattle.rules.proofs.Sums.{below_suc}

-- ---- urgency

urgency-least : {n : ℕ} {before : ℕ → ℕ → Type 0} {D : ℕ → ℕ} {a u v : ℕ} → Urgency n before D a u → Urgency n before D a v → u ≤ v
urgency-least {n} {before} {D} {a} {u} {v} x y = go y.met
  where
    go : (v ≡ D a) ⊎ ((b : ℕ) × MustFollow n before a b × (v ≡ D b)) → u ≤ v
    go (inl e) = omega (arith, x.own)
    go (inr f) = omega (arith, f.2, x.later f.0 f.1)

pub one-urgency : {n : ℕ} {before : ℕ → ℕ → Type 0} {D : ℕ → ℕ} {a u v : ℕ} → Urgency n before D a u → Urgency n before D a v → u ≡ v
one-urgency x y = le_antisymm (urgency-least x y) (urgency-least y x)

-- ---- the order

module _ (n : ℕ) (before : ℕ → ℕ → Type 0) where
  -- only the urgencies of the n actions matter
  pub same-urgency : (U W : ℕ → ℕ) → ((a : ℕ) → a < n → U a ≡ W a) → (o : Order n) → ByUrgency n before U o → ByUrgency n before W o
  same-urgency U W same o g = record {
    ready = g.ready;
    least = λ k a l r. omega (arith, same (o.at k) (o.at_lt k l), same a r.present, g.least k a l r);
    lowest = λ k a l r e. g.lowest k a l r (same (o.at k) (o.at_lt k l) ∙ e ∙ sym (same a r.present));
  }

  -- the two orders have the same actions before position k
  abbrev Agree : Order n → Order n → ℕ → Type 0
  Agree o p k = (j : ℕ) → j < k → o.at j ≡ p.at j

  turned : (o p : Order n) (k : ℕ) → Agree o p k → Agree p o k
  turned o p k g j l = sym (g j l)

  same-pos : (o p : Order n) (k : ℕ) → k ≤ n → Agree o p k → (a : ℕ) → a < n → p.pos a < k → o.pos a ≡ p.pos a
  same-pos o p k l g a m h = ap o.pos (sym (p.at_pos a m) ∙ sym (g (p.pos a) h)) ∙ o.pos_at (p.pos a) (omega arith)

  ready_too : (o p : Order n) (k a : ℕ) → k ≤ n → Agree o p k → Ready n before p k a → Ready n before o k a
  ready_too o p k a l g r = record {
    present = r.present;
    waits = later (dec_le k (o.pos a));
    free = λ b m h. omega (arith, same-pos o p k l g b m (r.free b m h), r.free b m h);
  }
    where
      later : Dec (k ≤ o.pos a) → k ≤ o.pos a
      later (yes h) = h
      later (no h) = omega (arith, same-pos p o k l (turned o p k g) a r.present (lt_of_not-le h), r.waits)

  -- only the actions at the n positions matter
  pub same-order : (U : ℕ → ℕ) (o p : Order n) → Agree o p n → ByUrgency n before U o → ByUrgency n before U p
  same-order U o p g u = record {
    ready = λ k l. subst (Ready n before p k) (g k l) (ready_too p o k (o.at k) (omega arith) (λ j h. sym (g j (omega arith))) (u.ready k l));
    least = λ k a l r. omega (arith, ap U (g k l), u.least k a l (ready_too o p k a (omega arith) (λ j h. g j (omega arith)) r));
    lowest = λ k a l r e. omega (arith, g k l, u.lowest k a l (ready_too o p k a (omega arith) (λ j h. g j (omega arith)) r) (ap U (g k l) ∙ e));
  }

  module _ (U : ℕ → ℕ) where
    -- Where two orders by urgency have agreed so far, what is next in p is ready in o too.
    next-least : (o p : Order n) → ByUrgency n before U o → ByUrgency n before U p
        → (k : ℕ) → k < n → Agree o p k → U (o.at k) ≤ U (p.at k)
    next-least o p u v k l g = u.least k (p.at k) l (ready_too o p k (p.at k) (omega arith) g (v.ready k l))

    next-lowest : (o p : Order n) → ByUrgency n before U o → ByUrgency n before U p
        → (k : ℕ) → k < n → Agree o p k → o.at k ≤ p.at k
    next-lowest o p u v k l g = u.lowest k (p.at k) l (ready_too o p k (p.at k) (omega arith) g (v.ready k l))
        (le_antisymm (next-least o p u v k l g) (next-least p o v u k l (turned o p k g)))

    agree : (o p : Order n) → ByUrgency n before U o → ByUrgency n before U p → (k : ℕ) → k ≤ n → Agree o p k
    agree o p u v zero l = λ j h. absurd (not-suc-le-zero h)
    agree o p u v (suc k) l = go (agree o p u v k (omega arith))
      where
        go : Agree o p k → Agree o p (suc k)
        go g = below_suc k (λ j. o.at j ≡ p.at j) g
            (le_antisymm (next-lowest o p u v k l g) (next-lowest p o v u k l (turned o p k g)))

    pub one-order : (o p : Order n) → ByUrgency n before U o → ByUrgency n before U p → (k : ℕ) → k < n → o.at k ≡ p.at k
    one-order o p u v = agree o p u v n (le_refl n)
