-- Loops among the masks, and when a spread of deadlines is the urgency.
use Prim.Native.Nat.{ℕ, zero, suc, ◌≤◌, ◌<◌}
use mathlib.Core.Path.{◌≡◌, sym, subst}
use mathlib.Core.Logic.{◌⊎◌}
use native.Mathlib.Nat.{le_trans, lt_irrefl}
use native.Mathlib.Decide.{le_ind}
use native.Mathlib.Omega.{arith}
use Rattle.rules.specs.Order.{Order, Permitted, MustFollow, Loop, Urgency}
use Rattle.rules.proofs.Order.Best.{follows_later}
use Rattle.rules.proofs.Order.Pigeon.{pigeon, Shared}

pub no_loop : {n : ℕ} {before : ℕ → ℕ → Type 0} (o : Order n) → Permitted before o → Loop n before → ⊥
no_loop o p l = lt_irrefl _ (follows_later o p l.1 l.2)

-- n steps back, each to an action that comes before the last one: of n + 1 actions two are the same.
module _ (n : ℕ) (before : ℕ → ℕ → Type 0) (at : ℕ → ℕ) (present : (k : ℕ) → k ≤ n → at k < n)
    (back : (k : ℕ) → k < n → before (at (suc k)) (at k)) where
  follows : (i j : ℕ) → i < j → j ≤ n → MustFollow n before (at j) (at i)
  follows i = le_ind (λ (k : ℕ). k ≤ n → MustFollow n before (at k) (at i))
      (λ h. MustFollow.next (present i (omega arith)) (back i h))
      (λ k m f h. MustFollow.through (present k (omega arith)) (back k h) (f (omega arith)))

  pub round_loop : Loop n before
  round_loop = go (pigeon n at present)
    where
      go : Shared n at → Loop n before
      go s = (
        at s.0,
        present s.0 (omega (arith, s.2, s.3)),
        subst (λ (y : ℕ). MustFollow n before y (at s.0)) (sym s.4) (follows s.0 s.1 s.2 s.3),
      )

-- Actions that are left, each waiting for another that is left: walk from one to what it waits for.
module _ (n : ℕ) (before : ℕ → ℕ → Type 0) (Left : ℕ → Type 0)
    (waits : (a : ℕ) → a < n → Left a → (b : ℕ) × (b < n) × Left b × before b a) where
  walk : (a : ℕ) → a < n → Left a → ℕ → (b : ℕ) × (b < n) × Left b
  walk a l x zero = (a, l, x)
  walk a l x (suc k) = let w = walk a l x k in let s = waits w.0 w.1 w.2 in (s.0, s.1, s.2)

  walk_step : (a : ℕ) (l : a < n) (x : Left a) (k : ℕ) → before (walk a l x (suc k)).0 (walk a l x k).0
  unfolding walk
  walk_step a l x k = let w = walk a l x k in (waits w.0 w.1 w.2).3

  pub stuck_loop : (a : ℕ) → a < n → Left a → Loop n before
  stuck_loop a l x = round_loop n before (λ k. (walk a l x k).0) (λ k m. (walk a l x k).1) (λ k m. walk_step a l x k)

-- A spread of deadlines that no pass changes any more is the urgency.
module _ (n : ℕ) (before : ℕ → ℕ → Type 0) (D U : ℕ → ℕ)
    (own : (a : ℕ) → a < n → U a ≤ D a) (spread : (a b : ℕ) → a < n → b < n → before a b → U a ≤ U b) where
  spread_on : {a b : ℕ} → a < n → MustFollow n before a b → U a ≤ D b
  spread_on {a} {b} l (MustFollow.next m h) = le_trans (spread a b l m h) (own b m)
  spread_on {a} l (MustFollow.through {b = c} m h f) = le_trans (spread a c l m h) (spread_on m f)

  pub settled : (a : ℕ) → a < n → ((U a ≡ D a) ⊎ ((b : ℕ) × MustFollow n before a b × (U a ≡ D b))) → Urgency n before D a (U a)
  settled a l met = record { own = own a l; later = λ b f. spread_on l f; met = met }
