-- An order built action by action, each time with the free action that goes first. Nothing free while positions are left: a loop.
use Prim.Native.Nat.{ℕ, ◌≤◌, ◌<◌}
use mathlib.Core.Path.{◌≡◌, ap, sym, subst, ◌∙◌}
use mathlib.Core.Logic.{inl, inr, ◌≢◌, ◌↔◌}
use native.Mathlib.Nat.{le_of_eq}
use native.Mathlib.Decide.{ℕ_discrete}
use native.Mathlib.Omega.{arith}
use Rattle.rules.specs.Order.{Order, Loop, Ready, ByUrgency}
use Rattle.rules.proofs.Sums.{Found, find, both, not?}
use Rattle.rules.proofs.Order.Pigeon.{pigeon, Shared, order-of, order-of-at}
use Rattle.rules.proofs.Order.Loops.{stuck_loop}

-- a is at one of the first k positions
abbrev pub Earlier : (ℕ → ℕ) → ℕ → ℕ → Type 0
Earlier at k a = (j : ℕ) × (j < k) × (at j ≡ a)

earlier? : (at : ℕ → ℕ) (k a : ℕ) → Dec (Earlier at k a)
earlier? at k a = go (find k (λ j. at j ≡ a) (λ j. ℕ_discrete (at j) a))
  where
    go : Found k (λ j. at j ≡ a) → Dec (Earlier at k a)
    go (inl s) = yes s
    go (inr s) = no (λ e. s e.0 e.1 e.2)

-- a goes first of a and b: it is no less urgent, and on a tie it has the lower number
abbrev pub First : (ℕ → ℕ) → ℕ → ℕ → Type 0
First U a b = (U a ≤ U b) × (U a ≡ U b → a ≤ b)

module _ (n : ℕ) (before : ℕ → ℕ → Type 0) where
  -- a is not done, and all its predecessors are
  abbrev pub Free : (ℕ → Type 0) → ℕ → Type 0
  Free Done a = (Done a → ⊥) × ((b : ℕ) → b < n → before b a → Done b)

  -- only what is done matters, not how it is said
  pub free-same : {P Q : ℕ → Type 0} → ((a : ℕ) → P a ↔ Q a) → (a : ℕ) → Free P a → Free Q a
  free-same same a f = ((λ q. f.0 ((same a).1 q)), λ b l h. (same b).0 (f.1 b l h))

  -- no action is free
  abbrev pub Stuck : (ℕ → Type 0) → Type 0
  Stuck Done = (a : ℕ) → a < n → Free Done a → ⊥

  -- ---- stuck

  module _ (before? : (b a : ℕ) → Dec (before b a)) (at : ℕ → ℕ) (k : ℕ) where
    abbrev Left : ℕ → Type 0
    Left a = Earlier at k a → ⊥

    left? : (a : ℕ) → Dec (Left a)
    left? a = not? (earlier? at k a)

    not_left : (a : ℕ) → (Left a → ⊥) → Earlier at k a
    not_left a h = go (earlier? at k a)
      where
        go : Dec (Earlier at k a) → Earlier at k a
        go (yes e) = e
        go (no e) = absurd (h e)

    -- While positions are left, an action is left: the actions 0 to k do not fit into k positions.
    some_left : k < n → (a : ℕ) × (a < n) × Left a
    some_left l = go (find n Left left?)
      where
        go : Found n Left → (a : ℕ) × (a < n) × Left a
        go (inl s) = s
        go (inr s) = absurd (clash (pigeon k (λ a. place a (earlier? at k a)) (λ a m. (placed a m (earlier? at k a)).0)))
          where
            place : (a : ℕ) → Dec (Earlier at k a) → ℕ
            place a (yes e) = e.0
            place a (no e) = k

            placed : (a : ℕ) → a ≤ k → (d : Dec (Earlier at k a)) → (place a d < k) × (at (place a d) ≡ a)
            placed a m (yes e) = (e.1, e.2)
            placed a m (no e) = absurd (s a (omega arith) e)

            clash : Shared k (λ a. place a (earlier? at k a)) → ⊥
            clash c = omega (
              arith,
              c.2,
              ap at c.4,
              (placed c.0 (omega (arith, c.2, c.3)) (earlier? at k c.0)).1,
              (placed c.1 c.3 (earlier? at k c.1)).1,
            )

    -- Where nothing is free each action that is left waits for another that is.
    pub stuck_in_loop : k < n → Stuck (Earlier at k) → Loop n before
    stuck_in_loop l stuck = let s = some_left l in stuck_loop n before Left waits s.0 s.1 s.2
      where
        waits : (a : ℕ) → a < n → Left a → (b : ℕ) × (b < n) × Left b × before b a
        waits a m left = go (find n (λ b. before b a × Left b) (λ b. both (before? b a) (left? b)))
          where
            go : Found n (λ b. before b a × Left b) → (b : ℕ) × (b < n) × Left b × before b a
            go (inl w) = (w.0, w.1, w.2.1, w.2.0)
            go (inr w) = absurd (stuck a m (left, λ b y h. not_left b (λ z. w b y (h, z))))

  -- ---- never stuck

  -- Where the action at each position is free, they are an order, and a permitted one.
  module _ (at : ℕ → ℕ) (free : (k : ℕ) → k < n → (at k < n) × Free (Earlier at k) (at k)) where
    differ : (j k : ℕ) → j < k → k < n → at j ≢ at k
    differ j k l m e = (free k m).1.0 (j, l, e)

    pub listed : Order n
    listed = order-of n at (λ k l. (free k l).0) differ

    pub listed_at : (k : ℕ) → listed.at k ≡ at k
    unfolding listed
    listed_at = order-of-at n at (λ k l. (free k l).0) differ

    earlier_at : (k b : ℕ) → b < n → listed.pos b < k → Earlier at k b
    earlier_at k b l h = (listed.pos b, h, sym (listed_at (listed.pos b)) ∙ listed.at_pos b l)

    at_earlier : (k b : ℕ) → k ≤ n → Earlier at k b → listed.pos b < k
    at_earlier k b l e = omega (arith, e.1, ap listed.pos (listed_at e.0 ∙ e.2), listed.pos_at e.0 (omega (arith, e.1)))

    pub listed-ready : (k : ℕ) → k < n → Ready n before listed k (listed.at k)
    listed-ready k l = record {
      present = listed.at_lt k l;
      waits = le_of_eq (sym (listed.pos_at k l));
      free = λ b m h. at_earlier k b (omega arith) ((free k l).1.1 b m (subst (before b) (listed_at k) h));
    }

    pub ready-free : (k a : ℕ) → k < n → Ready n before listed k a → Free (Earlier at k) a
    ready-free k a l r = ((λ e. omega (arith, at_earlier k a (omega arith) e, r.waits)), λ b m h. earlier_at k b m (r.free b m h))

  module _ (U : ℕ → ℕ) where
    -- of the free actions below m, a goes first
    pub record Next (Done : ℕ → Type 0) (m a : ℕ) : Type 0 where
      pub present : a < m
      pub free : Free Done a
      pub first : (b : ℕ) → b < m → Free Done b → First U a b

    pub next-same : {P Q : ℕ → Type 0} → ((a : ℕ) → P a ↔ Q a) → {m a : ℕ} → Next P m a → Next Q m a
    next-same same {m} {a} x = record {
      present = x.present;
      free = free-same same a x.free;
      first = λ b l f. x.first b l (free-same (λ c. ((same c).1, (same c).0)) b f);
    }

    -- Where the action at each position is the next one, they are in order by urgency.
    module _ (at : ℕ → ℕ) (next : (k : ℕ) → k < n → Next (Earlier at k) n (at k)) where
      opens : (k : ℕ) → k < n → (at k < n) × Free (Earlier at k) (at k)
      opens k l = ((next k l).present, (next k l).free)

      pub order : Order n
      order = listed at opens

      pub order_at : (k : ℕ) → order.at k ≡ at k
      unfolding order
      order_at = listed_at at opens

      pub order-by_urgency : ByUrgency n before U order
      unfolding order
      order-by_urgency = record {
        ready = listed-ready at opens;
        least = λ k a l r. rw (order_at k) ((next k l).first a r.present (ready-free at opens k a l r)).0;
        lowest = λ k a l r e. rw (order_at k) (((next k l).first a r.present (ready-free at opens k a l r)).1 (ap U (sym (order_at k)) ∙ e));
      }
