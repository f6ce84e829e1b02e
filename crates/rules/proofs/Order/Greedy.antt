-- The order by urgency, computed. It is stuck exactly when the masks contain a loop.
use Prim.Native.Nat.{ℕ, zero, suc, ◌<◌}
use mathlib.Core.Path.{◌≡◌, sym}
use mathlib.Core.Logic.{◌⊎◌, inl, inr, ◌↔◌}
use mathlib.Core.List.{List, [], ◌∷◌}
use native.Mathlib.Nat.{le_refl, not-suc-le-zero}
use native.Mathlib.Decide.{dec_lt, ℕ_discrete}
use native.Mathlib.Omega.{arith}
use Rattle.rules.specs.Order.{Order, Permitted, Loop, ByUrgency}
use Rattle.rules.proofs.Sums.{below_suc, Found, find, both, not?, if?, each?}
use Rattle.rules.proofs.Order.Best.{by_urgency_permitted}
use Rattle.rules.proofs.Order.Loops.{no_loop}
use Rattle.rules.proofs.Order.Stepwise
use Rattle.rules.proofs.Order.Stepwise.{Earlier, Free, free-same, First, Next, next-same}

-- ---- lists of actions

abbrev pub In : List ℕ → ℕ → Type 0
In [] a = ⊥
In (x ∷ l) a = (a ≡ x) ⊎ In l a

unfoldable pub either? : {P Q : Type 0} → Dec P → Dec Q → Dec (P ⊎ Q)
either? (yes p) e = yes (inl p)
either? (no p) (yes q) = yes (inr q)
either? (no p) (no q) = no (elim [ inl x ↦ p x | inr y ↦ q y ])

unfoldable pub in? : (l : List ℕ) (a : ℕ) → Dec (In l a)
unfolding either? ℕ_discrete
in? [] a = no (λ x. x)
in? (x ∷ l) a = either? (ℕ_discrete a x) (in? l a)

module _ (n : ℕ) (before : ℕ → ℕ → Type 0) (before? : (b a : ℕ) → Dec (before b a)) (U : ℕ → ℕ) where
  -- ---- computing

  unfoldable pub free? : (done : List ℕ) (a : ℕ) → Dec (Free n before (In done) a)
  unfolding both not? each? if? in?
  free? done a = both (not? (in? done a)) (each? n (λ b. before b a → In done b) (λ b. if? (before? b a) (in? done b)))

  -- of the free actions below m the one that goes first, or none is free
  abbrev pub Pick : List ℕ → ℕ → Type 0
  Pick done m = ((a : ℕ) × Next n before U (In done) m a) ⊎ ((b : ℕ) → b < m → Free n before (In done) b → ⊥)

  unfoldable pub pick : (done : List ℕ) (m : ℕ) → Pick done m
  unfolding dec_lt
  pick done zero = inr (λ b l f. not-suc-le-zero l)
  pick done (suc m) = go (pick done m) (free? done m)
    where
      Open : ℕ → Type 0
      Open = Free n before (In done)

      stays : {a : ℕ} → Next n before U (In done) m a → (Open m → First U a m) → Next n before U (In done) (suc m) a
      stays {a} x last = record {
        present = omega (arith, x.present);
        free = x.free;
        first = below_suc m (λ b. Open b → First U a b) x.first last;
      }

      takes : Open m → ((b : ℕ) → b < m → Open b → First U m b) → Next n before U (In done) (suc m) m
      takes f under = record {
        present = le_refl _;
        free = f;
        first = below_suc m (λ b. Open b → First U m b) under (λ e. (le_refl _, λ q. le_refl _));
      }

      go : Pick done m → Dec (Open m) → Pick done (suc m)
      go (inl p) (yes f) = or (dec_lt (U m) (U p.0))
        where
          or : Dec (U m < U p.0) → Pick done (suc m)
          or (yes l) = inl (m, takes f (λ b k e. let r = (p.1.first b k e).0 in (omega arith, λ q. omega arith)))
          or (no l) = inl (p.0, stays p.1 (λ e. (omega arith, λ q. omega (arith, p.1.present))))
      go (inl p) (no f) = inl (p.0, stays p.1 (λ e. absurd (f e)))
      go (inr p) (yes f) = inl (m, takes f (λ b k e. absurd (p b k e)))
      go (inr p) (no f) = inr (below_suc m (λ b. Open b → ⊥) p f)

  -- 0 where none is free
  unfoldable pub picked : (done : List ℕ) → Pick done n → ℕ
  picked done (inl p) = p.0
  picked done (inr p) = 0

  -- the first k actions, latest first, and the action at position k
  unfoldable pub done_at : ℕ → List ℕ
  done_at zero = []
  done_at (suc k) = let done = done_at k in picked done (pick done n) ∷ done

  unfoldable pub order_at : ℕ → ℕ
  order_at k = picked (done_at k) (pick (done_at k) n)

  done_exact : (k a : ℕ) → In (done_at k) a ↔ Earlier order_at k a
  unfolding done_at order_at
  done_exact zero a = (λ h. absurd h, λ e. not-suc-le-zero e.1)
  done_exact (suc k) a = let before = done_exact k a in (to before.0, from before.1)
    where
      to : (In (done_at k) a → Earlier order_at k a) → In (done_at (suc k)) a → Earlier order_at (suc k) a
      to earlier (inl e) = (k, le_refl _, sym e)
      to earlier (inr h) = let e = earlier h in (e.0, omega (arith, e.1), e.2)

      from : (Earlier order_at k a → In (done_at k) a) → Earlier order_at (suc k) a → In (done_at (suc k)) a
      from earlier e = below_suc k (λ j. order_at j ≡ a → In (done_at (suc k)) a)
          (λ j l h. inr (earlier (j, l, h))) (λ h. inl (sym h)) e.0 e.1 e.2

  -- ---- stuck

  -- no action is free at position k
  abbrev pub Stuck : ℕ → Type 0
  Stuck k = Stepwise.Stuck n before (In (done_at k))

  stuck? : (k : ℕ) → Dec (Stuck k)
  stuck? k = each? n (λ a. Free n before (In (done_at k)) a → ⊥) (λ a. not? (free? (done_at k) a))

  stuck_in_loop : (k : ℕ) → k < n → Stuck k → Loop n before
  stuck_in_loop k l stuck = Stepwise.stuck_in_loop n before before? order_at k l
      (λ a m f. stuck a m (free-same n before (λ b. ((done_exact k b).1, (done_exact k b).0)) a f))

  -- ---- never stuck

  module _ (never : (k : ℕ) → k < n → Stuck k → ⊥) where
    next : (k : ℕ) → k < n → Next n before U (Earlier order_at k) n (order_at k)
    unfolding order_at picked
    next k l = next-same n before U (done_exact k) (go (pick (done_at k) n))
      where
        go : (p : Pick (done_at k) n) → Next n before U (In (done_at k)) n (picked (done_at k) p)
        go (inl p) = p.1
        go (inr p) = absurd (never k l p)

    order : Order n
    order = Stepwise.order n before U order_at next

    by_urgency : ByUrgency n before U order
    unfolding order
    by_urgency = Stepwise.order-by_urgency n before U order_at next

    permitted : Permitted before order
    permitted = by_urgency_permitted order by_urgency

  -- ---- stuck exactly when the masks contain a loop

  pub stuck_exact : ((k : ℕ) × (k < n) × Stuck k) ↔ Loop n before
  stuck_exact = (λ s. stuck_in_loop s.0 s.1 s.2, λ l. somewhere l (find n Stuck stuck?))
    where
      somewhere : Loop n before → Found n Stuck → (k : ℕ) × (k < n) × Stuck k
      somewhere l (inl s) = s
      somewhere l (inr never) = absurd (no_loop (order never) (permitted never) l)

  pub loop? : Dec (Loop n before)
  loop? = go (find n Stuck stuck?)
    where
      go : Found n Stuck → Dec (Loop n before)
      go (inl s) = yes (stuck_exact.0 s)
      go (inr never) = no (no_loop (order never) (permitted never))

  -- Without a loop the computed order is an order, permitted and by urgency.
  module _ (loopless : Loop n before → ⊥) where
    never : (k : ℕ) → k < n → Stuck k → ⊥
    never k l s = loopless (stuck_in_loop k l s)

    pub the_order : Order n
    the_order = order never

    pub the_order-at : (k : ℕ) → the_order.at k ≡ order_at k
    unfolding the_order order
    the_order-at = Stepwise.order_at n before U order_at (next never)

    pub the_order-by_urgency : ByUrgency n before U the_order
    unfolding the_order
    the_order-by_urgency = by_urgency never

    pub the_order_permitted : Permitted before the_order
    the_order_permitted = by_urgency_permitted the_order the_order-by_urgency
