-- The actions placed one by one, each time the next of the ready ones.
use mathlib.Core.Path.{◌≡◌, sym, ap, subst, ◌∙◌}
use mathlib.Core.Bool.{true}
use mathlib.Core.Logic.{◌⊎◌, inl, inr, ◌↔◌}
use mathlib.Core.List.{List}
use Prim.Native.Nat.{ℕ, suc, ◌≤◌, ◌<◌}
use native.Mathlib.Nat.{le_refl}
use native.Mathlib.Omega.{arith}
use lib.ListN.{length, get_or, set, length-set}
use Rattle.rules.specs.Image.{has}
use Rattle.rules.specs.Order.{Order, Loop, ByUrgency}
use Rattle.rules.proofs.Tests.{is_true?, failed, not-both}
use Rattle.rules.proofs.Sums.{below_suc}
use Rattle.rules.proofs.Order.Stepwise
use Rattle.rules.proofs.Order.Stepwise.{Free, free-same, next-same, stuck_in_loop}
use Rattle.sets.specs.Sets.{members, With, comes_before}
use Rattle.sets.proofs.Bits.{has-empty}
use Rattle.sets.proofs.Laws.{added, stays, either}
use Rattle.sets.proofs.Members.{members-none, members_with}
use Rattle.sets.proofs.Cases.{lt-or-le}
use Rattle.order_line.proofs.Growing.{Among, past, among_set, here, among_more}
use Rattle.order_urgency.specs.Spread.{NextIn}
use Rattle.order.specs.Lent.{Masked}
use Rattle.order.specs.Arranged.{ReadyIn, Parted, Placed, ZeroFrom}
use Rattle.order.proofs.Waiting.{parted_each}

-- ---- what is ready, and what is free

module _ {n : ℕ} {masks : List ℕ} (x : Masked n masks) {done a : ℕ} where
  ready-free : ReadyIn n masks done a → Free n (comes_before masks) (λ b. has done b ≡ true) a
  ready-free r = ((λ d. not-both d r.waits), λ b l h. r.free b h)

  free-ready : a < n → Free n (comes_before masks) (λ b. has done b ≡ true) a → ReadyIn n masks done a
  free-ready l f = record { present = l; waits = failed (has done a) f.0; free = λ b h. f.1 b (x.below a l b h) h }

-- ---- one action more

module _ (n : ℕ) (masks u : List ℕ) where
  -- the action that goes next after the first j of the list
  abbrev NextAfter : List ℕ → ℕ → ℕ → Type 0
  NextAfter l j a = Stepwise.Next n (comes_before masks) (λ b. get_or u b 0) (Among l j) n a

  -- The first k of the list are placed, and done has them; the others are parted into free and waiting.
  pub record Placing (l w : List ℕ) (done free k : ℕ) : Type 0 where
    pub most : k ≤ n
    pub long : length l ≡ 64
    pub counts : members 64 done ≡ k
    pub exact : (a : ℕ) → (has done a ≡ true) ↔ Among l k a
    pub parted : Parted n masks done free 0 w
    pub nexts : (j : ℕ) → j < k → NextAfter l j (get_or l j 0)
    pub rest : ZeroFrom k l

  pub placing_start : {l w : List ℕ} {free : ℕ} → length l ≡ 64 → ZeroFrom 0 l → Parted n masks 0 free 0 w → Placing l w 0 free 0
  placing_start long rest parted = record {
    most = omega arith;
    long = long;
    counts = members-none 64;
    exact = λ a. (λ h. absurd (not-both h (has-empty a)), λ e. absurd (omega (arith, e.1)));
    parted = parted;
    nexts = λ j m. absurd (omega arith);
    rest = rest;
  }

  module _ (x : Masked n masks) {l w : List ℕ} {done free k : ℕ} (g : Placing l w done free k) where
    -- ---- the next one is placed

    module _ {a done' : ℕ} (nx : NextIn u free a) (in' : With done a done') where
      now_ready : ReadyIn n masks done a
      now_ready = g.parted.ready a nx.member

      goes : NextAfter l k a
      goes = next-same n (comes_before masks) (λ b. get_or u b 0) g.exact (record {
        present = now_ready.present;
        free = ready-free x now_ready;
        first = λ b m f. let h = parted_each g.parted b (free-ready x m f) in (nx.least b h, nx.lowest b h);
      })

      pub counted : members 64 done' ≡ suc k
      counted = members_with in' 64 now_ready.waits (omega (arith, now_ready.present, x.few)) ∙ ap suc g.counts

      pub placing_more : k < n → {free' k' : ℕ} {w' : List ℕ} → Parted n masks done' free' 0 w' → k' ≡ members 64 done'
          → Placing (set l k a) w' done' free' k'
      placing_more m {free'} {k'} {w'} parted e = subst (Placing (set l k a) w' done' free') (sym (e ∙ counted)) more
        where
          long : k < length l
          long = omega (arith, g.long, x.few)

          moved : (j b : ℕ) → j ≤ k → NextAfter l j b → NextAfter (set l k a) j b
          moved j b h = next-same n (comes_before masks) (λ c. get_or u c 0) (among_set l k a j h)

          with_a : (b : ℕ) → (has done' b ≡ true) ↔ ((has done b ≡ true) ⊎ (a ≡ b))
          with_a b = (
            either in' b,
            elim [ inl h ↦ stays in' b h | inr e ↦ subst (λ (c : ℕ). has done' c ≡ true) e (added in') ],
          )

          more : Placing (set l k a) w' done' free' (suc k)
          more = record {
            most = m;
            long = length-set l k a ∙ g.long;
            counts = counted;
            exact = among_more l k a long g.exact with_a;
            parted = parted;
            nexts = below_suc k (λ (j : ℕ). NextAfter (set l k a) j (get_or (set l k a) j 0))
                (λ j h. rw (past l k a j (omega arith)) (moved j _ (omega arith) (g.nexts j h)))
                (rw (here l k a long) (moved k a (le_refl k) goes));
            rest = λ j h. past l k a j (omega arith) ∙ g.rest j (omega arith);
          }

    -- ---- without a loop one is ready

    pub some-free : (Loop n (comes_before masks) → ⊥) → k < n → 0 < free
    some-free loopless m = elim (lt-or-le 0 free) [ inl l ↦ l | inr l ↦ absurd (loopless (loop (omega arith))) ]
      where
        loop : free ≡ 0 → Loop n (comes_before masks)
        loop e = stuck_in_loop n (comes_before masks) (λ b a. is_true? (has (get_or masks a 0) b)) (λ i. get_or l i 0) k m none
          where
            none : (a : ℕ) → a < n → Free n (comes_before masks) (Among l k) a → ⊥
            none a h f = not-both
                (parted_each g.parted a (free-ready x h (free-same n (comes_before masks) (λ b. ((g.exact b).1, (g.exact b).0)) a f)))
                (ap (λ (s : ℕ). has s a) e ∙ has-empty a)

  -- ---- all are placed

  pub placing_whole : {l w : List ℕ} {done free k : ℕ} → Placing l w done free k → n ≤ k → Placed n masks u l
  placing_whole {l} {k = k} g m = record {
    whole = (o, by, λ j h. sym (Stepwise.order_at n (comes_before masks) (λ b. get_or u b 0) at nexts j));
    rest = λ j h. g.rest j (omega (arith, g.most));
  }
    where
      at : ℕ → ℕ
      at i = get_or l i 0

      nexts : (j : ℕ) → j < n → Stepwise.Next n (comes_before masks) (λ b. get_or u b 0) (Among l j) n (at j)
      nexts j h = g.nexts j (omega arith)

      o : Order n
      o = Stepwise.order n (comes_before masks) (λ b. get_or u b 0) at nexts

      by : ByUrgency n (comes_before masks) (λ b. get_or u b 0) o
      by = Stepwise.order-by_urgency n (comes_before masks) (λ b. get_or u b 0) at nexts
