-- The order of a profile: computed, settled by the rules, and best.
use Prim.Native.Nat.{ℕ, ◌+◌, ◌≤◌, ◌<◌}
use mathlib.Core.Path.{◌≡◌, sym, ◌∙◌}
use mathlib.Core.Logic.{◌↔◌}
use mathlib.Core.Bool.{true, Bool-discrete}
use native.Mathlib.Decide.{dec_le, map_dec}
use Rattle.rules.specs.Image.{Profile, has, due}
use Rattle.rules.specs.Order.{Order, Permitted, Loop, Urgency, ends, Meets, Before, TheOrder, FitFrom}
use Rattle.rules.proofs.Sums.{each?}
use Rattle.rules.proofs.Order.Best.{by_urgency_permitted, best}
use Rattle.rules.proofs.Order.Unique.{one-urgency, same-urgency, same-order, one-order}
use Rattle.rules.proofs.Order.Loops.{no_loop}
use Rattle.rules.proofs.Order.Passes.{spread, passes, passes-urgency}
use Rattle.rules.proofs.Order.Greedy
use Rattle.rules.proofs.Order.Greedy.{free?, pick, picked, done_at, order_at}

-- ---- computed

unfoldable pub before? : (F : Profile) (b a : ℕ) → Dec (Before F b a)
unfolding has
before? F b a = Bool-discrete (has (F.mask a) b) true

unfoldable pub urgency_of : Profile → ℕ → ℕ
unfolding before? due passes spread
urgency_of F = passes F.n (Before F) (before? F) (due F) F.n

-- the action at a position
unfoldable pub action_at : Profile → ℕ → ℕ
unfolding before? urgency_of order_at done_at picked pick free?
action_at F = order_at F.n (Before F) (before? F) (urgency_of F)

module _ (F : Profile) (loopless : Loop F.n (Before F) → ⊥) where
  -- The urgencies need a permitted order, and any will do: the one where all are equally urgent.
  urgency-is : (a : ℕ) → a < F.n → Urgency F.n (Before F) (due F) a (urgency_of F a)
  unfolding urgency_of
  urgency-is = passes-urgency F.n (Before F) (before? F) (due F)
      (Greedy.the_order F.n (Before F) (before? F) (λ a. 0) loopless)
      (Greedy.the_order_permitted F.n (Before F) (before? F) (λ a. 0) loopless)

  pub the_order : Order F.n
  the_order = Greedy.the_order F.n (Before F) (before? F) (urgency_of F) loopless

  pub the_order-is : TheOrder F the_order
  unfolding the_order
  the_order-is = record {
    urgency = urgency_of F;
    urgent = urgency-is;
    by_urgency = Greedy.the_order-by_urgency F.n (Before F) (before? F) (urgency_of F) loopless;
  }

  the_order-at : (k : ℕ) → the_order.at k ≡ action_at F k
  unfolding the_order action_at
  the_order-at = Greedy.the_order-at F.n (Before F) (before? F) (urgency_of F) loopless

  -- Any order that has these actions is the order of F.
  pub as_computed : (p : Order F.n) → ((k : ℕ) → k < F.n → p.at k ≡ action_at F k) → TheOrder F p
  unfolding the_order-is
  as_computed p same = record {
    urgency = urgency_of F;
    urgent = urgency-is;
    by_urgency = same-order F.n (Before F) (urgency_of F) the_order p (λ k l. the_order-at k ∙ sym (same k l)) the_order-is.by_urgency;
  }

-- ---- settled

module _ {F : Profile} {o : Order F.n} (x : TheOrder F o) where
  pub order_permitted : Permitted (Before F) o
  order_permitted = by_urgency_permitted o x.by_urgency

  -- The rules settle the order: two that are the order of F have the same action at each position.
  pub order_settled : {p : Order F.n} → TheOrder F p → (k : ℕ) → k < F.n → o.at k ≡ p.at k
  order_settled {p} y = one-order F.n (Before F) x.urgency o p x.by_urgency
      (same-urgency F.n (Before F) y.urgency x.urgency (λ a l. one-urgency (y.urgent a l) (x.urgent a l)) p y.by_urgency)

  pub order_loopless : Loop F.n (Before F) → ⊥
  order_loopless = no_loop o order_permitted

  -- so it can be computed
  pub order_computed : (k : ℕ) → k < F.n → o.at k ≡ action_at F k
  order_computed k l = order_settled (the_order-is F order_loopless) k l ∙ the_order-at F order_loopless k

  -- ---- best

  -- Proposition 2.4 for every fixed assignment of levels, as c is any: the order of F meets every deadline from t exactly if some permitted
  -- order does.
  pub order_best : (c : ℕ → ℕ) (t : ℕ) → Meets t o c (due F) ↔ ((p : Order F.n) × Permitted (Before F) p × Meets t p c (due F))
  order_best c = best F.n (Before F) (due F) x.urgency c x.urgent (before? F) o x.by_urgency

  pub fit_exact : (t : ℕ) → Meets t o (λ a. F.worst a 0) (due F) ↔ FitFrom t F
  fit_exact = order_best (λ a. F.worst a 0)

-- ---- refusals 8 and 9 can be decided

pub loop? : (F : Profile) → Dec (Loop F.n (Before F))
loop? F = Greedy.loop? F.n (Before F) (before? F) (due F)

pub meets? : {n : ℕ} (t : ℕ) (o : Order n) (c D : ℕ → ℕ) → Dec (Meets t o c D)
meets? {n} t o c D = each? n (λ k. t + ends o c k ≤ D (o.at k)) (λ k. dec_le (t + ends o c k) (D (o.at k)))

-- With a loop no order is permitted; without one the order of F tells.
pub fit? : (t : ℕ) (F : Profile) → Dec (FitFrom t F)
fit? t F = go (loop? F)
  where
    go : Dec (Loop F.n (Before F)) → Dec (FitFrom t F)
    go (yes l) = no (λ f. no_loop f.0 f.1 l)
    go (no l) =
        let exact = fit_exact (the_order-is F l) t in
        map_dec exact.0 exact.1 (meets? t (the_order F l) (λ a. F.worst a 0) (due F))
