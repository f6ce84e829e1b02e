-- What the manager reads of a body repeated, worked out position by position, is the plan of the unrolled system.
use Prim.Native.Nat.{ℕ, zero, suc, ◌+◌, ◌-◌, ◌*◌, ◌%◌, ◌≤◌, ◌<◌, max}
use mathlib.Core.Path.{◌≡◌, refl, ap, ap₂, sym, subst, ◌∙◌}
use mathlib.Core.Logic.{◌↔◌, ⊎_map}
use native.Mathlib.Omega.{arith}
use lib.IntN.{ℤ, pos, ◌-ℤ◌}
use lib.Signed.{◌≤ℤ◌}
use borrow.Author.Tests.{le-ltb}
use Rattle.rules.specs.Words.{span}
use Rattle.rules.specs.Image.{Profile}
use Rattle.rules.specs.Order.{Order, TheOrder}
use Rattle.rules.specs.Limits.{tables, limit_by, coast_bound, Plan, planned, Gives}
use Rattle.rules.specs.Refusals.{Table}
use Rattle.rules.proofs.Sums.{sum_longer, span_same}
use Rattle.rules.proofs.Differences.{take-both}
use Rattle.rules.proofs.Limits.Signed.{AtMost, at-most-less, least_all}
use Rattle.rules.proofs.Limits.Mixed.{Sound}
use Rattle.rules.proofs.Limits.Alike.{least-same}
use Rattle.rules.specs.Dry.{before}
use Rattle.rules.proofs.Order.OfProfile.{order_settled}
use Rattle.rules.proofs.Demand.Alike.{Alike, before-alike}
use Rattle.repeat_laws.proofs.Repeatable.{Repeatable}
use Rattle.rules.specs.Repeat.{unrolled, rest_of, body_of, mix_from, worst_from, limit_from, body_plan, ends_mix}
use Rattle.repeat_laws.proofs.Order.{due-unrolled, repeated_order}
use Rattle.repeat_laws.proofs.Rule.{unrolled_tables, unrolled-sound}
use Rattle.repeat_laws.proofs.Closed.{limit_there, worst_closed, worst_there}
use Rattle.repeat_laws.proofs.Coasts.{coast-one}
use Rattle.repeat_laws.proofs.Settled.{limit_settled}

-- what the manager reads of a body repeated
abbrev pub repeat_plan : (F : Profile) → ℕ → ℕ → Order F.n → Plan
repeat_plan F N policy o = body_plan (body_of F N policy) (rest_of policy (tables F o)) (tables F o).worst

module _ {F : Profile} (body : Repeatable F) (N : ℕ) {o : Order F.n} (x : TheOrder F o) (levels : 0 < F.levels) (table : Table F → ⊥)
    (policy : ℕ) {p : Order (N * F.n)} (y : TheOrder (unrolled F N) p) where
  -- The limits of the unrolled system.
  pub limit-exact : (i q : ℕ) → i < N * F.n → q < F.levels → limit_by policy (tables (unrolled F N) p) i q ≡ (repeat_plan F N policy o).limit i q
  limit-exact i q l m =
      limit_settled y (repeated_order body N x) levels policy i q l m
      ∙ limit_there body N o q (unrolled-sound body N o levels table) m policy i l

  -- Its worst times are the body's.
  pub worst-exact : (k q : ℕ) → k < N * F.n → (tables (unrolled F N) p).worst k q ≡ F.worst (o.at (k % F.n)) q
  worst-exact k q h = ap (λ (a : ℕ). (unrolled F N).worst a q) (order_settled y (repeated_order body N x) k h) ∙ worst_there body N o k q

  -- Its coast bounds.
  pub bound-exact : (i q r : ℕ) → q < F.levels → 0 < r → i + r ≤ N * F.n
      → coast_bound (tables (unrolled F N) p) (limit_by policy (tables (unrolled F N) p)) i q r ≡ (repeat_plan F N policy o).bound i q r
  unfolding coast_bound
  bound-exact i q r m some room = rw (le-ltb (N * F.n - i) r (omega arith)) (least-same _ _ i (r - 1) (λ j u v.
      ap₂ (λ (z : ℤ) (w : ℕ). z -ℤ pos w) (limit-exact j q (omega arith) m)
      (span_same (λ k. (tables (unrolled F N) p).worst k q) (λ k. F.worst (o.at (k % F.n)) q) i j u (λ k h. worst-exact k q (omega arith)))))

  -- So a cycle over either runs the same.
  pub plan-exact : (cap : ℕ) → Alike cap (planned policy (tables (unrolled F N) p)) (repeat_plan F N policy o)
  plan-exact cap = record {
    n = refl;
    levels = refl;
    limit = limit-exact;
    bound = λ i q r m some most room. bound-exact i q r m some room;
  }

  -- The run record before each position of a cycle, with the worst times read from the body.
  pub run-exact : (cap : ℕ) (d : ℕ → ℕ → ℕ) (t i : ℕ) → i ≤ N * F.n
      → before cap (planned policy (tables (unrolled F N) p)) (tables (unrolled F N) p).worst d t i
      ≡ before cap (repeat_plan F N policy o) (λ k q. F.worst (o.at (k % F.n)) q) d t i
  run-exact cap d t i l = before-alike (plan-exact cap) levels (tables (unrolled F N) p).worst (λ k q. F.worst (o.at (k % F.n)) q) d
      (λ k q h m. worst-exact k q h) t i l

  -- The manager gives the same level, and is late at the same times.
  pub gives-exact : (t i q : ℕ) → i < N * F.n → Gives (planned policy (tables (unrolled F N) p)) t i q ↔ Gives (repeat_plan F N policy o) t i q
  gives-exact t i q l = (
    (λ g. record {
      level = g.level;
      fits = ⊎_map (λ h. to q g.level h) (λ e. e) g.fits;
      none_above = λ k a b h. g.none_above k a b (from k b h);
    }),
    (λ g. record {
      level = g.level;
      fits = ⊎_map (λ h. from q g.level h) (λ e. e) g.fits;
      none_above = λ k a b h. g.none_above k a b (to k b h);
    }),
  )
    where
      to : (k : ℕ) → k < F.levels → pos t ≤ℤ limit_by policy (tables (unrolled F N) p) i k → pos t ≤ℤ (repeat_plan F N policy o).limit i k
      to k m = subst (λ (z : ℤ). pos t ≤ℤ z) (limit-exact i k l m)

      from : (k : ℕ) → k < F.levels → pos t ≤ℤ (repeat_plan F N policy o).limit i k → pos t ≤ℤ limit_by policy (tables (unrolled F N) p) i k
      from k m = subst (λ (z : ℤ). pos t ≤ℤ z) (sym (limit-exact i k l m))

-- By the ends of a coast alone it is the same: its last position needs no less than any other.
module _ {F : Profile} (body : Repeatable F) (N : ℕ) {o : Order F.n} (x : TheOrder F o) (levels : 0 < F.levels) (table : Table F → ⊥)
    (policy i q r : ℕ) (m : q < F.levels) (some : 0 < r) (room : i + r ≤ N * F.n) where
  abbrev last : ℕ
  last = i + (r - 1)

  abbrev w : ℕ → ℕ
  w p = (unrolled_tables body N o).worst p q

  abbrev mix : ℕ → ℕ
  mix k = mix_from (body_of F N policy) (rest_of policy (tables F o)) k q

  spent : worst_from (body_of F N policy) (rest_of policy (tables F o)) i q - worst_from (body_of F N policy) (rest_of policy (tables F o)) last q ≡ span w i last
  spent = omega (
    arith,
    worst_closed body N o q policy i (omega arith),
    worst_closed body N o q policy last (omega arith),
    sum_longer w i last (omega arith),
    sum_longer w last (N * F.n) (omega arith),
  )

  sound : Sound (unrolled_tables body N o)
  sound = unrolled-sound body N o levels table

  -- the coast bound is the limit of the last position less the worst times before it
  by_last : (repeat_plan F N policy o).bound i q r ≡ pos F.cycle -ℤ pos (mix last + span w i last)
  by_last =
      let e : i + r - 1 ≡ last = omega arith in
      sym (bound-exact body N x levels table policy (repeated_order body N x) i q r m some room)
      ∙ coast-one (unrolled_tables body N o) sound q m policy F.cycle (λ k h. due-unrolled body N _) i r some room
      ∙ ap (λ (k : ℕ). limit_by policy (unrolled_tables body N o) k q -ℤ pos (span w i k)) e
      ∙ ap (λ (z : ℤ). z -ℤ pos (span w i last)) (limit_there body N o q sound m policy last (omega arith))
      ∙ take-both F.cycle (mix last) (span w i last)

  -- and the first position needs no more
  first-less : mix i ≤ mix last + span w i last
  first-less =
      let c : ℕ = F.cycle in
      let all : ℕ = mix last + span w i last in
      let most : AtMost c all ((repeat_plan F N policy o).bound i q r) = subst (AtMost c all) (sym by_last) ((at-most-less c all (pos c) all).1 (omega arith)) in
      let first = least_all (λ j. limit_from (body_of F N policy) (rest_of policy (tables F o)) j q -ℤ pos (before j)) c all i (r - 1) most i (omega arith) (omega arith) in
      let none : c + before i ≡ c = omega arith in
      let here : AtMost (c + before i) all (pos c -ℤ pos (mix i)) = (at-most-less c all (pos c -ℤ pos (mix i)) (before i)).0 first in
      omega (arith, (at-most-less c all (pos c) (mix i)).0 (rw none at here))
    where
      before : ℕ → ℕ
      before j = span (λ p. F.worst (o.at (p % F.n)) q) i j

  pub ends-exact : pos F.cycle -ℤ pos (ends_mix (body_of F N policy) (rest_of policy (tables F o)) i q r) ≡ (repeat_plan F N policy o).bound i q r
  ends-exact =
      let e : max (mix i) (worst_from (body_of F N policy) (rest_of policy (tables F o)) i q - worst_from (body_of F N policy) (rest_of policy (tables F o)) last q + mix last)
      ≡ mix last + span w i last = omega (arith, spent, first-less) in
      ap (λ (k : ℕ). pos F.cycle -ℤ pos k) e ∙ sym by_last
