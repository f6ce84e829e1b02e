-- Lent tables that read as planning's are the plan of the unrolled system, by whatever order is its own.
use Prim.Native.Nat.{ℕ, ◌+◌, ◌-◌, ◌*◌, ◌/◌, ◌%◌, ◌≤◌, ◌<◌}
use mathlib.Core.Path.{◌≡◌, ap, ap₂, sym, ◌∙◌}
use mathlib.Core.Bool.{Bool, true, false, cond}
use mathlib.Core.Logic.{inl, inr}
use native.Mathlib.Nat.{div-add-mod'}
use native.Mathlib.Omega.{arith}
use lib.IntN.{ℤ, pos, ◌-ℤ◌}
use lib.Signed.{le_z}
use Rattle.rules.specs.Words.{maxZ}
use Rattle.rules.specs.Image.{Profile}
use Rattle.rules.specs.Order.{Order, TheOrder}
use Rattle.rules.specs.Limits.{tables, limit_by, coast_bound, planned}
use Rattle.rules.specs.Dry.{cell, before}
use Rattle.rules.proofs.Differences.{not-above}
use Rattle.rules.proofs.Sums.{span_same}
use Rattle.rules.proofs.Limits.Alike.{least-same}
use Rattle.rules.proofs.Order.OfProfile.{order_settled}
use Rattle.rules.proofs.Demand.Alike.{Alike, before-alike}
use Rattle.rules.specs.Repeat.{unrolled, Sums, followed, bodies, needed, rest_of, body_of, mix_from, worst_from, ends_mix, by_ends, LentBody, rest_lent, lent_each, lent_plan, PlannedBody, action_at}
use Rattle.rules.specs.declared.Body.{Body}
use Rattle.repeat_laws.proofs.Repeatable.{Repeatable, repeatable}
use Rattle.repeat_laws.proofs.Places.{place-lt}
use Rattle.repeat_laws.proofs.Order.{repeated, repeated_at, repeated_order}
use Rattle.repeat_laws.proofs.Plan.{repeat_plan, limit-exact, bound-exact, ends-exact, worst-exact}

-- Only two summaries are read: that of the position's place and that of the whole body.
sums_same : (b : Body) (f g : ℕ → ℕ → Sums) (x q : ℕ) → f (x % b.n) q ≡ g (x % b.n) q → f 0 q ≡ g 0 q
    → (mix_from b f x q ≡ mix_from b g x q) × (worst_from b f x q ≡ worst_from b g x q)
unfolding mix_from worst_from
sums_same b f g x q own whole =
    let after : ℕ = b.repeats - 1 - x / b.n in
    (ap₂ (λ (u v : Sums). needed b.policy u v after) own whole, ap₂ (λ (u v : Sums). (followed u (bodies v after)).worst) own whole)

-- of two readings that are one number, the greater is that number, and so is one of them
either : (c : Bool) (x y z : ℤ) → x ≡ z → y ≡ z → cond c (maxZ x y) y ≡ z
either c x y z e f = go c (le_z x y)
  where
    go : (c d : Bool) → cond c (cond d y x) y ≡ z
    go true true = f
    go true false = e
    go false d = f

pub some_level : {F : Profile} {o : Order F.n} {b : Body} {T : LentBody} → PlannedBody F o b T → 0 < F.levels
some_level P = not-above (λ h. P.counts (inl (inr (inr (inl h)))))

module _ {F : Profile} {o : Order F.n} {b : Body} {T : LentBody} (P : PlannedBody F o b T) {p : Order (b.repeats * F.n)}
    (y : TheOrder (unrolled F b.repeats) p) where
  body : Repeatable F
  body = repeatable F b.repeats P.counts P.range P.repeats

  levels : 0 < F.levels
  levels = some_level P

  sums-lent : (x q : ℕ) → q < F.levels → let c = body_of F b.repeats b.policy in
      (mix_from c (rest_lent c T) x q ≡ mix_from c (rest_of b.policy (tables F o)) x q) × (worst_from c (rest_lent c T) x q ≡ worst_from c (rest_of b.policy (tables F o)) x q)
  sums-lent x q m = sums_same (body_of F b.repeats b.policy) (rest_lent (body_of F b.repeats b.policy) T) (rest_of b.policy (tables F o)) x q
      (P.summaries_are (x % F.n) q (place-lt body.some x) m) (P.summaries_are 0 q body.some m)

  -- The limits of the unrolled system.
  pub lent_limit : (i q : ℕ) → i < b.repeats * F.n → q < F.levels
      → (lent_plan b T).limit i q ≡ limit_by b.policy (tables (unrolled F b.repeats) p) i q
  unfolding lent_plan
  lent_limit i q l m =
      ap (λ (x : Body). (lent_plan x T).limit i q) P.body_is
      ∙ ap (λ (x : ℕ). pos F.cycle -ℤ pos x) (sums-lent i q m).0
      ∙ sym (limit-exact body b.repeats P.the_order levels P.table b.policy y i q l m)

  -- Its coast bounds, read at each position, by the ends, and so in either way.
  each_lent : (i q r : ℕ) → q < F.levels
      → (lent_each (body_of F b.repeats b.policy) T).bound i q r ≡ (repeat_plan F b.repeats b.policy o).bound i q r
  unfolding lent_each
  each_lent i q r m = least-same _ _ i (r - 1) (λ j u v.
      ap₂ (λ (x w : ℕ). pos F.cycle -ℤ pos x -ℤ pos w) (sums-lent j q m).0
      (span_same (λ k. cell T.worst F.levels (k % F.n) q) (λ k. F.worst (o.at (k % F.n)) q) i j u
      (λ k h. P.worst_is (k % F.n) q (place-lt body.some k) m)))

  ends-lent : (i q r : ℕ) → q < F.levels → let c = body_of F b.repeats b.policy in ends_mix c (rest_lent c T) i q r ≡ ends_mix c (rest_of b.policy (tables F o)) i q r
  ends-lent i q r m = omega (arith, (sums-lent i q m).0, (sums-lent i q m).1, (sums-lent (i + (r - 1)) q m).0, (sums-lent (i + (r - 1)) q m).1)

  pub lent_bound : (i q r : ℕ) → q < F.levels → 0 < r → i + r ≤ b.repeats * F.n
      → (lent_plan b T).bound i q r
      ≡ coast_bound (tables (unrolled F b.repeats) p) (limit_by b.policy (tables (unrolled F b.repeats) p)) i q r
  unfolding lent_plan
  lent_bound i q r m some room =
      let c : Body = body_of F b.repeats b.policy in
      ap (λ (x : Body). (lent_plan x T).bound i q r) P.body_is
      ∙ either (by_ends c i q r) (pos F.cycle -ℤ pos (ends_mix c (rest_lent c T) i q r)) ((lent_each c T).bound i q r) ((repeat_plan F b.repeats b.policy o).bound i q r)
      (ap (λ (k : ℕ). pos F.cycle -ℤ pos k) (ends-lent i q r m) ∙ ends-exact body b.repeats P.the_order levels P.table b.policy i q r m some room)
      (each_lent i q r m)
      ∙ sym (bound-exact body b.repeats P.the_order levels P.table b.policy y i q r m some room)

  -- Its worst times, by the place of a position.
  pub lent-worst : (x q : ℕ) → x < b.repeats * F.n → q < F.levels
      → (tables (unrolled F b.repeats) p).worst x q ≡ cell T.worst F.levels (x % F.n) q
  lent-worst x q l m =
      worst-exact body b.repeats P.the_order levels P.table b.policy y x q l
      ∙ sym (P.worst_is (x % F.n) q (place-lt body.some x) m)

  -- Its actions.
  pub lent-action : (x : ℕ) → x < b.repeats * F.n → action_at F.n T.order x ≡ p.at x
  lent-action x l =
      let low = place-lt body.some x in
      ap (λ (a : ℕ). x / F.n * F.n + a) (P.order_is (x % F.n) low)
      ∙ sym (repeated_at body.some b.repeats o (x / F.n) (x % F.n) low)
      ∙ ap (λ (k : ℕ). (repeated body.some b.repeats o).at k) (div-add-mod' x F.n)
      ∙ sym (order_settled y (repeated_order body b.repeats P.the_order) x l)

  -- So a cycle over either runs the same.
  pub lent_alike : (cap : ℕ) → Alike cap (planned b.policy (tables (unrolled F b.repeats) p)) (lent_plan b T)
  unfolding lent_plan
  lent_alike cap = record {
    n = ap (λ (x : Body). b.repeats * x.n) (sym P.body_is);
    levels = ap (λ (x : Body). x.levels) (sym P.body_is);
    limit = λ i q l m. sym (lent_limit i q l m);
    bound = λ i q r m some most room. sym (lent_bound i q r m some room);
  }

  -- The run record before each position of a cycle, all read from the lent tables.
  pub lent-run : (cap : ℕ) (d : ℕ → ℕ → ℕ) (t i : ℕ) → i ≤ b.repeats * F.n
      → before cap (planned b.policy (tables (unrolled F b.repeats) p)) (tables (unrolled F b.repeats) p).worst d t i
      ≡ before cap (lent_plan b T) (λ x q. cell T.worst F.levels (x % F.n) q) d t i
  lent-run cap d t i l = before-alike (lent_alike cap) levels (tables (unrolled F b.repeats) p).worst
      (λ x q. cell T.worst F.levels (x % F.n) q) d lent-worst t i l
