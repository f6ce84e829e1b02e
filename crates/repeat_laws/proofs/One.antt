-- With one repeat the unrolled system is the body: the same order, limits, coast bounds and steps, and 9 is the body's own. Assumes nothing.
use Prim.Native.Nat.{ℕ, suc, ◌+◌, ◌-◌, ◌*◌, ◌%◌, ◌≤◌, ◌<◌}
use mathlib.Core.Path.{◌≡◌, refl, ap, ap₂, sym, ◌∙◌}
use mathlib.Core.Bool.{Bool, true, false, cond}
use mathlib.Core.Logic.{◌↔◌}
use native.Mathlib.Nat.{mod-eq_of_lt, div-eq_of_lt, one-mul}
use native.Mathlib.Omega.{arith}
use borrow.Author.Tests.{le-ltb}
use lib.Dec.{eqb}
use lib.IntN.{ℤ, pos, ◌-ℤ◌}
use Rattle.rules.specs.Numbers.{policy_2005}
use Rattle.rules.specs.Words.{sum}
use Rattle.rules.specs.Image.{Profile, due}
use Rattle.rules.specs.Order.{Order, Meets, TheOrder, FitFrom}
use Rattle.rules.specs.Limits.{tables, mixed, limit_by, coast_bound, planned}
use Rattle.rules.specs.Refusals.{Table}
use Rattle.rules.specs.Dry.{before}
use Rattle.rules.specs.Repeat.{unrolled, stretch, stretch_2005, followed, bodies, needed, needed_2005, rest_of, body_of, mix_from}
use Rattle.rules.proofs.Sums.{span_same, sum_longer}
use Rattle.rules.proofs.Limits.Alike.{least-same}
use Rattle.rules.proofs.Accepted.{tables-sound}
use Rattle.rules.proofs.Order.OfProfile.{order_settled, fit_exact}
use Rattle.rules.proofs.Demand.Alike.{Alike, before-alike}
use Rattle.repeat_laws.proofs.Repeatable.{Repeatable}
use Rattle.repeat_laws.proofs.Order.{due-one, repeated, repeated_at, repeated_order}
use Rattle.repeat_laws.proofs.Mixed.{mixed-greatest, taken_2005, taken, limit-one}
use Rattle.repeat_laws.proofs.Totals.{sum-order}
use Rattle.repeat_laws.proofs.Fits.{total, fit_total}
use Rattle.repeat_laws.proofs.Plan.{repeat_plan, run-exact}

module _ {F : Profile} (body : Repeatable F) {o : Order F.n} (x : TheOrder F o) (levels : 0 < F.levels) (table : Table F → ⊥) (policy : ℕ) where
  -- no body comes after the first
  one-mix : (i q : ℕ) → i < F.n → mix_from (body_of F 1 policy) (rest_of policy (tables F o)) i q ≡ needed policy (rest_of policy (tables F o) i q) (rest_of policy (tables F o) 0 q) 0
  unfolding mix_from
  one-mix i q l =
      ap₂ (λ (a m : ℕ). needed policy (rest_of policy (tables F o) a q) (rest_of policy (tables F o) 0 q) (1 - 1 - m)) (mod-eq_of_lt l) (div-eq_of_lt l)

  -- so that the limit takes what the rest of it needs
  one-taken : (i q : ℕ) → i < F.n → q < F.levels
      → taken policy (tables F o) i q ≡ needed policy (rest_of policy (tables F o) i q) (rest_of policy (tables F o) 0 q) 0
  unfolding stretch
  one-taken i q l m = by (eqb policy policy_2005)
    where
      by : (b : Bool) → cond b (taken_2005 (tables F o) i q) (mixed (tables F o) i (F.n - 1) q)
          ≡ cond b
          (needed_2005 (cond b (stretch_2005 (tables F o)) (stretch (tables F o)) q i (F.n - 1)) (cond b (stretch_2005 (tables F o)) (stretch (tables F o)) q 0 (F.n - 1)) 0)
          (cond b (stretch_2005 (tables F o)) (stretch (tables F o)) q i (F.n - 1)).mix
      by true = omega arith
      by false = mixed-greatest (tables F o) q i (F.n - 1) (omega arith) ((tables-sound F o levels table).ordered (F.n - 1) q (omega arith) m)

  -- The limits,
  pub one-limit : (i q : ℕ) → i < F.n → q < F.levels → limit_by policy (tables F o) i q ≡ (repeat_plan F 1 policy o).limit i q
  one-limit i q l m =
      limit-one (tables F o) F.cycle i q l (λ k h. due-one body (o.at k) (o.at_lt k h)) policy
      ∙ ap (λ (y : ℕ). pos F.cycle -ℤ pos y) (one-taken i q l m ∙ sym (one-mix i q l))

  -- the coast bounds,
  pub one-bound : (i q r : ℕ) → q < F.levels → 0 < r → i + r ≤ F.n
      → coast_bound (tables F o) (limit_by policy (tables F o)) i q r ≡ (repeat_plan F 1 policy o).bound i q r
  unfolding coast_bound
  one-bound i q r m some room = rw (le-ltb (F.n - i) r (omega arith)) (least-same _ _ i (r - 1) (λ j u v.
      ap₂ (λ (z : ℤ) (w : ℕ). z -ℤ pos w) (one-limit j q (omega arith) m)
      (span_same (λ k. F.worst (o.at k) q) (λ k. F.worst (o.at (k % F.n)) q) i j u
      (λ k h. let low : k < F.n = omega arith in ap (λ (p : ℕ). F.worst (o.at p) q) (sym (mod-eq_of_lt low))))))

  one_alike : (cap : ℕ) → Alike cap (planned policy (tables F o)) (repeat_plan F 1 policy o)
  one_alike cap = record {
    n = sym (one-mul F.n);
    levels = refl;
    limit = one-limit;
    bound = λ i q r m some most room. one-bound i q r m some room;
  }

  module _ {p : Order (1 * F.n)} (y : TheOrder (unrolled F 1) p) where
    -- the order,
    pub one-order : (i : ℕ) → i < F.n → p.at i ≡ o.at i
    one-order i l =
        let low : i < 1 * F.n = omega (arith, one-mul F.n) in
        let at : 0 * F.n + i ≡ i = omega arith in
        order_settled y (repeated_order body 1 x) i low
        ∙ ap (λ (k : ℕ). (repeated body.some 1 o).at k) (sym at)
        ∙ repeated_at body.some 1 o 0 i l
        ∙ omega arith

    -- and the record before every position.
    pub one-run : (cap : ℕ) (d : ℕ → ℕ → ℕ) (t i : ℕ) → i ≤ F.n
        → before cap (planned policy (tables F o)) (tables F o).worst d t i
        ≡ before cap (planned policy (tables (unrolled F 1) p)) (tables (unrolled F 1) p).worst d t i
    one-run cap d t i l =
        before-alike (one_alike cap) levels (tables F o).worst (λ k q. F.worst (o.at (k % F.n)) q) d
        (λ k q h m. ap (λ (z : ℕ). F.worst (o.at z) q) (sym (mod-eq_of_lt h))) t i l
        ∙ sym (run-exact body 1 x levels table policy y cap d t i (omega (arith, one-mul F.n)))

-- 9 of the unrolled system is 9 of the body: from any start some permitted order of the one fits exactly if one of the other does.
module _ {F : Profile} (body : Repeatable F) {o : Order F.n} (x : TheOrder F o) where
  meets-total : (t : ℕ) → Meets t o (λ a. F.worst a 0) (due F) ↔ (t + total F 1 ≤ F.cycle)
  meets-total t =
      let all = sum-order o (λ a. F.worst a 0) in
      let last : suc (F.n - 1) ≡ F.n = omega (arith, body.some) in (
        (λ m. omega (
          arith,
          m (F.n - 1) (omega (arith, body.some)),
          ap (λ (y : ℕ). sum y (λ j. F.worst (o.at j) 0)) last,
          due-one body (o.at (F.n - 1)) (o.at_lt (F.n - 1) (omega (arith, body.some))),
          all,
        )),
        (λ h k l. omega (arith, sum_longer (λ j. F.worst (o.at j) 0) (suc k) F.n l, all, due-one body (o.at k) (o.at_lt k l))),
      )

  pub one_fit : (t : ℕ) → FitFrom t (unrolled F 1) ↔ FitFrom t F
  one_fit t =
      let there = fit_total body 1 x t (omega arith) in
      let here = fit_exact x t in
      let meets = meets-total t in
      ((λ f. here.0 (meets.1 (there.0 f))), (λ f. there.1 (meets.0 (here.1 f))))
