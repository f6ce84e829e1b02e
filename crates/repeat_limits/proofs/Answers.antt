-- What the calls answer: by the lent tables, and where these are planning's, of the unrolled system. Assumes nothing.
use Prim.Native.Nat.{ℕ, ◌-◌, ◌*◌, ◌≤◌, ◌<◌}
use mathlib.Core.Path.{◌≡◌, ap, sym, ◌∙◌}
use mathlib.Core.List.{List}
use mathlib.Core.Logic.{◌≢◌}
use native.Mathlib.Decide.{dec_lt}
use native.Mathlib.Omega.{arith}
use lib.IntN.{ℤ, pos}
use borrow.Author.Tests.{lt-ltb, le-ltb, ne_eqb}
use Rattle.rules.specs.Image.{Profile}
use Rattle.rules.specs.Order.{Order, TheOrder}
use Rattle.rules.specs.Limits.{tables, planned}
use Rattle.rules.specs.Repeat.{unrolled, LentBody, positions, lent_plan, PlannedBody, body_limit_refusal, body_bound_refusal, absent_long, bound_or_absent}
use Rattle.rules.specs.declared.Body.{Body}
use Rattle.repeat_laws.proofs.Lent.{lent_limit, lent_bound}
use Rattle.repeat_limits.specs.Limits.{LimitAnswers, BoundAnswers, Stands}
use Rattle.repeat_limits.proofs.Reading.{alone, limit-same, bound-same, positions-read}

-- the counts of a planned body are its profile's
module _ {F : Profile} {o : Order F.n} {b : Body} {T : LentBody} (P : PlannedBody F o b T) where
  positions_are : positions b ≡ b.repeats * F.n
  positions_are = ap (λ (x : Body). b.repeats * x.n) P.body_is

  levels_are : b.levels ≡ F.levels
  levels_are = ap (λ (x : Body). x.levels) P.body_is

-- ---- the limit

module _ (b : Body) (s : List ℕ) (i q : ℕ) where
  pub limit-refused : (k : ℕ) → k ≢ 0 → k ≡ body_limit_refusal b s i q
      → LimitAnswers b s i q (record { refusal = record { number = k }; limit = pos 0 })
  limit-refused k ne e = record {
    number = e;
    limit_is = rw (ne_eqb k 0 ne);
    unrolled_limit = λ z same P y. absurd (ne z);
  }

  pub limit_answered : (x : ℤ) → Stands b s i q → 0 ≡ body_limit_refusal b s i q → x ≡ (lent_plan b (alone s)).limit i q
      → LimitAnswers b s i q (record { refusal = record { number = 0 }; limit = x })
  limit_answered x h e is = record {
    number = e;
    limit_is = is;
    unrolled_limit = λ z {F} {o} {T} same P {p} y.
        is ∙ limit-same b T s i q same
        ∙ lent_limit P y i q (omega (arith, positions_are P, h.present)) (omega (arith, levels_are P, h.level));
  }

-- ---- the coast bound

module _ (b : Body) (lent : LentBody) (i q r : ℕ) where
  pub bound-refused : (k : ℕ) → k ≢ 0 → k ≡ body_bound_refusal b lent i q r
      → BoundAnswers b lent i q r (record { refusal = record { number = k }; limit = pos 0 })
  bound-refused k ne e = record {
    number = e;
    bound_is = rw (ne_eqb k 0 ne);
    unrolled_bound = λ z same_s same_w P y. absurd (ne z);
  }

  pub absent-is : positions b - i < r → absent_long ≡ bound_or_absent (lent_plan b lent) i q r
  absent-is l = let here : (lent_plan b lent).n - i < r = omega (arith, positions-read b lent) in rw (lt-ltb _ _ here)

  pub present-is : r ≤ positions b - i → (lent_plan b lent).bound i q r ≡ bound_or_absent (lent_plan b lent) i q r
  present-is l = let here : r ≤ (lent_plan b lent).n - i = omega (arith, positions-read b lent) in rw (le-ltb _ _ here)

  -- absent from both, or the same in both
  unrolled-same : {F : Profile} {o : Order F.n} {T : LentBody} → T.summaries ≡ lent.summaries → T.worst ≡ lent.worst → PlannedBody F o b T
      → {p : Order (b.repeats * F.n)} → TheOrder (unrolled F b.repeats) p → q < b.levels → 0 < r
      → Dec (positions b - i < r)
      → bound_or_absent (lent_plan b lent) i q r ≡ bound_or_absent (planned b.policy (tables (unrolled F b.repeats) p)) i q r
  unrolled-same {F} {o} {T} same_s same_w P {p} y m some (yes l) =
      let there : b.repeats * F.n - i < r = omega (arith, positions_are P) in
      sym (absent-is l) ∙ rw (lt-ltb _ _ there)
  unrolled-same {F} {o} {T} same_s same_w P {p} y m some (no l) =
      let there : r ≤ b.repeats * F.n - i = omega (arith, positions_are P) in
      sym (present-is (omega arith)) ∙ rw (le-ltb _ _ there)
      (bound-same b T lent i q r same_s same_w ∙ lent_bound P y i q r (omega (arith, levels_are P)) some (omega arith))

  pub bound_answered : (x : ℤ) → q < b.levels → 0 < r → 0 ≡ body_bound_refusal b lent i q r → x ≡ bound_or_absent (lent_plan b lent) i q r
      → BoundAnswers b lent i q r (record { refusal = record { number = 0 }; limit = x })
  bound_answered x m some e is = record {
    number = e;
    bound_is = is;
    unrolled_bound = λ z {F} {o} {T} same_s same_w P {p} y.
        is ∙ unrolled-same same_s same_w P y m some (dec_lt (positions b - i) r);
  }
