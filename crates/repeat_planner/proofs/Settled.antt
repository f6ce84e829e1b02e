-- What planning a body answers and leaves is settled by what it is given. Assumes nothing.
use Prim.Native.Nat.{ℕ, suc, ◌+◌, ◌-◌, ◌<◌}
use mathlib.Core.Path.{◌≡◌, refl, sym, ap, ap₂, ◌∙◌}
use mathlib.Core.Bool.{Bool, true, false, cond}
use mathlib.Core.List.{List}
use native.Mathlib.Nat.{zero-add}
use native.Mathlib.Omega.{arith}
use lib.Dec.{eqb}
use Rattle.rules.specs.Numbers.{policy_2005}
use Rattle.rules.specs.Image.{Profile, profile}
use Rattle.rules.specs.Order.{Order, TheOrder}
use Rattle.rules.specs.Limits.{tables, safe}
use Rattle.rules.proofs.Sums.{span_same}
use Rattle.rules.specs.Refusals.{Count}
use Rattle.rules.specs.Repeat.{Sums, stretch, stretch_2005, LentBody, numbers_of, rest_of, body_tables, body_of, no_body, body_call}
use Rattle.rules.specs.declared.Body.{Body}
use Rattle.rules.specs.declared.Fault.{Fault}
use Rattle.rules.proofs.Refusals.{refuses-one}
use Rattle.rules.proofs.Order.OfProfile.{order_settled}
use Rattle.fields.proofs.Cats.{cat_ext}
use Rattle.fields.proofs.Tabs.{tab_ext}
use Rattle.planner.proofs.Alike.{worst-alike}
use Rattle.planner.proofs.Settled.{settled_alike, kept-one}
use Rattle.repeat_laws.proofs.Joins.{same, stretch_moved}
use Rattle.repeat_planner.specs.declared.BodyPlanned.{BodyPlanned}
use Rattle.repeat_planner.specs.PlanningBody.{body_rooms, with_body_fronts, PlansBody}
use Rattle.repeat_planner.proofs.Answers.{clear, same_body}

-- two orders of one body give the same tables
module _ {F : Profile} {o p : Order F.n} (counts : Count F → ⊥) (x : TheOrder F o) (y : TheOrder F p) where
  action : (k : ℕ) → k < F.n → o.at (0 + k) ≡ p.at k
  action k h = ap o.at (zero-add k) ∙ order_settled x y k h

  whole_settled : (i q : ℕ) → i < F.n → stretch (tables F o) q i (F.n - 1) ≡ stretch (tables F p) q i (F.n - 1)
  whole_settled i q l =
      ap₂ (stretch (tables F o) q) (sym (zero-add i)) (sym (zero-add (F.n - 1)))
      ∙ stretch_moved (tables F p) (tables F o) q 0 i (F.n - 1) (omega arith)
      (λ k h. ap (λ (a : ℕ). F.average a q) (action k (omega arith)))
      (λ k r h. ap (λ (a : ℕ). F.worst a r) (action k (omega arith)))

  -- the safe sum of the first position
  safe_settled : (i q : ℕ) → i < F.n → safe (tables F o) i (F.n - 1) q ≡ safe (tables F p) i (F.n - 1) q
  safe_settled i q l = ap₂ (λ (x y : ℕ). x + y)
      (ap (λ (a : ℕ). F.worst a q) (order_settled x y i l))
      (span_same (λ k. F.worst (o.at k) 0) (λ k. F.worst (p.at k) 0) (suc i) (suc (F.n - 1)) (omega arith)
      (λ k h. ap (λ (a : ℕ). F.worst a 0) (order_settled x y k (omega arith))))

  rest_settled : (policy i q : ℕ) → i < F.n → rest_of policy (tables F o) i q ≡ rest_of policy (tables F p) i q
  rest_settled policy i q l = by (eqb policy policy_2005)
    where
      by : (b : Bool) → cond b (stretch_2005 (tables F o)) (stretch (tables F o)) q i (F.n - 1) ≡ cond b (stretch_2005 (tables F p)) (stretch (tables F p)) q i (F.n - 1)
      by true =
          let e = whole_settled i q l in
          same (ap (λ (x : Sums). x.average) e) (ap (λ (x : Sums). x.lowest) e) (safe_settled i q l) (ap (λ (x : Sums). x.worst) e)
      by false = whole_settled i q l

  pub body_settled : (policy : ℕ) → body_tables policy F o ≡ body_tables policy F p
  body_settled policy = same_body
      (tab_ext o.at p.at F.n (order_settled x y))
      (cat_ext _ _ F.n (λ i l. cat_ext _ _ F.levels (λ q m. ap numbers_of (rest_settled policy i q l))))
      (worst-alike (settled_alike counts x y))

module _ {s : List ℕ} {N policy : ℕ} {before after₁ after₂ : LentBody} {r t : BodyPlanned}
    (x : PlansBody s N policy before after₁ r) (y : PlansBody s N policy before after₂ t) where
  refusal : r.refusal ≡ t.refusal
  refusal =
      refuses-one (body_call s N policy (body_rooms (profile s).n (profile s).levels before)) r.refusal t.refusal
      (record { number = x.number; action = x.action })
      (record { number = y.number; action = y.action })

  number : r.refusal.number ≡ t.refusal.number
  number = ap (λ (f : Fault). f.number) refusal

  answer : r ≡ t
  answer =
      ap (λ (f : Fault). record { refusal = f; body = r.body }) refusal
      ∙ ap (λ (b : Body). record { refusal = t.refusal; body = b })
      (kept-one _ _ (body_of (profile s) N policy) (body_of (profile s) N policy) no_body number (λ _. refl) x.body y.body)

  tables-one : r.refusal.number ≡ 0 → body_tables policy (profile s) x.o ≡ body_tables policy (profile s) y.o
  tables-one none =
      let nothing = clear s N policy (body_rooms (profile s).n (profile s).levels before) (rw none at x.number) in
      body_settled nothing.body.not_count (x.the_order none) (y.the_order (sym number ∙ none)) policy

  -- Two results that satisfy the contract on the same input are equal.
  pub plans_settled : (r ≡ t) × (after₁ ≡ after₂)
  plans_settled = (answer, kept-one _ _ _ _ before number (λ none. ap (with_body_fronts before) (tables-one none)) x.tables_are y.tables_are)
