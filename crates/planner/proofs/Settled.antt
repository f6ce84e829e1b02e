-- What planning answers and leaves is settled by what it is given. Assumes nothing.
use Prim.Native.Nat.{ℕ}
use mathlib.Core.Path.{◌≡◌, refl, sym, ap, ◌∙◌}
use mathlib.Core.List.{List, [], ◌∷◌}
use mathlib.Core.Logic.{⊎_elim}
use native.Mathlib.Decide.{ℕ_discrete}
use borrow.Author.Tests.{ne_eqb}
use Rattle.rules.specs.Numbers.{refused_room, refused_policy}
use Rattle.rules.specs.Image.{Profile, due, profile}
use Rattle.rules.specs.Order.{Order, TheOrder}
use Rattle.rules.specs.Limits.{tables, LentTables, planner_tables}
use Rattle.rules.specs.Refusals.{◌when◌, Count, Tight, UnknownPolicy, kept, plan_call}
use Rattle.rules.specs.declared.Fault.{Fault}
use Rattle.rules.proofs.Refusals.{Sound, refuses-one, accepted_parts}
use Rattle.rules.proofs.Accepted.{some_level}
use Rattle.rules.proofs.Limits.Alike.{Alike}
use Rattle.rules.proofs.Order.OfProfile.{order_settled}
use Rattle.fields.proofs.Tabs.{tab_ext}
use Rattle.plan_tables.proofs.Filling.{same_tables}
use Rattle.planner.specs.declared.Planned.{Planned}
use Rattle.planner.specs.Planning.{plan_rooms, with_fronts, Plans}
use Rattle.planner.proofs.Alike.{limits-alike, worst-alike, bounds-alike}

-- two orders of one profile give the same tables
pub settled_alike : {F : Profile} {o p : Order F.n} → (Count F → ⊥) → TheOrder F o → TheOrder F p
    → Alike (tables F o) (tables F p) F.n F.levels
settled_alike {F} {o} counts x y =
    let at = order_settled x y in
    record {
      n_left = refl;
      n_right = refl;
      some_level = some_level F o counts;
      deadline = λ k h. ap (due F) (at k h);
      average = λ k q h l. ap (λ (a : ℕ). F.average a q) (at k h);
      worst = λ k q h l. ap (λ (a : ℕ). F.worst a q) (at k h);
    }

pub tables_settled : (policy : ℕ) {F : Profile} {o p : Order F.n} → (Count F → ⊥) → TheOrder F o → TheOrder F p
    → planner_tables policy F o ≡ planner_tables policy F p
tables_settled policy {F} {o} {p} counts x y =
    let the_same = settled_alike counts x y in
    same_tables (tab_ext o.at p.at F.n (order_settled x y)) (limits-alike the_same policy) (worst-alike the_same) (bounds-alike the_same policy)

-- what is kept is the same where what is new is, if there is anything new
pub kept-one : {A : Type 0} (k m : ℕ) {x y : A} (new new' old : A) → k ≡ m → (k ≡ 0 → new ≡ new') → x ≡ kept k new old → y ≡ kept m new' old → x ≡ y
kept-one {A} k m new new' old e same f g = f ∙ both (ℕ_discrete k 0) ∙ sym (rw (← e) at g)
  where
    both : Dec (k ≡ 0) → kept k new old ≡ kept k new' old
    both (yes z) = rw z (same z)
    both (no z) = rw (ne_eqb k 0 z)

module _ {s : List ℕ} {policy : ℕ} {before after₁ after₂ : LentTables} {r t : Planned}
    (x : Plans s policy before after₁ r) (y : Plans s policy before after₂ t) where
  refusal : r.refusal ≡ t.refusal
  refusal =
      refuses-one (plan_call s policy (plan_rooms (profile s).n (profile s).levels before)) r.refusal t.refusal
      (record { number = x.number; action = x.action })
      (record { number = y.number; action = y.action })

  number : r.refusal.number ≡ t.refusal.number
  number = ap (λ (f : Fault). f.number) refusal

  answer : r ≡ t
  answer =
      ap (λ (f : Fault). record { refusal = f; n = r.n; levels = r.levels; cycle = r.cycle }) refusal
      ∙ ap (λ (k : ℕ). record { refusal = t.refusal; n = k; levels = r.levels; cycle = r.cycle })
      (kept-one _ _ (profile s).n (profile s).n 0 number (λ _. refl) x.n y.n)
      ∙ ap (λ (k : ℕ). record { refusal = t.refusal; n = t.n; levels = k; cycle = r.cycle })
      (kept-one _ _ (profile s).levels (profile s).levels 0 number (λ _. refl) x.levels y.levels)
      ∙ ap (λ (k : ℕ). record { refusal = t.refusal; n = t.n; levels = t.levels; cycle = k })
      (kept-one _ _ (profile s).cycle (profile s).cycle 0 number (λ _. refl) x.cycle y.cycle)

  -- without a refusal the image is sound
  sound : r.refusal.number ≡ 0 → Sound s
  sound none =
      let own = refused_policy when UnknownPolicy policy ∷ refused_room when Tight (plan_rooms (profile s).n (profile s).levels before) ∷ [] in
      ⊎_elim (λ p. absurd (p.1 none)) (λ p. p.0) (accepted_parts s own r.refusal.number x.number)

  tables-one : r.refusal.number ≡ 0 → planner_tables policy (profile s) x.o ≡ planner_tables policy (profile s) y.o
  tables-one none = tables_settled policy (sound none).not_count (x.the_order none) (y.the_order (sym number ∙ none))

  -- Two results that satisfy the contract on the same input are equal.
  pub plan_settled : (r ≡ t) × (after₁ ≡ after₂)
  plan_settled = (answer, kept-one _ _ _ _ before number (λ none. ap (with_fronts before) (tables-one none)) x.tables_are y.tables_are)
