-- What planning answers: refused, and not. Assumes nothing.
use Prim.Native.Nat.{ℕ}
use mathlib.Core.Path.{◌≡◌, refl}
use mathlib.Core.List.{List, [], ◌∷◌, ◌++◌}
use mathlib.Core.Logic.{⊎_elim, ◌≢◌}
use native.Mathlib.Omega.{arith}
use borrow.Author.Tests.{ne_eqb}
use Rattle.std.specs.Prelude.{Ok}
use Rattle.rules.specs.Numbers.{most_actions, refused_room, refused_policy}
use Rattle.rules.specs.Image.{profile}
use Rattle.rules.specs.Order.{Order}
use Rattle.rules.specs.Limits.{LentTables}
use Rattle.rules.specs.Refusals.{Ground, ◌when◌, First, Refuses, Tight, UnknownPolicy, kept, image_checks}
use Rattle.rules.proofs.Refusals.{Numbered, Sound, accepted_parts, first_stops, first-goes_on, blameless, refuses-stops, refuses-goes_on, image-numbered}
use Rattle.image_check.specs.declared.Checked.{Checked}
use Rattle.image_check.specs.Checks.{Judged}
use Rattle.rules.specs.declared.Fault.{Fault}
use Rattle.planner.specs.declared.Planned.{Planned}
use Rattle.plan_tables.specs.Filling.{PlanInput, SomePlanInput, AllFilled}
use Rattle.planner.specs.Planning.{plan_rooms, planned, Plans}

-- ---- what is kept

pub kept-old : {A : Type 0} (k : ℕ) (new old : A) → k ≢ 0 → old ≡ kept k new old
kept-old k new old h = rw (ne_eqb k 0 h)

pub kept_new : {A : Type 0} (k : ℕ) {x : A} (new old : A) → k ≡ 0 → x ≡ new → x ≡ kept k new old
kept_new k new old h e = rw h e

-- the actions by number: an order that is there for every n
pub by_number : (n : ℕ) → Order n
by_number n = record { at = λ k. k; pos = λ a. a; at_lt = λ k l. l; pos_lt = λ a l. l; pos_at = λ k l. refl; at_pos = λ a l. refl }

-- ---- what planning judges before the room: the image's, then 20

abbrev pub plan_checks : List ℕ → ℕ → List Ground
plan_checks s policy = image_checks s ++ (refused_policy when UnknownPolicy policy ∷ [])

pub plan-numbered : (s : List ℕ) (policy : ℕ) → Numbered (plan_checks s policy)
plan-numbered s policy = omega arith

pub passed_sound : (s : List ℕ) (policy : ℕ) → First (plan_checks s policy) 0 → Sound s
passed_sound s policy p = ⊎_elim (λ x. absurd (x.1 refl)) (λ x. x.0) (accepted_parts s (refused_policy when UnknownPolicy policy ∷ []) 0 p)

-- ---- the call's own, 20 and 17, after 1 to 9

abbrev own_checks : ℕ → ℕ → ℕ → LentTables → List Ground
own_checks policy n L lent = refused_policy when UnknownPolicy policy ∷ refused_room when Tight (plan_rooms n L lent) ∷ []

abbrev own : List ℕ → ℕ → LentTables → List Ground
own s policy lent = own_checks policy (profile s).n (profile s).levels lent

-- ---- refused

-- with what is given for it
abbrev pub refused : Fault → Planned
refused f = record { refusal = f; n = 0; levels = 0; cycle = 0 }

module _ {s : List ℕ} {policy : ℕ} (lent : LentTables) where
  refused-plans : (f : Fault) → Refuses (image_checks s ++ own s policy lent) f → f.number ≢ 0 → Plans s policy lent lent (refused f)
  refused-plans f given some = record {
    number = given.number;
    action = given.action;
    n = kept-old _ _ _ some;
    levels = kept-old _ _ _ some;
    cycle = kept-old _ _ _ some;
    o = by_number (profile s).n;
    the_order = λ none. absurd (some none);
    tables_are = kept-old _ _ _ some;
  }

  -- 1 to 9
  pub image-refused : (f : Fault) → Refuses (image_checks s) f → f.number ≢ 0 → Plans s policy lent lent (refused f)
  image-refused f given some = refused-plans f (refuses-stops (image_checks s) (own s policy lent) f given some) some

  -- ---- of an accepted image

  module _ {c : Checked} (judged : Judged s (Ok c)) where
    goes_on : {k : ℕ} → First (own s policy lent) k → Refuses (image_checks s ++ own s policy lent) (record { number = k; action = most_actions })
    goes_on {k} given =
        refuses-goes_on (image_checks s) (own s policy lent) _ (image-numbered s) judged.given.number
        (blameless (own s policy lent) k ((λ a z. z), ((λ a z. z), tt)) given)

    -- 20
    pub policy-refused : (k : ℕ) → First (refused_policy when UnknownPolicy policy ∷ []) k → k ≢ 0
        → Plans s policy lent lent (refused (record { number = k; action = most_actions }))
    policy-refused k given some =
        let room = refused_room when Tight (plan_rooms (profile s).n (profile s).levels lent) ∷ [] in
        refused-plans _ (goes_on (first_stops (refused_policy when UnknownPolicy policy ∷ []) room k given some)) some

    module _ (known : First (refused_policy when UnknownPolicy policy ∷ []) 0) where
      own_is : {k : ℕ} → First (refused_room when Tight (plan_rooms c.n c.levels lent) ∷ []) k → First (own s policy lent) k
      own_is {k} given =
          let found = judged.accepted in
          let room = refused_room when Tight (plan_rooms (profile s).n (profile s).levels lent) ∷ [] in
          first-goes_on (refused_policy when UnknownPolicy policy ∷ []) room k (omega arith, tt) known (rw (found.n, found.levels) at given)

      -- 17
      pub tight-refused : (k : ℕ) → First (refused_room when Tight (plan_rooms c.n c.levels lent) ∷ []) k → k ≢ 0
          → Plans s policy lent lent (refused (record { number = k; action = most_actions }))
      tight-refused k given some = refused-plans _ (goes_on (own_is given)) some

      -- ---- not refused

      module _ (room : First (refused_room when Tight (plan_rooms c.n c.levels lent) ∷ []) 0) where
        input : PlanInput s c.n c.levels c.cycle c.order judged.accepted.order.0
        input =
            let found = judged.accepted in
            record { accepted = judged.given.number; n_is = found.n; levels_are = found.levels; cycle_is = found.cycle; lists = found.order.2 }

        pub some_input : SomePlanInput s c.n c.levels c.cycle c.order
        some_input = (judged.accepted.order.0, input)

        pub all_written : {after : LentTables}
            → ((o : Order (profile s).n) → PlanInput s c.n c.levels c.cycle c.order o → AllFilled s policy lent after o)
            → Plans s policy lent after (planned (Ok (record { n = c.n; levels = c.levels; cycle = c.cycle })))
        all_written filled =
            let found = judged.accepted in
            let given = goes_on (own_is room) in
            record {
              number = given.number;
              action = given.action;
              n = found.n;
              levels = found.levels;
              cycle = found.cycle;
              o = found.order.0;
              the_order = λ _. found.order.1;
              tables_are = filled found.order.0 input;
            }
