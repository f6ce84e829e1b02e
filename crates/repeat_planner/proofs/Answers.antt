-- What planning a body answers: refused, and not. Assumes nothing.
use Prim.Native.Nat.{ℕ, ◌*◌, ◌<◌}
use mathlib.Core.Path.{◌≡◌, refl}
use mathlib.Core.List.{List, [], ◌∷◌, ◌++◌}
use mathlib.Core.Logic.{inl, inr, ◌≢◌, ◌↔◌}
use lib.Dec.{lit<}
use Rattle.rules.specs.Numbers.{most_actions, refused_unfit, refused_room, refused_repeats, refused_policy}
use Rattle.std.specs.Prelude.{None, Ok, Err}
use Rattle.rules.specs.Words.{sum}
use Rattle.rules.specs.Image.{profile}
use Rattle.rules.specs.Order.{Order}
use Rattle.rules.specs.Refusals.{Ground, ◌when◌, First, Refuses, Count, Range, Table, Looped, Unfit, Length, Tight, UnknownPolicy, loop_checks}
use Rattle.rules.specs.Reasons.{number_of, fault_of}
use Rattle.rules.specs.declared.blame.Blame.{Blame}
use Rattle.rules.specs.Repeat.{unrolled, Repeats, LentBody, body_checks, body_call}
use Rattle.rules.proofs.Refusals.{Numbered, Blameless, first_stops, first-goes_on, first_parts, first-none, blameless, refuses-stops, refuses-goes_on, loop-numbered}
use Rattle.rules.proofs.Reasons.{some_number}
use Rattle.image_fields.specs.Reading.{HasRecords}
use Rattle.image_fields.proofs.Reading.{has-records}
use Rattle.image_check.specs.declared.Checked.{Checked}
use Rattle.image_check.specs.Checks.{CheckAnswers}
use Rattle.planner.proofs.Answers.{kept-old, by_number}
use Rattle.repeat_laws.proofs.Fits.{unfit-exact}
use Rattle.repeat_tables.specs.Summing.{BodyInput, SomeBodyInput, BodyFilled}
use Rattle.repeat_planner.specs.Admitting.{Passed}
use Rattle.repeat_planner.specs.PlanningBody.{body_rooms, body_planned, PlansBody}

-- ---- 1 to 8

-- what is not given of an image that passes them, of what the rest needs
pub record Sound (s : List ℕ) : Type 0 where
  pub not_count : Count (profile s) → ⊥
  pub not_length : Length s → ⊥
  pub not_range : Range (profile s) → ⊥
  pub not_table : Table (profile s) → ⊥
  pub not_looped : Looped (profile s) → ⊥

pub sound : (s : List ℕ) → First (loop_checks s) 0 → Sound s
sound s p =
    let none = (first-none (loop_checks s) (loop-numbered s)).0 p in
    record {
      not_count = none.1.1.0;
      not_length = none.1.1.1.0;
      not_range = none.1.1.1.1.1.0;
      not_table = none.1.1.1.1.1.1.0;
      not_looped = none.1.1.1.1.1.1.1.0;
    }

-- ---- 19 and 9, of an image that passes

module _ {s : List ℕ} {n L cycle : ℕ} (p : Passed s n L cycle) where
  pub records : HasRecords s L n
  records = has-records s p.n_is p.levels_are (sound s p.none).not_count (sound s p.none).not_length

  -- 9, where 19 is not given
  pub unfit-says : (N : ℕ) → (Repeats (profile s) N → ⊥) → Unfit (unrolled (profile s) N) ↔ (cycle < N * sum n (λ a. (profile s).worst a 0))
  unfit-says N repeats =
      let h = sound s p.none in
      rw (p.n_is, p.cycle_is) (unfit-exact (profile s) N h.not_count h.not_range h.not_looped repeats)

-- ---- none of the call's

-- nothing of what planning may give is given
pub record Clear (s : List ℕ) (N policy : ℕ) (rooms : List (ℕ × ℕ)) : Type 0 where
  pub body : Sound s
  pub repeats : Repeats (profile s) N → ⊥
  pub fits : Unfit (unrolled (profile s) N) → ⊥
  pub known : UnknownPolicy policy → ⊥
  pub room : Tight rooms → ⊥

pub clear : (s : List ℕ) (N policy : ℕ) (rooms : List (ℕ × ℕ)) → First (body_call s N policy rooms) 0 → Clear s N policy rooms
clear s N policy rooms p = elim (first_parts (loop_checks s) rest 0 (loop-numbered s) p) [
  | inl x ↦ absurd (x.1 refl)
  | inr x ↦ (let none = (first-none rest (lit< tt, (lit< tt, (lit< tt, (lit< tt, tt))))).0 x.1 in
      record { body = sound s x.0; repeats = none.0; fits = none.1.0; known = none.1.1.0; room = none.1.1.1.0 })
]
  where
    rest : List Ground
    rest =
        refused_repeats when Repeats (profile s) N
        ∷ refused_unfit when Unfit (unrolled (profile s) N)
        ∷ refused_policy when UnknownPolicy policy
        ∷ refused_room when Tight rooms
        ∷ []

-- ---- by what a check answers: refused, or what comes after it

-- What comes after it blames no action.
module _ {row : List Ground} {s : List ℕ} (rest : List Ground) (no_blame : Blameless rest) where
  pub stopped : {b : Blame} → CheckAnswers row s (Err b) → CheckAnswers (row ++ rest) s (Err b)
  stopped {b} a = record { given = refuses-stops row rest (fault_of b) a.given (some_number _); accepted = tt }

  module _ {r : Checked} (m : Numbered row) (a : CheckAnswers row s (Ok r)) where
    given_on : (k : ℕ) → First rest k → Refuses (row ++ rest) (record { number = k; action = most_actions })
    given_on k p = refuses-goes_on row rest _ m a.given.number (blameless rest k no_blame p)

    pub refused_on : (b : Blame) → b.action ≡ None → First rest (number_of b.reason) → CheckAnswers (row ++ rest) s (Err b)
    refused_on b none p = record { given = rw none (given_on (number_of b.reason) p); accepted = tt }

    pub passed_on : First rest 0 → CheckAnswers (row ++ rest) s (Ok r)
    passed_on p = record { given = given_on 0 p; accepted = a.accepted }

pub passed : {s : List ℕ} {r : Checked} → CheckAnswers (loop_checks s) s (Ok r) → Passed s r.n r.levels r.cycle
passed a = record { none = a.given.number; n_is = a.accepted.n; levels_are = a.accepted.levels; cycle_is = a.accepted.cycle }

pub body-numbered : (s : List ℕ) (N : ℕ) → Numbered (body_checks s N)
body-numbered s N = (lit< tt, (lit< tt, (lit< tt, (lit< tt, (lit< tt, (lit< tt, (lit< tt, (lit< tt, (lit< tt, (lit< tt, tt))))))))))

-- and 20
abbrev pub policy_checks : List ℕ → ℕ → ℕ → List Ground
policy_checks s N policy = body_checks s N ++ (refused_policy when UnknownPolicy policy ∷ [])

pub policy-numbered : (s : List ℕ) (N policy : ℕ) → Numbered (policy_checks s N policy)
policy-numbered s N policy = (lit< tt, (lit< tt, (lit< tt, (lit< tt, (lit< tt, (lit< tt, (lit< tt, (lit< tt, (lit< tt, (lit< tt, (lit< tt, tt)))))))))))

-- 20 and 17, of an image that the check with 19 and 9 accepts
module _ {s : List ℕ} {N : ℕ} {r : Checked} (a : CheckAnswers (body_checks s N) s (Ok r)) (policy : ℕ) (lent : LentBody) where
  abbrev room : List Ground
  room = refused_room when Tight (body_rooms (profile s).n (profile s).levels lent) ∷ []

  pub policy-said : (k : ℕ) → First (refused_policy when UnknownPolicy policy ∷ []) k → k ≢ 0
      → First (refused_policy when UnknownPolicy policy ∷ room) k
  policy-said k p some = first_stops (refused_policy when UnknownPolicy policy ∷ []) room k p some

  pub room-said : (k : ℕ) → First (refused_policy when UnknownPolicy policy ∷ []) 0
      → First (refused_room when Tight (body_rooms r.n r.levels lent) ∷ []) k → First (refused_policy when UnknownPolicy policy ∷ room) k
  room-said k known p =
      first-goes_on (refused_policy when UnknownPolicy policy ∷ []) room k (lit< tt, tt) known (rw (a.accepted.n, a.accepted.levels) at p)

-- ---- by what all checks answer

-- tables that are equal one by one
pub same_body : {x y : LentBody} → x.order ≡ y.order → x.summaries ≡ y.summaries → x.worst ≡ y.worst → x ≡ y
same_body a b c = λ i. record { order = a i; summaries = b i; worst = c i }

module _ {s : List ℕ} {N policy : ℕ} (lent : LentBody) where
  pub refused-plans : (b : Blame) → CheckAnswers (body_call s N policy (body_rooms (profile s).n (profile s).levels lent)) s (Err b)
      → PlansBody s N policy lent lent (body_planned (Err b))
  refused-plans b a =
      let some = some_number b.reason in
      record {
        number = a.given.number;
        action = a.given.action;
        body = kept-old _ _ _ some;
        o = by_number (profile s).n;
        the_order = λ none. absurd (some none);
        tables_are = kept-old _ _ _ some;
      }

  module _ {r : Checked} (a : CheckAnswers (body_call s N policy (body_rooms (profile s).n (profile s).levels lent)) s (Ok r)) where
    -- nothing is given
    nothing : Clear s N policy (body_rooms (profile s).n (profile s).levels lent)
    nothing = clear s N policy _ a.given.number

    input : BodyInput s r.n r.levels r.order a.accepted.order.0
    input =
        let found = a.accepted in
        record {
          counts = nothing.body.not_count;
          long = nothing.body.not_length;
          table = nothing.body.not_table;
          n_is = found.n;
          levels_are = found.levels;
          lists = found.order.2;
        }

    pub some_input : SomeBodyInput s r.n r.levels r.order
    some_input = (a.accepted.order.0, input)

    pub all_written : {after : LentBody} → ((o : Order (profile s).n) → BodyInput s r.n r.levels r.order o → BodyFilled s policy lent after o)
        → PlansBody s N policy lent after (body_planned (Ok (record { n = r.n; levels = r.levels; cycle = r.cycle; repeats = N; policy = policy })))
    all_written filled =
        let found = a.accepted in
        let written = filled found.order.0 input in
        record {
          number = a.given.number;
          action = a.given.action;
          body = (λ i. record { n = found.n i; levels = found.levels i; cycle = found.cycle i; repeats = N; policy = policy });
          o = found.order.0;
          the_order = λ _. found.order.1;
          tables_are = (same_body written.order_is written.summaries_are written.worst_is);
        }
