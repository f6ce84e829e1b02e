-- What the frame answers: refused by the body, by its own room or durations, and not. Assumes nothing.
use Prim.Native.Nat.{ℕ, suc, ◌+◌, ◌*◌, ◌/◌, ◌%◌, ◌≤◌, ◌<◌}
use mathlib.Core.Path.{◌≡◌, refl, sym, ap, subst, ◌∙◌}
use mathlib.Core.Bool.{false}
use mathlib.Core.List.{List, [], ◌∷◌}
use mathlib.Core.Logic.{inl, inr, ◌⊎◌, ⊎_elim, ◌≢◌}
use native.Mathlib.Nat.{le_refl, mul-le-mul}
use native.Mathlib.Omega.{arith}
use lib.ListN.{length, get_or, replicate, length-replicate}
use Rattle.rules.specs.Numbers.{most_actions, most_levels, longest_coast, summary_numbers, refused_unfit, refused_room, refused_repeats, refused_policy}
use Rattle.rules.specs.Words.{tab, one_if}
use Rattle.rules.specs.Image.{Profile, profile}
use Rattle.rules.specs.Order.{Order, TheOrder}
use Rattle.rules.specs.Refusals.{Ground, ◌when◌, First, AtFault, Refuses, Unfit, Tight, UnknownPolicy, loop_checks}
use Rattle.rules.specs.Run.{Run, decides}
use Rattle.rules.specs.Dry.{cell, LongEntry}
use Rattle.rules.specs.Repeat.{unrolled, Repeats, LentBody, body_of, lent_each, lent_plan, PlannedBody, action_at, body_frame_call}
use Rattle.rules.specs.declared.Body.{Body}
use Rattle.rules.specs.declared.Fault.{Fault}
use Rattle.rules.proofs.Differences.{not-above}
use Rattle.rules.proofs.Refusals.{Blameless, blameless, first_parts, handed_on, handed_back, refuses-stops, refuses-goes_on, loop-numbered}
use Rattle.rules.proofs.Accepted.{not_unfit}
use Rattle.fields.specs.Fields.{splice}
use Rattle.fields.proofs.Tabs.{tab_ext}
use Rattle.fields.proofs.Written.{tab-written}
use Rattle.planner.proofs.Answers.{kept-old, kept_new, by_number}
use Rattle.dry_frame.specs.Frame.{FrameLists}
use Rattle.dry_frame.proofs.Cycle.{Cycled, count-is, promise}
use Rattle.repeat_laws.proofs.Repeatable.{Repeatable, repeatable}
use Rattle.repeat_laws.proofs.Places.{place-lt}
use Rattle.repeat_laws.proofs.Order.{repeated, repeated_is, repeated_order}
use Rattle.repeat_laws.proofs.Rule.{table-unrolled}
use Rattle.repeat_laws.proofs.Lent.{some_level, lent-run}
use Rattle.repeat_limits.specs.Limits.{CountsIn}
use Rattle.repeat_planner.specs.declared.BodyPlanned.{BodyPlanned}
use Rattle.repeat_planner.specs.PlanningBody.{body_rooms, PlansBody}
use Rattle.repeat_planner.proofs.Answers.{Sound, sound, policy_checks, policy-numbered}
use Rattle.repeat_planner.proofs.Planned.{planned-body}
use Rattle.repeat_frame.specs.declared.BodyFramed.{BodyFramed}
use Rattle.repeat_frame.specs.BodyFrame.{body_frame_rooms, unrolled_run, framed_of, BodyFrames}
use Rattle.repeat_frame.specs.Walk.{own_call, MayWalk, walk_at, Walks}
use Rattle.repeat_frame.proofs.Rooms.{Room, room}

-- ---- what a refused call answers

abbrev pub refused : Fault → BodyFramed
refused f = record { refusal = f; decisions = 0; end = 0; positions = 0; overrun = false; late = false }

module _ (s : List ℕ) (N policy : ℕ) (durations : List ℕ) (before : FrameLists) where
  -- the whole row, and its own part
  abbrev whole : List Ground
  whole = body_frame_call s N policy durations (body_frame_rooms (profile s).n (profile s).levels N durations before)

  abbrev own : List Ground
  own = own_call (body_of (profile s) N policy) durations before

  -- which blames no action
  no_blame : Blameless own
  no_blame = ((λ a z. z), ((λ a z. z), tt))

  frames-not : {r : BodyFramed} (f : Fault) → Refuses whole f → f.number ≢ 0 → r ≡ refused f → BodyFrames s N policy durations before before r
  frames-not f p some e = rw e (record {
    number = p.number;
    action = p.action;
    positions = kept-old _ _ _ some;
    o = by_number (profile s).n;
    the_order = λ none. absurd (some none);
    order_is = kept-old _ _ _ some;
    p = by_number (N * (profile s).n);
    unrolled_order = λ none. absurd (some none);
    actions = λ none. absurd (some none);
    levels = kept-old _ _ _ some;
    decided = kept-old _ _ _ some;
    decisions = kept-old _ _ _ some;
    end = kept-old _ _ _ some;
    overrun = kept-old _ _ _ some;
    late = kept-old _ _ _ some;
    counted = λ none. absurd (some none);
    demand = λ none. absurd (some none);
  })

-- ---- planning into tables that have room for every body

abbrev pub zeros : LentBody
zeros = record {
  order = replicate most_actions 0;
  summaries = replicate (most_actions * most_levels * summary_numbers) 0;
  worst = replicate (most_actions * most_levels) 0;
}

few : {s : List ℕ} → Sound s → ((profile s).n ≤ most_actions) × ((profile s).n * (profile s).levels ≤ most_actions * most_levels)
few {s} h =
    let n : (profile s).n ≤ most_actions = not-above (λ l. h.not_count (inl (inr (inl l)))) in
    let levels : (profile s).levels ≤ most_levels = not-above (λ l. h.not_count (inl (inr (inr (inr l))))) in
    (n, mul-le-mul n levels)

never_tight : {s : List ℕ} → Sound s → Tight (body_rooms (profile s).n (profile s).levels zeros) → ⊥
never_tight h (inl l) = omega (arith, (few h).0, length-replicate {A = ℕ} most_actions 0)
never_tight h (inr (inl l)) = omega (arith, (few h).1, length-replicate {A = ℕ} (most_actions * most_levels * summary_numbers) 0)
never_tight h (inr (inr (inl l))) = omega (arith, (few h).1, length-replicate {A = ℕ} (most_actions * most_levels) 0)
never_tight h (inr (inr (inr none))) = elim none [ ]

body-sound : (s : List ℕ) (N policy : ℕ) → First (policy_checks s N policy) 0 → Sound s
body-sound s N policy p =
    let rest = refused_repeats when Repeats (profile s) N ∷ refused_unfit when Unfit (unrolled (profile s) N) ∷ refused_policy when UnknownPolicy policy ∷ [] in
    ⊎_elim (λ x. absurd (x.1 refl)) (λ x. sound s x.0) (first_parts (loop_checks s) rest 0 (loop-numbered s) p)

pub record Planning (s : List ℕ) (N policy : ℕ) (lent : LentBody) (p : BodyPlanned) : Type 0 where
  pub plans : PlansBody s N policy zeros lent p
  pub order_room : most_actions ≤ length lent.order
  pub summaries_room : most_actions * most_levels * summary_numbers ≤ length lent.summaries
  pub worst_room : most_actions * most_levels ≤ length lent.worst

module _ {s : List ℕ} {N policy : ℕ} {lent : LentBody} {p : BodyPlanned} (P : Planning s N policy lent p) where
  abbrev room_only : List Ground
  room_only = refused_room when Tight (body_rooms (profile s).n (profile s).levels zeros) ∷ []

  parts : (First (policy_checks s N policy) p.refusal.number × (p.refusal.number ≢ 0)) ⊎ (First (policy_checks s N policy) 0 × First room_only p.refusal.number)
  parts = first_parts (policy_checks s N policy) room_only p.refusal.number (policy-numbered s N policy) P.plans.number

  by_body : p.refusal.number ≢ 0 → First (policy_checks s N policy) p.refusal.number
  by_body some =
      ⊎_elim (λ x. x.0) (λ x. absurd (⊎_elim (λ t. never_tight (body-sound s N policy x.0) t.0) (λ t. some t.1) x.1)) parts

  -- the body's action
  named : AtFault (policy_checks s N policy) p.refusal.action
  named = handed_back (policy_checks s N policy) room_only p.refusal.action ((λ a z. z), tt) P.plans.action

  passed : p.refusal.number ≡ 0 → First (policy_checks s N policy) 0
  passed none = ⊎_elim (λ x. absurd (x.1 none)) (λ x. x.0) parts

  pub body_is : p.refusal.number ≡ 0 → p.body ≡ body_of (profile s) N policy
  body_is none = rw none at P.plans.body

  of-planned : (none : p.refusal.number ≡ 0) → PlannedBody (profile s) P.plans.o (body_of (profile s) N policy) lent
  of-planned none = subst (λ (b : Body). PlannedBody (profile s) P.plans.o b lent) (body_is none) (planned-body P.plans none)

  -- its counts, for the calls that follow
  pub counts : p.refusal.number ≡ 0 → CountsIn p.body
  counts none =
      let h = of-planned none in
      rw (body_is none) (record {
        some_action = not-above (λ l. h.counts (inl (inl l)));
        few = not-above (λ l. h.counts (inl (inr (inl l))));
        some_level = not-above (λ l. h.counts (inl (inr (inr (inl l)))));
        few_levels = not-above (λ l. h.counts (inl (inr (inr (inr l)))));
        some_cycle = not-above (λ l. h.counts (inr (inl l)));
        cycle_in = not-above (λ l. h.counts (inr (inr l)));
        some_repeat = not-above (λ l. h.repeats (inl (inl l)));
        few_repeats = not-above (λ l. h.repeats (inl (inr l)));
      })

  module _ (durations : List ℕ) (before : FrameLists) where
    pub body_refused : {r : BodyFramed} → p.refusal.number ≢ 0 → r ≡ refused p.refusal → BodyFrames s N policy durations before before r
    body_refused some e = frames-not s N policy durations before p.refusal
        (refuses-stops (policy_checks s N policy) (own s N policy durations before) p.refusal (record { number = by_body some; action = named }) some) some e

    module _ (none : p.refusal.number ≡ 0) {k : ℕ} (judged : First (own_call p.body durations before) k) where
      own_is : First (own s N policy durations before) k
      own_is = rw (body_is none) at judged

      whole_is : Refuses (whole s N policy durations before) (record { number = k; action = most_actions })
      whole_is = refuses-goes_on (policy_checks s N policy) (own s N policy durations before) _ (policy-numbered s N policy) (passed none)
          (blameless (own s N policy durations before) k (no_blame s N policy durations before) own_is)

      pub own-refused : {r : BodyFramed} → k ≢ 0 → r ≡ refused (record { number = k; action = most_actions }) → BodyFrames s N policy durations before before r
      own-refused some e = frames-not s N policy durations before _ whole_is some e

      -- not refused: what the walk needs
      module _ (clear-own : k ≡ 0) where
        free : (Tight (body_frame_rooms (profile s).n (profile s).levels N durations before) → ⊥) × (LongEntry (N * (profile s).n * (profile s).levels) durations → ⊥)
        free = by (rw clear-own at own_is)
          where
            by : First (own s N policy durations before) 0
                → (Tight (body_frame_rooms (profile s).n (profile s).levels N durations before) → ⊥) × (LongEntry (N * (profile s).n * (profile s).levels) durations → ⊥)
            by (inl x) = absurd (omega (arith, x.1))
            by (inr (a, inl x)) = absurd (omega (arith, x.1))
            by (inr (a, inr x)) = (a, x.0)

        pub has_room : Room (profile s).n (profile s).levels N durations before
        has_room = room _ _ _ durations before free.0

        pub may_walk : MayWalk p.body (record { order = []; summaries = lent.summaries; worst = lent.worst }) durations before.levels before.decided
        may_walk =
            let h = body-sound s N policy (passed none) in
            let c = counts none in
            rw (body_is none) (record {
              counts = rw (body_is none) at c;
              summed = omega (arith, (few h).1, P.summaries_room);
              timed = omega (arith, (few h).1, P.worst_room);
              lasting = has_room.lasting;
              gives = has_room.gives;
              marked = has_room.marked;
              short = λ i l. not-above (λ long. free.1 (i, l, long));
            })

        -- ---- the frame

        abbrev F : Profile
        F = profile s

        planned-is : PlannedBody (profile s) P.plans.o (body_of (profile s) N policy) lent
        planned-is = of-planned none

        repeats_it : Repeatable (profile s)
        repeats_it = repeatable F N planned-is.counts planned-is.range planned-is.repeats

        abbrev order : Order (N * (profile s).n)
        order = repeated repeats_it.some N P.plans.o

        the_unrolled : TheOrder (unrolled (profile s) N) (repeated repeats_it.some N P.plans.o)
        the_unrolled = repeated_order repeats_it N planned-is.the_order

        same-run : (i : ℕ) → i ≤ N * F.n
            → walk_at (body_of F N policy) (record { order = []; summaries = lent.summaries; worst = lent.worst }) durations i ≡ unrolled_run s N policy durations order i
        unfolding lent_plan lent_each
        same-run i l = sym (lent-run planned-is the_unrolled longest_coast (cell durations F.levels) 0 i l)

        module _ {after : FrameLists} {last : Run}
            (walks : Walks p.body (record { order = []; summaries = lent.summaries; worst = lent.worst }) durations
            (record { order = []; levels = before.levels; decided = before.decided }) (record { order = []; levels = after.levels; decided = after.decided }) last)
            (copied : after.order ≡ splice before.order 0 (tab (λ k. get_or lent.order k 0) p.body.n)) where
          walks' : Walks (body_of F N policy) (record { order = []; summaries = lent.summaries; worst = lent.worst }) durations
              (record { order = []; levels = before.levels; decided = before.decided }) (record { order = []; levels = after.levels; decided = after.decided }) last
          walks' = rw (body_is none) at walks

          abbrev answer : BodyFramed
          answer = record {
            refusal = p.refusal;
            decisions = last.decisions;
            end = last.clock;
            positions = p.body.repeats * p.body.n;
            overrun = last.overrun;
            late = last.late;
          }

          ends : last ≡ unrolled_run s N policy durations order (N * F.n)
          ends = walks'.ends ∙ same-run (N * F.n) (le_refl _)

          cycled : Cycled policy (unrolled F N) durations order before after (framed_of answer)
          cycled = record {
            levels = walks'.levels ∙ ap (splice before.levels 0) (tab_ext _ _ (N * F.n) (λ j l. ap (λ (r : Run). r.level) (same-run (suc j) l)));
            decided = walks'.decided
                ∙ ap (splice before.decided 0) (tab_ext _ _ (N * F.n) (λ j l. ap (λ (r : Run). one_if (decides r)) (same-run j (omega arith))));
            decisions = ap (λ (r : Run). r.decisions) ends;
            end = ap (λ (r : Run). r.clock) ends;
            overrun = ap (λ (r : Run). r.overrun) ends;
            late = ap (λ (r : Run). r.late) ends;
          }

          order_is : after.order ≡ splice before.order 0 (tab P.plans.o.at F.n)
          order_is = rw (body_is none) at copied ∙ ap (splice before.order 0) (tab_ext _ _ F.n (λ k l. planned-is.order_is k l))

          action-is : (x : ℕ) → x < N * F.n → order.at x ≡ action_at F.n after.order x
          action-is x l =
              repeated_is repeats_it.some N P.plans.o x
              ∙ ap (λ (a : ℕ). x / F.n * F.n + a)
              (sym (tab-written P.plans.o.at before.order F.n 0 order_is (x % F.n) (place-lt repeats_it.some x)))

          given : First (whole s N policy durations before) p.refusal.number
          given = rw none (rw clear-own at whole_is.number)

          pub framed : BodyFrames s N policy durations before after answer
          framed = record {
            number = given;
            action = handed_on (policy_checks s N policy) (own s N policy durations before) _ _ (no_blame s N policy durations before) named given;
            positions = kept_new _ _ _ none (ap (λ (b : Body). b.repeats * b.n) (body_is none));
            o = P.plans.o;
            the_order = P.plans.the_order;
            order_is = kept_new _ _ _ none order_is;
            p = order;
            unrolled_order = λ _. the_unrolled;
            actions = λ _. action-is;
            levels = kept_new _ _ _ none cycled.levels;
            decided = kept_new _ _ _ none cycled.decided;
            decisions = kept_new _ _ _ none cycled.decisions;
            end = kept_new _ _ _ none cycled.end;
            overrun = kept_new _ _ _ none cycled.overrun;
            late = kept_new _ _ _ none cycled.late;
            counted = λ _. count-is cycled;
            demand = λ _. promise cycled (some_level planned-is) (λ t. planned-is.table (table-unrolled repeats_it N t)) the_unrolled
                (not_unfit (unrolled F N) planned-is.fits);
          }
