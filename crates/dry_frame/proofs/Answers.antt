-- What the frame answers: refused by planning, by the room or by the durations, and not. Assumes nothing.
use Prim.Native.Nat.{ℕ, ◌*◌, ◌≤◌, ◌<◌}
use mathlib.Core.Path.{◌≡◌, refl, sym, ap, ◌∙◌}
use mathlib.Core.Bool.{false}
use mathlib.Core.List.{List, [], ◌∷◌}
use mathlib.Core.Logic.{◌⊎◌, inl, inr, ⊎_elim, ◌≢◌}
use native.Mathlib.Nat.{mul-le-mul}
use native.Mathlib.Omega.{arith}
use lib.IntN.{pos}
use lib.ListN.{length, get_or, replicate, length-replicate}
use Rattle.rules.specs.Numbers.{most_actions, most_levels, longest_coast, refused_duration, refused_room}
use Rattle.rules.specs.Words.{tab}
use Rattle.rules.specs.Image.{profile}
use Rattle.rules.specs.Limits.{LentTables, planner_tables}
use Rattle.rules.specs.Refusals.{Ground, ◌when◌, First, AtFault, Refuses, Tight}
use Rattle.rules.specs.Run.{Run}
use Rattle.rules.specs.Dry.{LongEntry, dry_call, frame_call}
use Rattle.rules.proofs.Differences.{not-above}
use Rattle.rules.proofs.Refusals.{first_parts, Sound, Blameless, blameless, handed_on, handed_back, refuses-stops, refuses-goes_on}
use Rattle.rules.proofs.Accepted.{some_level, not_unfit}
use Rattle.rules.specs.declared.Fault.{Fault}
use Rattle.fields.specs.Fields.{splice}
use Rattle.fields.proofs.Tabs.{tab_ext}
use Rattle.planner.specs.declared.Planned.{Planned}
use Rattle.planner.specs.Planning.{plan_rooms, with_fronts, Plans}
use Rattle.planner.proofs.Answers.{kept-old, kept_new, by_number, plan_checks, plan-numbered, passed_sound}
use Rattle.planner.proofs.Reading.{reads-order}
use Rattle.run.specs.declared.dry.Dried.{Dried}
use Rattle.run.specs.Dry.{DryLists, dry_rooms, Dries}
use Rattle.dry_frame.specs.declared.Framed.{Framed}
use Rattle.dry_frame.specs.Frame.{FrameLists, frame_rooms, Frames}
use Rattle.dry_frame.proofs.Cycle.{unordered, Cycled, same_levels, same_marks, same_end, count-is, promise}

-- ---- room for every profile

-- what a sound image has at most
pub few : {s : List ℕ} → Sound s → ((profile s).n ≤ most_actions) × ((profile s).n * (profile s).levels ≤ most_actions * most_levels)
few {s} h =
    let n : (profile s).n ≤ most_actions = not-above (λ l. h.not_count (inl (inr (inl l)))) in
    let levels : (profile s).levels ≤ most_levels = not-above (λ l. h.not_count (inl (inr (inr (inr l))))) in
    (n, mul-le-mul n levels)

-- tables that have room for the greatest profile
pub record Sized (lent : LentTables) : Type 0 where
  pub order_room : most_actions ≤ length lent.order
  pub limits_room : most_actions * most_levels ≤ length lent.limits
  pub worst_room : most_actions * most_levels ≤ length lent.worst
  pub bounds_room : most_actions * most_levels * longest_coast ≤ length lent.bounds

never_tight : {s : List ℕ} {lent : LentTables} → Sound s → Sized lent → Tight (plan_rooms (profile s).n (profile s).levels lent) → ⊥
never_tight h sized (inl l) = omega (arith, (few h).0)
never_tight h sized (inr (inl l)) = omega (arith, (few h).1)
never_tight h sized (inr (inr (inl l))) = omega (arith, (few h).1)
never_tight h sized (inr (inr (inr (inl l)))) = omega (arith, (few h).1)
never_tight {s = s} {lent = lent} h sized (inr (inr (inr (inr x)))) = elim x [ ]

-- ---- the refusal of the whole

-- the frame's own, after the image's
abbrev own : ℕ → ℕ → List ℕ → FrameLists → List Ground
own n L durations lists = refused_room when Tight (frame_rooms n L durations lists) ∷ refused_duration when LongEntry (n * L) durations ∷ []

-- the two lists that the dry run writes
abbrev pub dry_lists : FrameLists → DryLists
dry_lists lists = record { levels = lists.levels; decided = lists.decided }

-- Where the planner's tables and the order have room, the frame's own refusal is the dry run's.
module _ {s : List ℕ} (h : Sound s) {T : LentTables} (sized : Sized T) (durations : List ℕ) (lists : FrameLists) where
  abbrev dry : List (ℕ × ℕ)
  dry = dry_rooms (profile s).n (profile s).levels (unordered T) durations (dry_lists lists)

  abbrev frame : List (ℕ × ℕ)
  frame = frame_rooms (profile s).n (profile s).levels durations lists

  own-of-dry : (k : ℕ) → (profile s).n ≤ length lists.order → First (dry_call (profile s).n (profile s).levels durations dry) k
      → First (own (profile s).n (profile s).levels durations lists) k
  own-of-dry k room (inl p) = absurd (h.not_count (inl p.0))
  own-of-dry k room (inr (_, inl (tight, is))) = inl (by tight, is)
    where
      by : Tight dry → Tight frame
      by (inl l) = absurd (omega (arith, (few h).1))
      by (inr (inl l)) = absurd (omega (arith, (few h).1))
      by (inr (inr (inl l))) = absurd (omega (arith, (few h).1))
      by (inr (inr (inr (inl l)))) = inl l
      by (inr (inr (inr (inr (inl l))))) = inr (inr (inl l))
      by (inr (inr (inr (inr (inr (inl l)))))) = inr (inr (inr (inl l)))
      by (inr (inr (inr (inr (inr (inr x)))))) = elim x [ ]
  own-of-dry k room (inr (_, inr (roomy, rest))) = inr ((λ t. roomy (by t)), rest)
    where
      by : Tight frame → Tight dry
      by (inl l) = inr (inr (inr (inl l)))
      by (inr (inl l)) = absurd (omega arith)
      by (inr (inr (inl l))) = inr (inr (inr (inr (inl l))))
      by (inr (inr (inr (inl l)))) = inr (inr (inr (inr (inr (inl l)))))
      by (inr (inr (inr (inr x)))) = elim x [ ]

-- ---- what is refused

-- what a refused call answers
abbrev pub refused : Fault → Framed
refused f = record { refusal = f; n = 0; decisions = 0; end = 0; overrun = false; late = false }

module _ (s : List ℕ) (policy : ℕ) (durations : List ℕ) (before : FrameLists) where
  abbrev whole : List Ground
  whole = frame_call s policy durations (frame_rooms (profile s).n (profile s).levels durations before)

  abbrev rest : List Ground
  rest = own (profile s).n (profile s).levels durations before

  -- the frame's own blame no action
  no_blame : Blameless rest
  no_blame = ((λ a z. z), ((λ a z. z), tt))

  frames-not : {after : FrameLists} (f : Fault) → Refuses whole f → f.number ≢ 0
      → after.order ≡ before.order → after.levels ≡ before.levels → after.decided ≡ before.decided
      → Frames s policy durations before after (refused f)
  frames-not f p some a b c = record {
    number = p.number;
    action = p.action;
    n = kept-old _ _ _ some;
    o = by_number (profile s).n;
    the_order = λ none. absurd (some none);
    order_is = a ∙ kept-old _ _ _ some;
    levels = b ∙ kept-old _ _ _ some;
    decided = c ∙ kept-old _ _ _ some;
    decisions = kept-old _ _ _ some;
    end = kept-old _ _ _ some;
    overrun = kept-old _ _ _ some;
    late = kept-old _ _ _ some;
    counted = λ none. absurd (some none);
    demand = λ none. absurd (some none);
  }

-- ---- after planning

-- the tables before it, all 0
abbrev pub zeros : LentTables
zeros = record {
  order = replicate most_actions 0;
  limits = replicate (most_actions * most_levels) (pos 0);
  worst = replicate (most_actions * most_levels) 0;
  bounds = replicate (most_actions * most_levels * longest_coast) (pos 0);
}

zeros-sized : Sized zeros
zeros-sized = record {
  order_room = omega (arith, length-replicate {A = ℕ} most_actions 0);
  limits_room = omega (arith, length-replicate (most_actions * most_levels) (pos 0));
  worst_room = omega (arith, length-replicate {A = ℕ} (most_actions * most_levels) 0);
  bounds_room = omega (arith, length-replicate (most_actions * most_levels * longest_coast) (pos 0));
}

pub record Planning (s : List ℕ) (policy : ℕ) (lent : LentTables) (p : Planned) : Type 0 where
  pub plans : Plans s policy zeros lent p
  pub sized : Sized lent

module _ {s : List ℕ} {policy : ℕ} {lent : LentTables} {p : Planned} (P : Planning s policy lent p) where
  -- planning has room for every profile, so it judges no more than these
  abbrev checks : List Ground
  checks = plan_checks s policy

  abbrev plan_room : List Ground
  plan_room = refused_room when Tight (plan_rooms (profile s).n (profile s).levels zeros) ∷ []

  parts : (First checks p.refusal.number × (p.refusal.number ≢ 0)) ⊎ (First checks 0 × First plan_room p.refusal.number)
  parts = first_parts checks plan_room p.refusal.number (plan-numbered s policy) P.plans.number

  by_checks : p.refusal.number ≢ 0 → First checks p.refusal.number
  by_checks some =
      ⊎_elim (λ x. x.0) (λ x. absurd (⊎_elim (λ t. never_tight (passed_sound s policy x.0) zeros-sized t.0) (λ t. some t.1) x.1)) parts

  -- the image's action
  named : AtFault checks p.refusal.action
  named = handed_back checks plan_room p.refusal.action ((λ a z. z), tt) P.plans.action

  passed : p.refusal.number ≡ 0 → First checks 0
  passed none = ⊎_elim (λ x. absurd (x.1 none)) (λ x. x.0) parts

  pub sound : p.refusal.number ≡ 0 → Sound s
  sound none = passed_sound s policy (passed none)

  pub n_is : p.refusal.number ≡ 0 → p.n ≡ (profile s).n
  n_is none = rw none at P.plans.n

  levels_are : p.refusal.number ≡ 0 → p.levels ≡ (profile s).levels
  levels_are none = rw none at P.plans.levels

  -- the answers: refused by planning, by the order's room, by the dry run, and not
  module _ (durations : List ℕ) (before : FrameLists) where
    pub plan-refused : p.refusal.number ≢ 0 → Frames s policy durations before before (refused p.refusal)
    plan-refused some =
        frames-not s policy durations before p.refusal
        (refuses-stops checks (rest s policy durations before) p.refusal (record { number = by_checks some; action = named }) some)
        some refl refl refl

    then_own : p.refusal.number ≡ 0 → {k : ℕ} → First (rest s policy durations before) k
        → Refuses (whole s policy durations before) (record { number = k; action = most_actions })
    then_own none {k} f =
        refuses-goes_on checks (rest s policy durations before) _ (plan-numbered s policy) (passed none)
        (blameless (rest s policy durations before) k (no_blame s policy durations before) f)

    pub order-refused : p.refusal.number ≡ 0 → length before.order < p.n
        → Frames s policy durations before before (refused (record { number = refused_room; action = most_actions }))
    order-refused none l =
        frames-not s policy durations before _
        (then_own none (inl (inr (inl (omega (arith, n_is none))), refl))) (λ z. omega arith) refl refl refl

    module _ (after : FrameLists) {q : Dried} (none : p.refusal.number ≡ 0) (room : p.n ≤ length before.order)
        (dries : Dries p.n p.levels (unordered lent) durations (dry_lists before) (dry_lists after) q) where
      dries' : Dries (profile s).n (profile s).levels (unordered lent) durations (dry_lists before) (dry_lists after) q
      dries' = rw (n_is none, levels_are none) at dries

      own_is : First (rest s policy durations before) q.refusal.number
      own_is = own-of-dry (sound none) P.sized durations before q.refusal.number (omega (arith, n_is none)) dries'.refused

      pub dry-refused : q.refusal.number ≢ 0 → after.order ≡ before.order
          → Frames s policy durations before after (refused (record { number = q.refusal.number; action = most_actions }))
      dry-refused some same =
          frames-not s policy durations before _ (then_own none own_is) some same
          (dries'.levels ∙ sym (kept-old q.refusal.number _ before.levels some))
          (dries'.decided ∙ sym (kept-old q.refusal.number _ before.decided some))

      written : lent ≡ with_fronts zeros (planner_tables policy (profile s) P.plans.o)
      written = rw none at P.plans.tables_are

      level : 0 < (profile s).levels
      level = some_level (profile s) P.plans.o (sound none).not_count

      module _ (dry-none : q.refusal.number ≡ 0) where
        abbrev answer : Framed
        answer = record { refusal = p.refusal; n = p.n; decisions = q.decisions; end = q.end; overrun = q.overrun; late = q.late }

        cycled : Cycled policy (profile s) durations P.plans.o before after answer
        cycled =
            let o = P.plans.o in
            let ends = same_end s policy durations o zeros written level in
            record {
              levels = rw dry-none at dries'.levels ∙ ap (splice before.levels 0) (same_levels s policy durations o zeros written level);
              decided = rw dry-none at dries'.decided ∙ ap (splice before.decided 0) (same_marks s policy durations o zeros written level);
              decisions = rw dry-none at dries'.decisions ∙ ap (λ (r : Run). r.decisions) ends;
              end = rw dry-none at dries'.end ∙ ap (λ (r : Run). r.clock) ends;
              overrun = rw dry-none at dries'.overrun ∙ ap (λ (r : Run). r.overrun) ends;
              late = rw dry-none at dries'.late ∙ ap (λ (r : Run). r.late) ends;
            }

        pub run_dry : after.order ≡ splice before.order 0 (tab (λ k. get_or lent.order k 0) p.n) → Frames s policy durations before after answer
        run_dry e =
            let listed = reads-order policy (profile s) P.plans.o zeros written in
            let given : First (whole s policy durations before) p.refusal.number = rw none (then_own none (rw dry-none at own_is)).number in
            record {
              number = given;
              action = handed_on checks (rest s policy durations before) _ _ (no_blame s policy durations before) named given;
              n = kept_new _ _ _ none (n_is none);
              o = P.plans.o;
              the_order = P.plans.the_order;
              order_is = kept_new _ _ _ none (rw (n_is none) at e ∙ ap (splice before.order 0) (tab_ext _ _ (profile s).n listed));
              levels = kept_new _ _ _ none cycled.levels;
              decided = kept_new _ _ _ none cycled.decided;
              decisions = kept_new _ _ _ none cycled.decisions;
              end = kept_new _ _ _ none cycled.end;
              overrun = kept_new _ _ _ none cycled.overrun;
              late = kept_new _ _ _ none cycled.late;
              counted = λ _. count-is cycled;
              demand = λ _. promise cycled level (sound none).not_table (P.plans.the_order none) (not_unfit (profile s) (sound none).not_unfit);
            }
