-- What a frame answers: refused by the totals or by its own, and not. Assumes nothing.
use Prim.Native.Nat.{ℕ, ◌*◌, ◌/◌, ◌≤◌, ◌<◌, min}
use mathlib.Core.Path.{◌≡◌, refl, ap, ◌∙◌}
use mathlib.Core.Bool.{Bool, true, false, false≢true}
use mathlib.Core.List.{List, [], ◌∷◌}
use mathlib.Core.Logic.{inl, inr, ◌≢◌}
use native.Mathlib.Nat.{mul-le-mul}
use native.Mathlib.Omega.{arith}
use lib.ListN.{length}
use Rattle.rules.specs.Numbers.{most_actions, most_levels, most_frames, duration_bytes, refused_turn, refused_trace}
use Rattle.rules.specs.Limits.{LentTables}
use Rattle.rules.specs.Refusals.{Ground, ◌when◌, First, CountsOut, Tight}
use Rattle.rules.specs.declared.Refusal.{Refusal}
use Rattle.rules.specs.Run.{Run, begun}
use Rattle.rules.specs.Dry.{dry_call}
use Rattle.rules.specs.Recording as rules
use Rattle.rules.specs.Recording.{frame_bytes, durations, ran_of, with_frame, totals_fit, recorded_call}
use Rattle.rules.proofs.Differences.{not-above}
use Rattle.rules.proofs.Recording.{decisions-few}
use Rattle.fields.proofs.Tabs.{length-tab}
use Rattle.planner.proofs.Answers.{kept-old, kept_new}
use Rattle.run.specs.Dry.{dry_rooms}
use Rattle.run.proofs.dry.Refusing.{ready-begun}
use Rattle.recording.specs.declared.Totals.{Totals}
use Rattle.recording.specs.declared.Line.{Line}
use Rattle.recording.specs.declared.Counted.{Counted}
use Rattle.recording.specs.Recording.{totals_of, ran_said, recorded_rooms, Rehearses}
use Rattle.recording.specs.Cycle.{unwritten, Waits, Ends}

-- what a refused frame answers
abbrev pub uncounted : Totals → Refusal → Counted
uncounted t f = record { totals = t; line = record { refusal = f; decisions = 0; lowest = 0; end = 0; overrun = false; late = false } }

-- the totals' own, before the frame's
abbrev pub own : Totals → List Ground
own t = refused_turn when (totals_fit (totals_of t) ≢ true) ∷ refused_trace when (most_frames ≤ t.frames) ∷ []

refused : {n L : ℕ} {T : LentTables} {frame : List ℕ} {t : Totals} (f : Refusal)
    → First (recorded_call (totals_of t) n L frame (recorded_rooms n L T frame)) f.number → f.number ≢ 0
    → Rehearses n L T frame (totals_of t) (uncounted t f)
refused f first some = record { number = first; line = kept-old _ _ _ some; totals = kept-old _ _ _ some }

-- ---- the totals are taken

-- On totals that are taken, with the frame's own refusal.
pub record Judged (n L : ℕ) (T : LentTables) (frame : List ℕ) (t : Totals) (k : ℕ) : Type 0 where
  pub taken : First (own t) 0
  pub judged : First (dry_call n L (durations frame) (recorded_rooms n L T frame)) k

module _ {n L : ℕ} {T : LentTables} {frame : List ℕ} {t : Totals} {k : ℕ} (x : Judged n L T frame t k) where
  abbrev before : rules.Totals
  before = totals_of t

  abbrev rooms : List (ℕ × ℕ)
  rooms = recorded_rooms n L T frame

  -- the totals are in range and have room for a frame
  fitting : (totals_fit before ≢ true → ⊥) × (most_frames ≤ before.frames → ⊥)
  fitting = by x.taken
    where
      by : First (own t) 0 → (totals_fit before ≢ true → ⊥) × (most_frames ≤ before.frames → ⊥)
      by (inl y) = absurd (omega (arith, y.1))
      by (inr (a, inl y)) = absurd (omega (arith, y.1))
      by (inr (a, inr y)) = (a, y.0)

  number_is : First (recorded_call before n L frame rooms) k
  number_is = inr (fitting.0, inr (fitting.1, x.judged))

  pub frame_refused : k ≢ 0 → Rehearses n L T frame before (uncounted t (record { number = k }))
  frame_refused some = refused (record { number = k }) number_is some

  -- ---- and so is the frame

  module _ (none : k ≡ 0) where
    counts_in : CountsOut n L → ⊥
    counts_in c = by x.judged
      where
        by : First (dry_call n L (durations frame) rooms) k → ⊥
        by (inl y) = omega (arith, y.1, none)
        by (inr y) = y.0 c

    few : (n ≤ most_actions) × (n * L ≤ most_actions * most_levels)
    few =
        let a : n ≤ most_actions = not-above (λ l. counts_in (inr (inl l))) in
        let b : L ≤ most_levels = not-above (λ l. counts_in (inr (inr (inr l)))) in
        (a, mul-le-mul a b)

    -- where the frame has room for the cells, so have its durations
    tight : Tight (dry_rooms n L T (durations frame) unwritten) → Tight rooms
    unfolding frame_bytes
    tight (inl l) = inl l
    tight (inr (inl l)) = inr (inl l)
    tight (inr (inr (inl l))) = inr (inr (inl l))
    tight (inr (inr (inr (inl l)))) = inr (inr (inr (inl (omega (arith, l, said, few.1)))))
      where
        said : length (durations frame) ≡ min (length frame / duration_bytes) (most_actions * most_levels)
        said = length-tab _ _
    tight (inr (inr (inr (inr (inl l))))) = absurd (omega (arith, l, few.0))
    tight (inr (inr (inr (inr (inr (inl l)))))) = absurd (omega (arith, l, few.0))
    tight (inr (inr (inr (inr (inr (inr x)))))) = elim x [ ]

    pub ready : Waits T frame (begun n L 0)
    ready = ready-begun n L T (durations frame) unwritten (by x.judged)
      where
        by : First (dry_call n L (durations frame) rooms) k → First (dry_call n L (durations frame) (dry_rooms n L T (durations frame) unwritten)) 0
        by (inl y) = absurd (omega (arith, y.1, none))
        by (inr (c, inl y)) = absurd (omega (arith, y.1, none))
        by (inr (c, inr (r, inl y))) = absurd (omega (arith, y.1, none))
        by (inr (c, inr (r, inr y))) = inr (c, inr ((λ h. r (tight h)), inr (y.0, refl)))

    -- ---- the cycle is run

    module _ {last : Run} {low : ℕ} (ends : Ends n L T frame last low) where
      -- the totals are in range, with room for a frame of few decisions
      pub countable : (totals_fit before ≡ true) × (before.frames < most_frames) × (last.decisions ≤ most_actions)
      countable = (
        true? (totals_fit before) fitting.0,
        not_above' fitting.1,
        omega (arith, few.0, decisions-few n L T frame, ap (λ (s : Run). s.decisions) ends.last_is),
      )
        where
          true? : (b : Bool) → (b ≢ true → ⊥) → b ≡ true
          true? true h = refl
          true? false h = absurd (h false≢true)

          not_above' : (most_frames ≤ before.frames → ⊥) → before.frames < most_frames
          not_above' h = omega arith

      abbrev line : Line
      line = record {
        refusal = record { number = k };
        decisions = last.decisions;
        lowest = low;
        end = last.clock;
        overrun = last.overrun;
        late = last.late;
      }

      said-is : ran_said line ≡ ran_of n L T frame
      unfolding ran_of
      said-is = rw (ends.last_is, ends.lowest_is)

      pub rehearsed : {w : Totals} → totals_of w ≡ with_frame before (ran_said line) → Rehearses n L T frame before (record { totals = w; line = line })
      rehearsed e = record {
        number = number_is;
        line = kept_new _ _ _ none said-is;
        totals = kept_new _ _ _ none (e ∙ ap (with_frame before) said-is);
      }
