-- A recording called frame by frame: each answer is its frame's line, and the totals are those of the recording. Assumes nothing.
use Prim.Native.Nat.{ℕ, suc, ◌+◌, ◌*◌, ◌≤◌, ◌<◌}
use mathlib.Core.Path.{◌≡◌, refl, sym, ap, subst, ◌∙◌}
use mathlib.Core.Bool.{Bool, true, false, cond}
use mathlib.Core.List.{List, map}
use mathlib.Core.Logic.{◌⊎◌, inl, inr, ⊎_elim}
use native.Mathlib.Omega.{arith}
use lib.ListN.{length}
use Rattle.rules.specs.Numbers.{most_actions, most_frames, refused_duration}
use Rattle.rules.specs.Limits.{LentTables}
use Rattle.rules.specs.Refusals.{First, CountsOut, Tight}
use Rattle.rules.specs.Dry.{LongEntry}
use Rattle.rules.specs.Recording as rules
use Rattle.rules.specs.Recording.{frame_bytes, durations, ran_of, long_entry, Line, line_of, no_totals, with_frame, with_line, totals_from, totals, recorded_call}
use Rattle.rules.proofs.Differences.{not-above}
use Rattle.rules.proofs.Recording.{InRange, in_range-exact, long-exact, decisions-few, one-most}
use Rattle.recording.specs.declared.Counted.{Counted}
use Rattle.recording.specs.Recording.{totals_of, recorded_rooms, Rehearses, Lent, line_said, Rehearsal, HasRoom}

module _ {n L : ℕ} {T : LentTables} (counts : CountsOut n L → ⊥) (roomy : HasRoom n L T) where
  -- ---- one frame

  module _ {frame : List ℕ} {U : rules.Totals} {r : Counted} (long : frame_bytes n L ≤ length frame) (fits : InRange U) (more : U.frames < most_frames)
      (x : Rehearses n L T frame U r) where
    abbrev number : ℕ
    number = r.line.refusal.number

    not_tight : Tight (recorded_rooms n L T frame) → ⊥
    not_tight (inl l) = omega (arith, l, roomy.limits)
    not_tight (inr (inl l)) = omega (arith, l, roomy.worst)
    not_tight (inr (inr (inl l))) = omega (arith, l, roomy.bounds)
    not_tight (inr (inr (inr (inl l)))) = omega (arith, l, long)
    not_tight (inr (inr (inr (inr x)))) = elim x [ ]

    -- it is refused for an entry too long, or not at all
    which : (LongEntry (n * L) (durations frame) × (number ≡ refused_duration)) ⊎ ((LongEntry (n * L) (durations frame) → ⊥) × (number ≡ 0))
    which = by x.number
      where
        by : First (recorded_call U n L frame (recorded_rooms n L T frame)) number
            → (LongEntry (n * L) (durations frame) × (number ≡ refused_duration)) ⊎ ((LongEntry (n * L) (durations frame) → ⊥) × (number ≡ 0))
        by (inl y) = absurd (y.0 ((in_range-exact U).1 fits))
        by (inr (a, inl y)) = absurd (omega (arith, y.0, more))
        by (inr (a, inr (b, inl y))) = absurd (counts y.0)
        by (inr (a, inr (b, inr (c, inl y)))) = absurd (not_tight y.0)
        by (inr (a, inr (b, inr (c, inr (e, y))))) = y

    refused-line : LongEntry (n * L) (durations frame) → line_of n L T frame ≡ rules.refused refused_duration
    unfolding line_of
    refused-line h = ap (λ (b : Bool). cond b (rules.refused refused_duration) (rules.ran (ran_of n L T frame))) ((long-exact (n * L) (durations frame)).1 h)

    ran_line : (LongEntry (n * L) (durations frame) → ⊥) → line_of n L T frame ≡ rules.ran (ran_of n L T frame)
    unfolding line_of
    ran_line h = by (long_entry (n * L) (durations frame)) refl
      where
        by : (b : Bool) → long_entry (n * L) (durations frame) ≡ b
            → cond (long_entry (n * L) (durations frame)) (rules.refused refused_duration) (rules.ran (ran_of n L T frame)) ≡ rules.ran (ran_of n L T frame)
        by true e = absurd (h ((long-exact (n * L) (durations frame)).0 e))
        by false e = ap (λ (b : Bool). cond b (rules.refused refused_duration) (rules.ran (ran_of n L T frame))) e

    -- The answer is the frame's line.
    pub line-is : line_said r ≡ line_of n L T frame
    line-is =
        ⊎_elim (λ y. rw y.1 (sym (refused-line y.0)))
        (λ y. rw (y.1, rw y.1 at x.line) (sym (ran_line y.0))) which

    -- The totals with it are those with its line.
    pub totals_are : totals_of r.totals ≡ with_line U (line_of n L T frame)
    unfolding with_line
    totals_are =
        ⊎_elim (λ y. rw y.1 at x.totals ∙ sym (ap (with_line U) (refused-line y.0)))
        (λ y. rw y.1 at x.totals ∙ sym (ap (with_line U) (ran_line y.0))) which

    few : n ≤ most_actions
    few = not-above (λ l. counts (inr (inl l)))

    -- They are in range, with at most a frame more.
    next-in_range : InRange (with_line U (line_of n L T frame)) × ((with_line U (line_of n L T frame)).frames ≤ suc U.frames)
    unfolding with_line with_frame ran_of
    next-in_range = ⊎_elim (λ y. rw (refused-line y.0) (fits, omega arith)) (λ y. rw (ran_line y.0) (one_more, omega arith)) which
      where
        one_more : InRange (with_frame U (ran_of n L T frame))
        one_more = record {
          frames = omega (arith, more);
          decisions = omega (arith, fits.decisions, few, decisions-few n L T frame);
          overruns = omega (arith, fits.overruns, one-most (ran_of n L T frame).overrun);
          lates = omega (arith, fits.lates, one-most (ran_of n L T frame).late);
        }

  -- ---- frame after frame

  abbrev lines_of : List Lent → List Line
  lines_of xs = map (λ x. line_of n L T x.frame) xs

  from-totals : {U W : rules.Totals} {xs : List Lent} → InRange U → U.frames + length xs ≤ most_frames → Rehearsal n L T U xs W
      → (map (λ x. line_said x.answer) xs ≡ lines_of xs) × (W ≡ totals_from U (lines_of xs))
  unfolding totals_from
  from-totals fits room Rehearsal.none = (refl, refl)
  from-totals {U} fits room (Rehearsal.more {x} {xs = rest} long answers then) =
      let more : U.frames < most_frames = omega arith in
      let next = next-in_range long fits more answers in
      let are = totals_are long fits more answers in
      let after = from-totals (subst InRange (sym are) next.0) (omega (arith, next.1, ap (λ (Y : rules.Totals). Y.frames) are)) then in (
        rw (line-is long fits more answers, after.0),
        after.1 ∙ ap (λ (Y : rules.Totals). totals_from Y (lines_of rest)) are,
      )

  -- Of at most 4,096 frames called one after another from nothing, each answers its line, and the totals then are those of the lines.
  pub recording_called : {W : rules.Totals} (xs : List Lent) → length xs ≤ most_frames → Rehearsal n L T no_totals xs W
      → (map (λ x. line_said x.answer) xs ≡ map (λ x. line_of n L T x.frame) xs) × (W ≡ totals (map (λ x. line_of n L T x.frame) xs))
  recording_called xs few-frames calls =
      from-totals (record { frames = omega arith; decisions = omega arith; overruns = omega arith; lates = omega arith }) (omega arith) calls
