-- With one repeat, where all deadlines are the cycle's, a frame answers as that of the plain cycle does: the same refusal, order, levels, marks,
-- decisions and end. Assumes nothing.
use Prim.Native.Nat.{ℕ, suc, ◌*◌, ◌≤◌, ◌<◌}
use mathlib.Core.Path.{◌≡◌, sym, ap, subst, ◌∙◌}
use mathlib.Core.List.{List, [], ◌∷◌}
use mathlib.Core.Logic.{inl, inr, ◌⊎◌, ◌↔◌, ◌≢◌}
use native.Mathlib.Nat.{le_refl, one-mul}
use native.Mathlib.Decide.{ℕ_discrete}
use native.Mathlib.Omega.{arith}
use lib.ListN.{length}
use Rattle.rules.specs.Numbers.{longest_coast, refused_unfit, refused_duration, refused_room, refused_repeats, refused_policy}
use Rattle.rules.specs.Words.{tab, one_if}
use Rattle.rules.specs.Image.{profile}
use Rattle.rules.specs.Refusals.{Ground, ◌when◌, First, Unfit, Tight, UnknownPolicy, loop_checks}
use Rattle.rules.specs.Run.{Run, decides}
use Rattle.rules.specs.Dry.{cell, LongEntry}
use Rattle.rules.specs.Repeat.{unrolled, Repeats}
use Rattle.rules.proofs.Refusals.{first_one, first_parts, at_fault-one, handed_back, loop-numbered}
use Rattle.rules.proofs.Order.OfProfile.{the_order-is, order_settled}
use Rattle.rules.proofs.Differences.{not-above}
use Rattle.fields.specs.Fields.{splice}
use Rattle.fields.proofs.Tabs.{tab_ext}
use Rattle.planner.proofs.Answers.{kept-old}
use Rattle.dry_frame.specs.declared.Framed.{Framed}
use Rattle.dry_frame.specs.Frame.{FrameLists, frame_rooms, run_at, Frames}
use Rattle.repeat_laws.proofs.Repeatable.{Repeatable, repeatable}
use Rattle.repeat_laws.proofs.One.{one-run, one_fit}
use Rattle.repeat_planner.proofs.Answers.{Sound, sound}
use Rattle.repeat_frame.specs.declared.BodyFramed.{BodyFramed}
use Rattle.repeat_frame.specs.BodyFrame.{body_frame_rooms, unrolled_run, BodyFrames}

module _ {s : List ℕ} {policy : ℕ} {durations : List ℕ} {before after after' : FrameLists} {r : Framed} {t : BodyFramed}
    (x : Frames s policy durations before after r) (y : BodyFrames s 1 policy durations before after' t) (one : Repeats (profile s) 1 → ⊥) where
  abbrev k : ℕ
  k = r.refusal.number

  abbrev k' : ℕ
  k' = t.refusal.number

  -- ---- the refusal

  abbrev rest : List Ground
  rest =
      refused_unfit when Unfit (profile s)
      ∷ refused_policy when UnknownPolicy policy
      ∷ refused_room when Tight (frame_rooms (profile s).n (profile s).levels durations before)
      ∷ refused_duration when LongEntry ((profile s).n * (profile s).levels) durations
      ∷ []

  abbrev body_rest : List Ground
  body_rest =
      refused_unfit when Unfit (unrolled (profile s) 1)
      ∷ refused_policy when UnknownPolicy policy
      ∷ refused_room when Tight (body_frame_rooms (profile s).n (profile s).levels 1 durations before)
      ∷ refused_duration when LongEntry (1 * (profile s).n * (profile s).levels) durations
      ∷ []

  module _ (h : Sound s) where
    body : Repeatable (profile s)
    body = repeatable (profile s) 1 h.not_count h.not_range one

    unfit-is : Unfit (unrolled (profile s) 1) ↔ Unfit (profile s)
    unfit-is =
        let fit = one_fit body (the_order-is (profile s) h.not_looped) 0 in
        ((λ u f. u (fit.1 f)), (λ u f. u (fit.0 f)))

    -- the row with z positions
    abbrev row : ℕ → List Ground
    row z =
        refused_unfit when Unfit (unrolled (profile s) 1)
        ∷ refused_policy when UnknownPolicy policy
        ∷ refused_room when Tight (
        (length durations, z * (profile s).levels) ∷ (length before.order, (profile s).n) ∷ (length before.levels, z) ∷ (length before.decided, z) ∷ []
        )
        ∷ refused_duration when LongEntry (z * (profile s).levels) durations
        ∷ []

    same_rest : (m : ℕ) → First body_rest m → First rest m
    same_rest m p = by (subst (λ (z : ℕ). First (row z) m) (one-mul (profile s).n) p)
      where
        by : First (refused_unfit when Unfit (unrolled (profile s) 1)
            ∷ refused_policy when UnknownPolicy policy
            ∷ refused_room when Tight (frame_rooms (profile s).n (profile s).levels durations before)
            ∷ refused_duration when LongEntry ((profile s).n * (profile s).levels) durations
            ∷ []) m → First rest m
        by (inl p) = inl (unfit-is.0 p.0, p.1)
        by (inr p) = inr ((λ u. p.0 (unfit-is.1 u)), p.1)

  after_19 : (m : ℕ) → First (refused_repeats when Repeats (profile s) 1 ∷ body_rest) m → First body_rest m
  after_19 m (inl p) = absurd (one p.0)
  after_19 m (inr p) = p.1

  pub number_is : r.refusal.number ≡ t.refusal.number
  number_is = by (first_parts (loop_checks s) rest k (loop-numbered s) x.number)
      (first_parts (loop_checks s) (refused_repeats when Repeats (profile s) 1 ∷ body_rest) k' (loop-numbered s) y.number)
    where
      by : (First (loop_checks s) k × (k ≢ 0)) ⊎ (First (loop_checks s) 0 × First rest k)
          → (First (loop_checks s) k' × (k' ≢ 0)) ⊎ (First (loop_checks s) 0 × First (refused_repeats when Repeats (profile s) 1 ∷ body_rest) k') → k ≡ k'
      by (inl a) (inl b) = first_one (loop_checks s) k k' a.0 b.0
      by (inl a) (inr b) = absurd (a.1 (first_one (loop_checks s) k 0 a.0 b.0))
      by (inr a) (inl b) = absurd (b.1 (first_one (loop_checks s) k' 0 b.0 a.0))
      by (inr a) (inr b) = first_one rest k k' a.1 (same_rest (sound s a.0) k' (after_19 k' b.1))

  pub action-is : r.refusal.action ≡ t.refusal.action
  action-is =
      at_fault-one (loop_checks s) r.refusal.action t.refusal.action
      (handed_back (loop_checks s) rest r.refusal.action ((λ a z. z), ((λ a z. z), ((λ a z. z), ((λ a z. z), tt)))) x.action)
      (handed_back (loop_checks s) (refused_repeats when Repeats (profile s) 1 ∷ body_rest) t.refusal.action
      ((λ a z. z), ((λ a z. z), ((λ a z. z), ((λ a z. z), ((λ a z. z), tt))))) y.action)

  -- ---- what is written and answered

  pub record SameFrame : Type 0 where
    pub number : r.refusal.number ≡ t.refusal.number
    pub action : r.refusal.action ≡ t.refusal.action
    pub order : after.order ≡ after'.order
    pub levels : after.levels ≡ after'.levels
    pub decided : after.decided ≡ after'.decided
    pub decisions : r.decisions ≡ t.decisions
    pub end : r.end ≡ t.end
    pub overrun : r.overrun ≡ t.overrun
    pub late : r.late ≡ t.late

  -- without a refusal the orders are one, and so are the records
  module _ (none : r.refusal.number ≡ 0) where
    none' : t.refusal.number ≡ 0
    none' = sym number_is ∙ none

    loops : Sound s
    loops = by (first_parts (loop_checks s) rest k (loop-numbered s) x.number)
      where
        by : (First (loop_checks s) k × (k ≢ 0)) ⊎ (First (loop_checks s) 0 × First rest k) → Sound s
        by (inl a) = absurd (a.1 none)
        by (inr a) = sound s a.0

    same-run : (i : ℕ) → i ≤ (profile s).n → run_at s policy durations x.o i ≡ unrolled_run s 1 policy durations y.p i
    same-run i l =
        let level : 0 < (profile s).levels = not-above (λ e. loops.not_count (inl (inr (inr (inl e))))) in
        one-run (body loops) (x.the_order none) level loops.not_table policy (y.unrolled_order none') longest_coast (cell durations (profile s).levels) 0 i l

    -- a list of one entry for each position
    same-tab : (f g : ℕ → ℕ) → ((j : ℕ) → j < (profile s).n → f j ≡ g j) → tab f (profile s).n ≡ tab g (1 * (profile s).n)
    same-tab f g e = tab_ext f g (profile s).n e ∙ ap (tab g) (sym (one-mul (profile s).n))

    last-run : run_at s policy durations x.o (profile s).n ≡ unrolled_run s 1 policy durations y.p (1 * (profile s).n)
    last-run = same-run (profile s).n (le_refl _) ∙ ap (unrolled_run s 1 policy durations y.p) (sym (one-mul (profile s).n))

    same-accepted : SameFrame
    same-accepted = record {
      number = number_is;
      action = action-is;
      order = rw none at x.order_is
          ∙ ap (splice before.order 0) (tab_ext _ _ (profile s).n (order_settled (x.the_order none) (y.the_order none')))
          ∙ sym (rw none' at y.order_is);
      levels = rw none at x.levels
          ∙ ap (splice before.levels 0) (same-tab _ _ (λ j l. ap (λ (z : Run). z.level) (same-run (suc j) l)))
          ∙ sym (rw none' at y.levels);
      decided = rw none at x.decided
          ∙ ap (splice before.decided 0) (same-tab _ _ (λ j l. ap (λ (z : Run). one_if (decides z)) (same-run j (omega arith))))
          ∙ sym (rw none' at y.decided);
      decisions = rw none at x.decisions ∙ ap (λ (z : Run). z.decisions) last-run ∙ sym (rw none' at y.decisions);
      end = rw none at x.end ∙ ap (λ (z : Run). z.clock) last-run ∙ sym (rw none' at y.end);
      overrun = rw none at x.overrun ∙ ap (λ (z : Run). z.overrun) last-run ∙ sym (rw none' at y.overrun);
      late = rw none at x.late ∙ ap (λ (z : Run). z.late) last-run ∙ sym (rw none' at y.late);
    }

  same-refused : r.refusal.number ≢ 0 → SameFrame
  same-refused some =
      let some' : t.refusal.number ≢ 0 = λ z. some (number_is ∙ z) in
      record {
        number = number_is;
        action = action-is;
        order = x.order_is ∙ sym (kept-old _ _ _ some) ∙ kept-old _ _ _ some' ∙ sym y.order_is;
        levels = x.levels ∙ sym (kept-old _ _ _ some) ∙ kept-old _ _ _ some' ∙ sym y.levels;
        decided = x.decided ∙ sym (kept-old _ _ _ some) ∙ kept-old _ _ _ some' ∙ sym y.decided;
        decisions = x.decisions ∙ sym (kept-old _ _ _ some) ∙ kept-old _ _ _ some' ∙ sym y.decisions;
        end = x.end ∙ sym (kept-old _ _ _ some) ∙ kept-old _ _ _ some' ∙ sym y.end;
        overrun = x.overrun ∙ sym (kept-old _ _ _ some) ∙ kept-old _ _ _ some' ∙ sym y.overrun;
        late = x.late ∙ sym (kept-old _ _ _ some) ∙ kept-old _ _ _ some' ∙ sym y.late;
      }

  -- With one repeat the frame answers as the plain one.
  pub one-frame : SameFrame
  one-frame = by (ℕ_discrete r.refusal.number 0)
    where
      by : Dec (r.refusal.number ≡ 0) → SameFrame
      by (yes none) = same-accepted none
      by (no some) = same-refused some
