-- What the frame answers and writes is settled by what it is given. Assumes nothing.
use Prim.Native.Nat.{ℕ, suc, ◌*◌, ◌≤◌, ◌<◌}
use mathlib.Core.Path.{◌≡◌, refl, sym, ap, ◌∙◌}
use mathlib.Core.Bool.{Bool, false}
use mathlib.Core.List.{List, [], ◌∷◌}
use mathlib.Core.Logic.{inl, inr, ⊎_elim}
use native.Mathlib.Nat.{le_refl}
use native.Mathlib.Omega.{arith}
use Rattle.rules.specs.Numbers.{longest_coast, refused_unfit, refused_duration, refused_room, refused_repeats, refused_policy}
use Rattle.rules.specs.Words.{tab, one_if}
use Rattle.rules.specs.Image.{profile}
use Rattle.rules.specs.Refusals.{Ground, ◌when◌, Unfit, Tight, UnknownPolicy, loop_checks}
use Rattle.rules.specs.Run.{Run, decides}
use Rattle.rules.specs.Dry.{cell, LongEntry}
use Rattle.rules.specs.Repeat.{unrolled, Repeats, body_frame_call}
use Rattle.rules.specs.declared.Fault.{Fault}
use Rattle.rules.proofs.Differences.{not-above}
use Rattle.rules.proofs.Refusals.{refuses-one, first_parts, loop-numbered}
use Rattle.rules.proofs.Order.OfProfile.{order_settled}
use Rattle.fields.specs.Fields.{splice}
use Rattle.fields.proofs.Tabs.{tab_ext}
use Rattle.planner.proofs.Settled.{kept-one}
use Rattle.dry_frame.specs.Frame.{FrameLists}
use Rattle.dry_frame.proofs.Settled.{lists-one}
use Rattle.repeat_laws.proofs.Repeatable.{repeatable}
use Rattle.repeat_laws.proofs.Plan.{run-exact}
use Rattle.repeat_planner.proofs.Answers.{Sound, sound}
use Rattle.repeat_frame.specs.declared.BodyFramed.{BodyFramed}
use Rattle.repeat_frame.specs.BodyFrame.{body_frame_rooms, unrolled_run, BodyFrames}

-- answers that are equal part by part
abbrev made : Fault → ℕ → ℕ → ℕ → Bool → Bool → BodyFramed
made refusal decisions end positions overrun late =
    record { refusal = refusal; decisions = decisions; end = end; positions = positions; overrun = overrun; late = late }

made_one : {a a' : Fault} {b b' c c' d d' : ℕ} {e e' f f' : Bool} → a ≡ a' → b ≡ b' → c ≡ c' → d ≡ d' → e ≡ e' → f ≡ f'
    → made a b c d e f ≡ made a' b' c' d' e' f'
made_one p q r s t u = cc

module _ {s : List ℕ} {N policy : ℕ} {durations : List ℕ} {before after₁ after₂ : FrameLists} {r t : BodyFramed}
    (x : BodyFrames s N policy durations before after₁ r) (y : BodyFrames s N policy durations before after₂ t) where
  abbrev rooms : List (ℕ × ℕ)
  rooms = body_frame_rooms (profile s).n (profile s).levels N durations before

  refusal : r.refusal ≡ t.refusal
  refusal =
      refuses-one (body_frame_call s N policy durations rooms) r.refusal t.refusal
      (record { number = x.number; action = x.action })
      (record { number = y.number; action = y.action })

  number : r.refusal.number ≡ t.refusal.number
  number = ap (λ (f : Fault). f.number) refusal

  -- without a refusal the body is sound, and may be repeated
  abbrev rest : List Ground
  rest =
      refused_repeats when Repeats (profile s) N
      ∷ refused_unfit when Unfit (unrolled (profile s) N)
      ∷ refused_policy when UnknownPolicy policy
      ∷ refused_room when Tight rooms
      ∷ refused_duration when LongEntry (N * (profile s).n * (profile s).levels) durations
      ∷ []

  clear : r.refusal.number ≡ 0 → Sound s × (Repeats (profile s) N → ⊥)
  clear none =
      ⊎_elim (λ p. absurd (p.1 none)) (λ p. (sound s p.0, ⊎_elim (λ q. absurd (omega (arith, q.1))) (λ q. q.0) p.1))
      (first_parts (loop_checks s) rest r.refusal.number (loop-numbered s) x.number)

  order-one : r.refusal.number ≡ 0 → tab x.o.at (profile s).n ≡ tab y.o.at (profile s).n
  order-one none = tab_ext x.o.at y.o.at (profile s).n (order_settled (x.the_order none) (y.the_order (sym number ∙ none)))

  -- whatever order is the unrolled system's, the frame is that of the body repeated
  run-one : r.refusal.number ≡ 0 → (i : ℕ) → i ≤ N * (profile s).n → unrolled_run s N policy durations x.p i ≡ unrolled_run s N policy durations y.p i
  run-one none i l =
      let h = clear none in
      let body = repeatable (profile s) N h.0.not_count h.0.not_range h.1 in
      let level : 0 < (profile s).levels = not-above (λ e. h.0.not_count (inl (inr (inr (inl e))))) in
      let d = cell durations (profile s).levels in
      run-exact body N (x.the_order none) level h.0.not_table policy (x.unrolled_order none) longest_coast d 0 i l
      ∙ sym (run-exact body N (x.the_order none) level h.0.not_table policy (y.unrolled_order (sym number ∙ none)) longest_coast d 0 i l)

  last_one : {A : Type 0} (f : Run → A) → r.refusal.number ≡ 0
      → f (unrolled_run s N policy durations x.p (N * (profile s).n)) ≡ f (unrolled_run s N policy durations y.p (N * (profile s).n))
  last_one f none = ap f (run-one none (N * (profile s).n) (le_refl _))

  answer : r ≡ t
  answer =
      made_one refusal
      (kept-one _ _ _ _ 0 number (last_one (λ (z : Run). z.decisions)) x.decisions y.decisions)
      (kept-one _ _ _ _ 0 number (last_one (λ (z : Run). z.clock)) x.end y.end)
      (kept-one _ _ (N * (profile s).n) (N * (profile s).n) 0 number (λ _. refl) x.positions y.positions)
      (kept-one _ _ _ _ false number (last_one (λ (z : Run). z.overrun)) x.overrun y.overrun)
      (kept-one _ _ _ _ false number (last_one (λ (z : Run). z.late)) x.late y.late)

  left : after₁ ≡ after₂
  left =
      lists-one
      (kept-one _ _ _ _ before.order number (λ none. ap (splice before.order 0) (order-one none)) x.order_is y.order_is)
      (kept-one _ _ _ _ before.levels number
      (λ none. ap (splice before.levels 0) (tab_ext _ _ (N * (profile s).n) (λ j l. ap (λ (z : Run). z.level) (run-one none (suc j) l))))
      x.levels y.levels)
      (kept-one _ _ _ _ before.decided number
      (λ none. ap (splice before.decided 0)
      (tab_ext _ _ (N * (profile s).n) (λ j l. ap (λ (z : Run). one_if (decides z)) (run-one none j (omega arith)))))
      x.decided y.decided)

  -- Two results that satisfy the contract on the same input are equal.
  pub frame_settled : (r ≡ t) × (after₁ ≡ after₂)
  frame_settled = (answer, left)
