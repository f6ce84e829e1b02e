-- What the frame answers and writes is settled by what it is given. Assumes nothing.
use Prim.Native.Nat.{ℕ, suc, ◌*◌, ◌≤◌, ◌<◌}
use mathlib.Core.Path.{◌≡◌, refl, sym, ap, ◌∙◌}
use mathlib.Core.Bool.{Bool, false}
use mathlib.Core.List.{List, [], ◌∷◌}
use mathlib.Core.Logic.{⊎_elim}
use native.Mathlib.Nat.{le_refl}
use native.Mathlib.Omega.{arith}
use Rattle.rules.specs.Numbers.{refused_duration, refused_room, refused_policy}
use Rattle.rules.specs.Words.{tab, one_if}
use Rattle.rules.specs.Image.{profile}
use Rattle.rules.specs.Limits.{LentTables, planner_tables}
use Rattle.rules.specs.Refusals.{◌when◌, Tight, UnknownPolicy}
use Rattle.rules.specs.Run.{Run, decides}
use Rattle.rules.specs.Dry.{LongEntry, frame_call}
use Rattle.rules.specs.declared.Fault.{Fault}
use Rattle.rules.proofs.Refusals.{Sound, refuses-one, accepted_parts}
use Rattle.rules.proofs.Accepted.{some_level}
use Rattle.rules.proofs.Order.OfProfile.{order_settled}
use Rattle.fields.specs.Fields.{splice}
use Rattle.fields.proofs.Tabs.{tab_ext}
use Rattle.planner.specs.Planning.{with_fronts}
use Rattle.planner.proofs.Settled.{tables_settled, kept-one}
use Rattle.dry_frame.specs.declared.Framed.{Framed}
use Rattle.dry_frame.specs.Frame.{FrameLists, frame_rooms, run_at, Frames}
use Rattle.dry_frame.proofs.Cycle.{same-run}

-- answers and lists that are equal part by part
abbrev made : Fault → ℕ → ℕ → ℕ → Bool → Bool → Framed
made refusal n decisions end overrun late =
    record { refusal = refusal; n = n; decisions = decisions; end = end; overrun = overrun; late = late }

made_one : {a a' : Fault} {b b' c c' d d' : ℕ} {e e' f f' : Bool} → a ≡ a' → b ≡ b' → c ≡ c' → d ≡ d' → e ≡ e' → f ≡ f'
    → made a b c d e f ≡ made a' b' c' d' e' f'
made_one p q r s t u = cc

abbrev lists : List ℕ → List ℕ → List ℕ → FrameLists
lists order levels decided = record { order = order; levels = levels; decided = decided }

pub lists-one : {a a' b b' c c' : List ℕ} → a ≡ a' → b ≡ b' → c ≡ c' → lists a b c ≡ lists a' b' c'
lists-one p q r = cc

module _ {s : List ℕ} {policy : ℕ} {durations : List ℕ} {before after₁ after₂ : FrameLists} {r t : Framed}
    (x : Frames s policy durations before after₁ r) (y : Frames s policy durations before after₂ t) where
  abbrev room : List (ℕ × ℕ)
  room = frame_rooms (profile s).n (profile s).levels durations before

  refusal : r.refusal ≡ t.refusal
  refusal =
      refuses-one (frame_call s policy durations room) r.refusal t.refusal
      (record { number = x.number; action = x.action })
      (record { number = y.number; action = y.action })

  number : r.refusal.number ≡ t.refusal.number
  number = ap (λ (f : Fault). f.number) refusal

  -- without a refusal the image is sound
  sound : r.refusal.number ≡ 0 → Sound s
  sound none =
      let own = refused_policy when UnknownPolicy policy ∷ refused_room when Tight room ∷ refused_duration when LongEntry ((profile s).n * (profile s).levels) durations ∷ [] in
      ⊎_elim (λ p. absurd (p.1 none)) (λ p. p.0) (accepted_parts s own r.refusal.number x.number)

  order-one : r.refusal.number ≡ 0 → tab x.o.at (profile s).n ≡ tab y.o.at (profile s).n
  order-one none = tab_ext x.o.at y.o.at (profile s).n (order_settled (x.the_order none) (y.the_order (sym number ∙ none)))

  -- the two orders give one cycle: the same tables would lie in memory
  run-one : r.refusal.number ≡ 0 → (i : ℕ) → i ≤ (profile s).n → run_at s policy durations x.o i ≡ run_at s policy durations y.o i
  run-one none i l =
      let level : 0 < (profile s).levels = some_level (profile s) x.o (sound none).not_count in
      sym (same-run s policy durations x.o none-held refl level i l)
      ∙ same-run s policy durations y.o none-held (ap (with_fronts none-held) tables-one) level i l
    where
      none-held : LentTables
      none-held = record { order = []; limits = []; worst = []; bounds = [] }

      tables-one : planner_tables policy (profile s) x.o ≡ planner_tables policy (profile s) y.o
      tables-one = tables_settled policy (sound none).not_count (x.the_order none) (y.the_order (sym number ∙ none))

  last_one : {A : Type 0} (f : Run → A) → r.refusal.number ≡ 0
      → f (run_at s policy durations x.o (profile s).n) ≡ f (run_at s policy durations y.o (profile s).n)
  last_one f none = ap f (run-one none (profile s).n (le_refl _))

  answer : r ≡ t
  answer =
      made_one refusal
      (kept-one _ _ (profile s).n (profile s).n 0 number (λ _. refl) x.n y.n)
      (kept-one _ _ _ _ 0 number (last_one (λ (z : Run). z.decisions)) x.decisions y.decisions)
      (kept-one _ _ _ _ 0 number (last_one (λ (z : Run). z.clock)) x.end y.end)
      (kept-one _ _ _ _ false number (last_one (λ (z : Run). z.overrun)) x.overrun y.overrun)
      (kept-one _ _ _ _ false number (last_one (λ (z : Run). z.late)) x.late y.late)

  left : after₁ ≡ after₂
  left =
      lists-one
      (kept-one _ _ _ _ before.order number (λ none. ap (splice before.order 0) (order-one none)) x.order_is y.order_is)
      (kept-one _ _ _ _ before.levels number
      (λ none. ap (splice before.levels 0) (tab_ext _ _ (profile s).n (λ j l. ap (λ (z : Run). z.level) (run-one none (suc j) l))))
      x.levels y.levels)
      (kept-one _ _ _ _ before.decided number
      (λ none. ap (splice before.decided 0)
      (tab_ext _ _ (profile s).n (λ j l. ap (λ (z : Run). one_if (decides z)) (run-one none j (omega arith)))))
      x.decided y.decided)

  -- Two results that satisfy the contract on the same input are equal.
  pub frame_settled : (r ≡ t) × (after₁ ≡ after₂)
  frame_settled = (answer, left)
