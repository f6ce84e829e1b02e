-- What opening and a frame answer, and what opening writes, is settled by what they are given. Assumes nothing.
use Prim.Native.Nat.{ℕ}
use mathlib.Core.Path.{◌≡◌, refl, sym, ap, ◌∙◌}
use mathlib.Core.List.{List, [], ◌∷◌}
use mathlib.Core.Logic.{⊎_elim}
use Rattle.rules.specs.Numbers.{refused_trace, refused_room, refused_policy}
use Rattle.rules.specs.Image.{profile}
use Rattle.rules.specs.Limits.{LentTables, planner_tables}
use Rattle.rules.specs.Refusals.{Ground, ◌when◌, Tight, UnknownPolicy}
use Rattle.rules.specs.Recording as rules
use Rattle.rules.specs.Recording.{Ran, ran_of, with_frame, NotFrames, recording_call, recorded_call}
use Rattle.rules.specs.declared.Fault.{Fault}
use Rattle.rules.proofs.Refusals.{Sound, first_one, refuses-one, accepted_parts}
use Rattle.planner.specs.Planning.{plan_rooms, with_fronts}
use Rattle.planner.proofs.Settled.{tables_settled, kept-one}
use Rattle.recording.specs.declared.Opened.{Opened}
use Rattle.recording.specs.declared.Counted.{Counted}
use Rattle.recording.specs.Recording.{Opens, totals_of, ran_said, none_ran, recorded_rooms, Rehearses}

-- ---- opening

made_one : {a a' : Fault} {b b' c c' d d' e e' : ℕ} → a ≡ a' → b ≡ b' → c ≡ c' → d ≡ d' → e ≡ e'
    → ◌≡◌ {A = Opened} (record { refusal = a; n = b; levels = c; frame_bytes = d; frames = e })
    (record { refusal = a'; n = b'; levels = c'; frame_bytes = d'; frames = e' })
made_one p q r s t = cc

module _ {s : List ℕ} {policy bytes : ℕ} {before after₁ after₂ : LentTables} {r t : Opened}
    (x : Opens s policy bytes before after₁ r) (y : Opens s policy bytes before after₂ t) where
  abbrev rooms : List (ℕ × ℕ)
  rooms = plan_rooms (profile s).n (profile s).levels before

  abbrev own : List Ground
  own = refused_policy when UnknownPolicy policy ∷ refused_trace when NotFrames (profile s).n (profile s).levels bytes ∷ refused_room when Tight rooms ∷ []

  refusal : r.refusal ≡ t.refusal
  refusal =
      refuses-one (recording_call s policy bytes rooms) r.refusal t.refusal
      (record { number = x.number; action = x.action })
      (record { number = y.number; action = y.action })

  number : r.refusal.number ≡ t.refusal.number
  number = ap (λ (f : Fault). f.number) refusal

  sound : r.refusal.number ≡ 0 → Sound s
  sound none = ⊎_elim (λ p. absurd (p.1 none)) (λ p. p.0) (accepted_parts s own r.refusal.number x.number)

  answer : r ≡ t
  answer =
      made_one refusal
      (kept-one _ _ _ _ 0 number (λ _. refl) x.n y.n)
      (kept-one _ _ _ _ 0 number (λ _. refl) x.levels y.levels)
      (kept-one _ _ _ _ 0 number (λ _. refl) x.a_frame y.a_frame)
      (kept-one _ _ _ _ 0 number (λ _. refl) x.frames y.frames)

  tables-one : r.refusal.number ≡ 0 → planner_tables policy (profile s) x.o ≡ planner_tables policy (profile s) y.o
  tables-one none = tables_settled policy (sound none).not_count (x.the_order none) (y.the_order (sym number ∙ none))

  -- Two results that satisfy the contract on the same input are equal.
  pub open_settled : (r ≡ t) × (after₁ ≡ after₂)
  open_settled = (answer, kept-one _ _ _ _ before number (λ none. ap (with_fronts before) (tables-one none)) x.tables_are y.tables_are)

-- ---- a frame

-- an answer by its number, what its line says, and the totals
answered : ℕ → Ran → rules.Totals → Counted
answered k l T = record {
  totals = record { frames = T.frames; decisions = T.decisions; overruns = T.overruns; lates = T.lates };
  line = record { refusal = record { number = k }; decisions = l.decisions; lowest = l.lowest; end = l.end; overrun = l.overrun; late = l.late };
}

module _ {n L : ℕ} {T : LentTables} {frame : List ℕ} {before : rules.Totals} {r t : Counted}
    (x : Rehearses n L T frame before r) (y : Rehearses n L T frame before t) where
  same : r.line.refusal.number ≡ t.line.refusal.number
  same = first_one (recorded_call before n L frame (recorded_rooms n L T frame)) r.line.refusal.number t.line.refusal.number x.number y.number

  line-one : ran_said r.line ≡ ran_said t.line
  line-one = kept-one _ _ (ran_of n L T frame) (ran_of n L T frame) none_ran same (λ _. refl) x.line y.line

  totals-one : totals_of r.totals ≡ totals_of t.totals
  totals-one = kept-one _ _ (with_frame before (ran_of n L T frame)) (with_frame before (ran_of n L T frame)) before same (λ _. refl) x.totals y.totals

  pub rehearse_settled : r ≡ t
  unfolding answered
  rehearse_settled =
      ap (λ (k : ℕ). answered k (ran_said r.line) (totals_of r.totals)) same
      ∙ ap (λ (l : Ran). answered t.line.refusal.number l (totals_of r.totals)) line-one
      ∙ ap (answered t.line.refusal.number (ran_said t.line)) totals-one
