-- What opening answers: refused by the image, the policy or the length, refused by planning, and not. Assumes nothing.
use Prim.Native.Nat.{ℕ, ◌*◌, ◌/◌, ◌≤◌, ◌<◌}
use mathlib.Core.Path.{◌≡◌, refl, sym, ap, ◌∙◌}
use mathlib.Core.Bool.{true, false}
use mathlib.Core.List.{List, [], ◌∷◌, ◌++◌}
use mathlib.Core.Logic.{◌⊎◌, inl, inr, ⊎_elim, ◌≢◌}
use native.Mathlib.Nat.{mul-le-mul}
use native.Mathlib.Omega.{arith}
use Rattle.rules.specs.Numbers.{most_actions, most_levels, duration_bytes, refused_trace, refused_room}
use Rattle.rules.specs.Image.{profile}
use Rattle.rules.specs.Limits.{LentTables}
use Rattle.rules.specs.Refusals.{Ground, ◌when◌, First, AtFault, Refuses, Tight}
use Rattle.rules.specs.Recording.{frame_bytes, NotFrames, recording_call}
use Rattle.rules.specs.declared.Fault.{Fault}
use Rattle.rules.proofs.Differences.{not-above}
use Rattle.rules.proofs.Refusals.{Sound, Blameless, first_stops, first-goes_on, first_parts, handed_on, handed_back}
use Rattle.planner.specs.declared.Planned.{Planned}
use Rattle.planner.specs.Planning.{plan_rooms, Plans}
use Rattle.planner.proofs.Answers.{kept-old, kept_new, by_number, plan_checks, plan-numbered, passed_sound}
use Rattle.recording.specs.declared.Opened.{Opened}
use Rattle.recording.specs.Recording.{Opens, LengthFits}

-- what a refused call answers
abbrev pub unopened : Fault → Opened
unopened f = record { refusal = f; n = 0; levels = 0; frame_bytes = 0; frames = 0 }

module _ (s : List ℕ) (policy bytes : ℕ) (before : LentTables) where
  abbrev rooms : List (ℕ × ℕ)
  rooms = plan_rooms (profile s).n (profile s).levels before

  abbrev bad : Type 0
  bad = NotFrames (profile s).n (profile s).levels bytes

  abbrev checks : List Ground
  checks = plan_checks s policy

  abbrev own : List Ground
  own = refused_trace when bad ∷ refused_room when Tight rooms ∷ []

  -- 14 and 17 blame no action
  no_blame : Blameless own
  no_blame = ((λ a z. z), ((λ a z. z), tt))

  opens_not : (f : Fault) → Refuses (recording_call s policy bytes rooms) f → f.number ≢ 0 → Opens s policy bytes before before (unopened f)
  opens_not f p some = record {
    number = p.number;
    action = p.action;
    n = kept-old _ _ _ some;
    levels = kept-old _ _ _ some;
    a_frame = kept-old _ _ _ some;
    frames = kept-old _ _ _ some;
    o = by_number (profile s).n;
    the_order = λ none. absurd (some none);
    tables_are = kept-old _ _ _ some;
  }

  -- ---- the length is no recording's

  module _ (m : LengthFits s bytes false) {f : Fault} (judged : Refuses (checks ++ (refused_trace when Unit {0} ∷ [])) f) where
    parts : (First checks f.number × (f.number ≢ 0)) ⊎ (First checks 0 × First (refused_trace when Unit {0} ∷ []) f.number)
    parts = first_parts checks (refused_trace when Unit {0} ∷ []) f.number (plan-numbered s policy) judged.number

    wrong : Sound s → bad
    wrong h = ⊎_elim (λ x. absurd (h.not_short x)) (⊎_elim (λ x. absurd (h.not_count (inl x))) (λ x. x)) (m.fails refl)

    fourteen : First (refused_trace when Unit {0} ∷ []) f.number → f.number ≡ refused_trace
    fourteen = ⊎_elim (λ x. x.1) (λ x. absurd (x.0 tt))

    number_is : First (recording_call s policy bytes rooms) f.number
    number_is =
        ⊎_elim (λ x. first_stops checks own f.number x.0 x.1)
        (λ x. first-goes_on checks own f.number (plan-numbered s policy) x.0 (inl (wrong (passed_sound s policy x.0), fourteen x.1))) parts

    action-is : AtFault (recording_call s policy bytes rooms) f.action
    action-is =
        let image = handed_back checks (refused_trace when Unit {0} ∷ []) f.action ((λ a z. z), tt) judged.action in
        handed_on checks own _ f.action no_blame image number_is

    some_number : f.number ≢ 0
    some_number e = ⊎_elim (λ x. x.1 e) (λ x. omega (arith, fourteen x.1, e)) parts

    pub length-refused : Opens s policy bytes before before (unopened f)
    length-refused = opens_not f (record { number = number_is; action = action-is }) some_number

  -- ---- it is, and the image is planned

  module _ (m : LengthFits s bytes true) {after : LentTables} {p : Planned} (plans : Plans s policy before after p) where
    abbrev room : List Ground
    room = refused_room when Tight rooms ∷ []

    planned-is : First (recording_call s policy bytes rooms) p.refusal.number
    planned-is =
        ⊎_elim (λ x. first_stops checks own p.refusal.number x.0 x.1)
        (λ x. first-goes_on checks own p.refusal.number (plan-numbered s policy) x.0 (inr ((m.fits refl).1, x.1)))
        (first_parts checks room p.refusal.number (plan-numbered s policy) plans.number)

    named-is : AtFault (recording_call s policy bytes rooms) p.refusal.action
    named-is =
        let image = handed_back checks room p.refusal.action ((λ a z. z), tt) plans.action in
        handed_on checks own _ p.refusal.action no_blame image planned-is

    pub plan-refused : p.refusal.number ≢ 0 → Opens s policy bytes before after (unopened p.refusal)
    plan-refused some =
        let same : after ≡ before = plans.tables_are ∙ sym (kept-old _ _ _ some) in
        rw same (opens_not p.refusal (record { number = planned-is; action = named-is }) some)

    module _ (none : p.refusal.number ≡ 0) where
      sound : Sound s
      sound = passed_sound s policy (⊎_elim (λ x. absurd (x.1 none)) (λ x. x.0)
          (first_parts checks room p.refusal.number (plan-numbered s policy) plans.number))

      n_is : p.n ≡ (profile s).n
      n_is = rw none at plans.n

      levels_are : p.levels ≡ (profile s).levels
      levels_are = rw none at plans.levels

      -- no product wraps, and a frame has some bytes
      pub few-cells : p.n * p.levels ≤ most_actions * most_levels
      few-cells =
          let n : p.n ≤ most_actions = rw n_is (not-above (λ l. sound.not_count (inl (inr (inl l))))) in
          let L : p.levels ≤ most_levels = rw levels_are (not-above (λ l. sound.not_count (inl (inr (inr (inr l)))))) in
          mul-le-mul n L

      size_is : p.n * p.levels * duration_bytes ≡ frame_bytes (profile s).n (profile s).levels
      unfolding frame_bytes
      size_is = rw (n_is, levels_are)

      pub some_bytes : 0 < p.n * p.levels * duration_bytes
      some_bytes = rw size_is (m.fits refl).0

      abbrev answer : Opened
      answer = record {
        refusal = p.refusal;
        n = p.n;
        levels = p.levels;
        frame_bytes = p.n * p.levels * duration_bytes;
        frames = bytes / (p.n * p.levels * duration_bytes);
      }

      pub planned-opens : Opens s policy bytes before after answer
      planned-opens = record {
        number = planned-is;
        action = named-is;
        n = plans.n;
        levels = plans.levels;
        a_frame = kept_new _ _ _ none size_is;
        frames = kept_new _ _ _ none (ap (λ (x : ℕ). bytes / x) size_is);
        o = plans.o;
        the_order = plans.the_order;
        tables_are = plans.tables_are;
      }
