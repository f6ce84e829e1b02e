-- What a frame run dry answered and wrote is what the dry-run program tells. Assumes nothing.
use Prim.Native.Nat.{ℕ, suc, ◌*◌, ◌≤◌}
use mathlib.Core.Path.{◌≡◌, ap}
use mathlib.Core.List.{List, [], ◌∷◌, ◌++◌}
use mathlib.Core.Logic.{◌⊎◌, ◌≢◌, ⊎_elim, inl, inr}
use native.Mathlib.Omega.{arith}
use lib.ListN.{length, get_or}
use Rattle.rules.specs.Numbers.{most_actions, refused_duration, refused_room, refused_policy}
use Rattle.rules.specs.Words.{cat, one_if}
use Rattle.rules.specs.Image.{profile}
use Rattle.rules.specs.Refusals.{Ground, Tight, ◌when◌, First, Refuses, UnknownPolicy, image_checks}
use Rattle.rules.specs.Run.{Run, decides}
use Rattle.rules.specs.Dry.{LongEntry, frame_call}
use Rattle.rules.proofs.Refusals.{Sound, accepted-sound, accepted_parts, first_stops, first-goes_on, handed_on, handed_back, image-numbered}
use Rattle.fields.proofs.Cats.{cat_ext}
use Rattle.fields.proofs.Written.{tab-written}
use Rattle.dry_frame.specs.Frame.{FrameLists, frame_rooms, run_at, Frames}
use Rattle.dry_frame.specs.declared.Framed.{Framed}
use Rattle.planner.proofs.Answers.{kept-old, kept_new}
use Rattle.text.specs.Put.{Puts}
use Rattle.text.proofs.Puts.{put_as}
use Rattle.print_lines.specs.Lines.{four_line, fault_text}
use Rattle.print.specs.Dry.{dry_text, TellsDry}
use Rattle.print.proofs.Plans.{few}

-- the line of a position, as it is told of lent slices
abbrev pub step : List ℕ → List ℕ → List ℕ → ℕ → List ℕ
step order given marks i = four_line i (get_or order i 0) (get_or given i 0) (get_or marks i 0)

-- lists that have room for every profile
pub record Ample (lists : FrameLists) : Type 0 where
  pub order_room : most_actions ≤ length lists.order
  pub levels_room : most_actions ≤ length lists.levels
  pub decided_room : most_actions ≤ length lists.decided

module _ {s : List ℕ} {policy : ℕ} {durations : List ℕ} {before after : FrameLists} {r : Framed} (f : Frames s policy durations before after r) where
  abbrev cells : ℕ
  cells = (profile s).n * (profile s).levels

  abbrev long : Ground
  long = refused_duration when LongEntry cells durations

  abbrev unknown : Ground
  unknown = refused_policy when UnknownPolicy policy

  abbrev lent : List (ℕ × ℕ)
  lent = frame_rooms (profile s).n (profile s).levels durations before

  parts : (First (image_checks s) r.refusal.number × (r.refusal.number ≢ 0))
      ⊎ (Sound s × First (unknown ∷ refused_room when Tight lent ∷ long ∷ []) r.refusal.number)
  parts = accepted_parts s (unknown ∷ refused_room when Tight lent ∷ long ∷ []) r.refusal.number f.number

  pub positions : r.refusal.number ≡ 0 → r.n ≤ most_actions
  positions none = rw (rw none at f.n) (few (⊎_elim (λ x. absurd (x.1 none)) (λ x. x.0) parts)).actions

  text-is : r.refusal.number ≡ 0
      → cat (step after.order after.levels after.decided) r.n ++ four_line r.decisions r.end (one_if r.overrun) (one_if r.late)
      ≡ dry_text (profile s).n f.o.at (λ i. (run_at s policy durations f.o (suc i)).level) (λ i. one_if (decides (run_at s policy durations f.o i)))
      (run_at s policy durations f.o (profile s).n).decisions (run_at s policy durations f.o (profile s).n).clock
      (run_at s policy durations f.o (profile s).n).overrun (run_at s policy durations f.o (profile s).n).late
  text-is none =
      let n : ℕ = (profile s).n in
      let last : Run = run_at s policy durations f.o n in
      rw (rw none at f.n, rw none at f.decisions, rw none at f.end, rw none at f.overrun, rw none at f.late)
      (ap (λ (x : List ℕ). x ++ four_line last.decisions last.clock (one_if last.overrun) (one_if last.late))
      (cat_ext _ _ n
      (λ i b. rw (
        tab-written f.o.at before.order n 0 (rw none at f.order_is) i b,
        tab-written (λ j. (run_at s policy durations f.o (suc j)).level) before.levels n 0 (rw none at f.levels) i b,
        tab-written (λ j. one_if (decides (run_at s policy durations f.o j))) before.decided n 0 (rw none at f.decided) i b,
      ))))

  module _ (room : Ample before) where
    -- only the durations can be too few
    scarce : Sound s → Tight lent → Tight ((length durations, cells) ∷ [])
    scarce h =
        let k = few h in
        ⊎_elim (λ t. inl t)
        (⊎_elim (λ t. absurd (omega (arith, k.actions, room.order_room)))
        (⊎_elim (λ t. absurd (omega (arith, k.actions, room.levels_room)))
        (⊎_elim (λ t. absurd (omega (arith, k.actions, room.decided_room))) (λ t. absurd t))))

    after-policy : Sound s → First (refused_room when Tight lent ∷ long ∷ []) r.refusal.number
        → First (refused_room when Tight ((length durations, cells) ∷ []) ∷ long ∷ []) r.refusal.number
    after-policy h = ⊎_elim (λ t. inl (scarce h t.0, t.1)) (λ t. inr (⊎_elim (λ u. t.0 (inl u)) (λ u. u), t.1))

    abbrev rest : List Ground
    rest = unknown ∷ refused_room when Tight ((length durations, cells) ∷ []) ∷ long ∷ []

    own : Sound s → First (unknown ∷ refused_room when Tight lent ∷ long ∷ []) r.refusal.number → First rest r.refusal.number
    own h = ⊎_elim (λ t. inl t) (λ t. inr (t.0, after-policy h t.1))

    number_is : First (frame_call s policy durations ((length durations, cells) ∷ [])) r.refusal.number
    number_is =
        ⊎_elim (λ x. first_stops (image_checks s) rest r.refusal.number x.0 x.1)
        (λ x. first-goes_on (image_checks s) rest r.refusal.number (image-numbered s) ((accepted-sound s).1 x.0) (own x.0 x.1))
        parts

    -- its action is the image's
    given : Refuses (frame_call s policy durations ((length durations, cells) ∷ [])) r.refusal
    given =
        let image = handed_back (image_checks s) (unknown ∷ refused_room when Tight lent ∷ long ∷ []) r.refusal.action
        ((λ a z. z), ((λ a z. z), ((λ a z. z), tt))) f.action in
        record {
          number = number_is;
          action = handed_on (image_checks s) rest _ r.refusal.action ((λ a z. z), ((λ a z. z), ((λ a z. z), tt))) image number_is;
        }

    module _ {out out' : List ℕ} {k : ℕ} where
      pub dry-refused : r.refusal.number ≢ 0 → Puts out 0 (fault_text r.refusal) out' k → TellsDry s policy durations out out' k
      dry-refused some put = record {
        refusal = r.refusal;
        given = given;
        o = f.o;
        the_order = f.the_order;
        text = put_as (kept-old _ _ _ some) put;
      }

      pub dry-told : r.refusal.number ≡ 0
          → Puts out 0 (cat (step after.order after.levels after.decided) r.n ++ four_line r.decisions r.end (one_if r.overrun) (one_if r.late)) out' k
          → TellsDry s policy durations out out' k
      dry-told none put = record {
        refusal = r.refusal;
        given = given;
        o = f.o;
        the_order = f.the_order;
        text = put_as (kept_new _ _ _ none (text-is none)) put;
      }
