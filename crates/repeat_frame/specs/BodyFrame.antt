-- A frame of a body repeated, run dry: from an image, N, a policy and n N by L durations by unrolled position to what the frame gave, with demands 2 and 3
-- over the unrolled system as its promise.
use Rattle.std.specs.Prelude.{ℕ, suc, ◌*◌, ◌≤◌, ◌<◌, ◌≡◌, false, List, [], ◌∷◌, length, get_or, Result, Ok, Err}
use Rattle.rules.specs.Numbers.{most_actions, longest_coast}
use Rattle.rules.specs.Words.{sum, tab, one_if}
use Rattle.rules.specs.Image.{profile}
use Rattle.rules.specs.Order.{Order, TheOrder}
use Rattle.rules.specs.Limits.{tables, planned}
use Rattle.rules.specs.Reasons.{fault_of}
use Rattle.rules.specs.declared.blame.Blame.{Blame}
use Rattle.rules.specs.Refusals.{First, AtFault, kept}
use Rattle.rules.specs.Run.{Run, decides}
use Rattle.rules.specs.Dry.{before, cell}
use Rattle.rules.specs.Repeat.{unrolled, action_at, body_frame_call}
use Rattle.fields.specs.Fields.{splice}
use Rattle.dry_frame.specs.declared.Framed.{Framed}
use Rattle.dry_frame.specs.Frame.{FrameLists, level_got, time_taken, Promised}
use Rattle.repeat_frame.specs.declared.BodyFrame.{BodyFrame}
use Rattle.repeat_frame.specs.declared.BodyFramed.{BodyFramed}

-- What is told of a frame, laid flat: with a refusal 0 and no.
abbrev pub body_framed : Result BodyFrame Blame → BodyFramed
body_framed (Ok f) = record {
  refusal = record { number = 0; action = most_actions };
  decisions = f.decisions;
  end = f.end;
  positions = f.positions;
  overrun = f.overrun;
  late = f.late;
}
body_framed (Err b) = record { refusal = fault_of b; decisions = 0; end = 0; positions = 0; overrun = false; late = false }

-- The lengths of the lent slices, each with what is needed of it: of the order the body's, of the others an entry for each unrolled position.
abbrev pub body_frame_rooms : ℕ → ℕ → ℕ → List ℕ → FrameLists → List (ℕ × ℕ)
body_frame_rooms n L N durations lists =
    (length durations, N * n * L)
    ∷ (length lists.order, n)
    ∷ (length lists.levels, N * n)
    ∷ (length lists.decided, N * n)
    ∷ []

-- The record before unrolled position i of the frame, begun at time 0, by the plan of the unrolled system by the policy in the order p.
abbrev pub unrolled_run : (s : List ℕ) (N policy : ℕ) (durations : List ℕ) → Order (N * (profile s).n) → ℕ → Run
unrolled_run s N policy durations p i =
    before longest_coast (planned policy (tables (unrolled (profile s) N) p)) (tables (unrolled (profile s) N) p).worst (cell durations (profile s).levels) 0 i

-- What is answered, as it is of a frame of a plain cycle.
abbrev pub framed_of : BodyFramed → Framed
framed_of r = record { refusal = r.refusal; n = r.positions; decisions = r.decisions; end = r.end; overrun = r.overrun; late = r.late }

-- The answer r, and what the three lists hold before and after: the body's order, and by unrolled position the levels and the decided marks, their
-- tails kept, and with a refusal all of it. Without one the orders are the body's and the unrolled system's; with one they count for nothing.
pub record BodyFrames (s : List ℕ) (N policy : ℕ) (durations : List ℕ) (before after : FrameLists) (r : BodyFramed) : Type 0 where
  pub number : First (body_frame_call s N policy durations (body_frame_rooms (profile s).n (profile s).levels N durations before)) r.refusal.number
  pub action : AtFault (body_frame_call s N policy durations (body_frame_rooms (profile s).n (profile s).levels N durations before)) r.refusal.action
  pub positions : r.positions ≡ kept r.refusal.number (N * (profile s).n) 0
  pub o : Order (profile s).n
  pub the_order : r.refusal.number ≡ 0 → TheOrder (profile s) o
  pub order_is : after.order ≡ kept r.refusal.number (splice before.order 0 (tab o.at (profile s).n)) before.order
  -- Demand 2: the actions follow the order of the unrolled system, numbered repeat by repeat.
  pub p : Order (N * (profile s).n)
  pub unrolled_order : r.refusal.number ≡ 0 → TheOrder (unrolled (profile s) N) p
  pub actions : r.refusal.number ≡ 0 → (x : ℕ) → x < N * (profile s).n → p.at x ≡ action_at (profile s).n after.order x
  -- Levels and decisions are those of the rules over the unrolled system.
  pub levels : after.levels ≡ kept r.refusal.number
      (splice before.levels 0 (tab (λ j. (unrolled_run s N policy durations p (suc j)).level) (N * (profile s).n))) before.levels
  pub decided : after.decided ≡ kept r.refusal.number
      (splice before.decided 0 (tab (λ j. one_if (decides (unrolled_run s N policy durations p j))) (N * (profile s).n))) before.decided
  pub decisions : r.decisions ≡ kept r.refusal.number (unrolled_run s N policy durations p (N * (profile s).n)).decisions 0
  pub end : r.end ≡ kept r.refusal.number (unrolled_run s N policy durations p (N * (profile s).n)).clock 0
  pub overrun : r.overrun ≡ kept r.refusal.number (unrolled_run s N policy durations p (N * (profile s).n)).overrun false
  pub late : r.late ≡ kept r.refusal.number (unrolled_run s N policy durations p (N * (profile s).n)).late false
  -- The decisions are the positions marked as decided.
  pub counted : r.refusal.number ≡ 0 → r.decisions ≡ sum (N * (profile s).n) (λ j. get_or after.decided j 0)
  -- Demand 3 over the unrolled positions, where no duration is above worst at the level got.
  pub demand : r.refusal.number ≡ 0
      → ((j : ℕ) → j < N * (profile s).n
      → time_taken durations (profile s).levels after j ≤ (tables (unrolled (profile s) N) p).worst j (level_got after j))
      → Promised policy (tables (unrolled (profile s) N) p) (time_taken durations (profile s).levels after) (level_got after) (framed_of r)
