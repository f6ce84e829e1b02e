-- A frame run dry: from an image, a policy and n by L durations by position to what the cycle gave, with demand 3 as its promise.
use Rattle.std.specs.Prelude.{ℕ, suc, ◌*◌, ◌≤◌, ◌<◌, ◌≡◌, false, List, [], ◌∷◌, length, get_or, Result, Ok, Err}
use Rattle.rules.specs.Numbers.{most_actions, longest_coast}
use Rattle.rules.specs.Words.{sum, tab, one_if}
use Rattle.rules.specs.Image.{profile}
use Rattle.rules.specs.Order.{Order, TheOrder}
use Rattle.rules.specs.Limits.{Tables, tables, limit_by, planned}
use Rattle.rules.specs.Reasons.{fault_of}
use Rattle.rules.specs.declared.blame.Blame.{Blame}
use Rattle.rules.specs.Refusals.{First, AtFault, kept}
use Rattle.rules.specs.Run.{Run, decides}
use Rattle.rules.specs.Dry.{before, cell, frame_call}
use Rattle.rules.specs.Demand.{Policy, clock, Kept}
use Rattle.fields.specs.Fields.{splice}
use Rattle.dry_frame.specs.declared.Frame.{Frame}
use Rattle.dry_frame.specs.declared.Framed.{Framed}

-- What is told of a frame, laid flat: with a refusal 0 and no.
abbrev pub framed : Result Frame Blame → Framed
framed (Ok f) = record {
  refusal = record { number = 0; action = most_actions };
  n = f.n;
  decisions = f.dry.decisions;
  end = f.dry.end;
  overrun = f.dry.overrun;
  late = f.dry.late;
}
framed (Err b) = record { refusal = fault_of b; n = 0; decisions = 0; end = 0; overrun = false; late = false }

-- The three lists that the call writes, as they are lent: an action, a level and a decided mark (1 or 0) for each position.
pub record FrameLists : Type 0 where
  pub order : List ℕ
  pub levels : List ℕ
  pub decided : List ℕ

-- The lengths of the lent slices, each with what is needed of it.
abbrev pub frame_rooms : ℕ → ℕ → List ℕ → FrameLists → List (ℕ × ℕ)
frame_rooms n L durations lists =
    (length durations, n * L)
    ∷ (length lists.order, n)
    ∷ (length lists.levels, n)
    ∷ (length lists.decided, n)
    ∷ []

-- The record before position i of the cycle, begun at time 0, by the planner's tables of the policy and the order o.
abbrev pub run_at : (s : List ℕ) (policy : ℕ) (durations : List ℕ) → Order (profile s).n → ℕ → Run
run_at s policy durations o i =
    before longest_coast (planned policy (tables (profile s) o)) (tables (profile s) o).worst (cell durations (profile s).levels) 0 i

-- What position j got, and how long it then took.
abbrev pub level_got : FrameLists → ℕ → ℕ
level_got lists j = get_or lists.levels j 0

abbrev pub time_taken : List ℕ → ℕ → FrameLists → ℕ → ℕ
time_taken durations L lists j = cell durations L j (level_got lists j)

-- Demand 3 of what was given and answered, where position j took d j: every deadline is met, neither overrun nor late is set, each position
-- has the asked manager's level by the limits of the policy chosen by its year, and no way of coasting that can't differ has fewer decisions.
pub record Promised (year : ℕ) (S : Tables) (d given : ℕ → ℕ) (r : Framed) : Type 0 where
  pub policy : Policy S
  pub chosen : policy.limit ≡ limit_by year S
  pub kept : Kept longest_coast policy 0 d given r.decisions
  pub ends : r.end ≡ clock 0 d S.n
  pub no_overrun : r.overrun ≡ false
  pub no_late : r.late ≡ false

-- The answer r to an image s, a policy and durations, and what the three lists hold before and after: the order, the levels and the decided marks, n
-- of each, their tails kept, and with a refusal all of it. Without one the order is the profile's; with one o counts for nothing.
pub record Frames (s : List ℕ) (policy : ℕ) (durations : List ℕ) (before after : FrameLists) (r : Framed) : Type 0 where
  pub number : First (frame_call s policy durations (frame_rooms (profile s).n (profile s).levels durations before)) r.refusal.number
  pub action : AtFault (frame_call s policy durations (frame_rooms (profile s).n (profile s).levels durations before)) r.refusal.action
  pub n : r.n ≡ kept r.refusal.number (profile s).n 0
  pub o : Order (profile s).n
  pub the_order : r.refusal.number ≡ 0 → TheOrder (profile s) o
  pub order_is : after.order ≡ kept r.refusal.number (splice before.order 0 (tab o.at (profile s).n)) before.order
  pub levels : after.levels ≡ kept r.refusal.number
      (splice before.levels 0 (tab (λ j. (run_at s policy durations o (suc j)).level) (profile s).n)) before.levels
  pub decided : after.decided ≡ kept r.refusal.number
      (splice before.decided 0 (tab (λ j. one_if (decides (run_at s policy durations o j))) (profile s).n)) before.decided
  pub decisions : r.decisions ≡ kept r.refusal.number (run_at s policy durations o (profile s).n).decisions 0
  pub end : r.end ≡ kept r.refusal.number (run_at s policy durations o (profile s).n).clock 0
  pub overrun : r.overrun ≡ kept r.refusal.number (run_at s policy durations o (profile s).n).overrun false
  pub late : r.late ≡ kept r.refusal.number (run_at s policy durations o (profile s).n).late false
  -- The decisions are the positions marked as decided.
  pub counted : r.refusal.number ≡ 0 → r.decisions ≡ sum (profile s).n (λ j. get_or after.decided j 0)
  -- Demand 3, where no duration is above worst at the level got.
  pub demand : r.refusal.number ≡ 0
      → ((j : ℕ) → j < (profile s).n → time_taken durations (profile s).levels after j ≤ (tables (profile s) o).worst j (level_got after j))
      → Promised policy (tables (profile s) o) (time_taken durations (profile s).levels after) (level_got after) r
