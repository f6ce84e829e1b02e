-- What opening a recording and running a frame of it answer.
use Rattle.std.specs.Prelude.{ℕ, ◌*◌, ◌/◌, ◌≤◌, ◌<◌, ◌≡◌, Bool, true, false, cond, List, [], ◌∷◌, ◌⊎◌, eqb, length, get_or, Result, Ok, Err}
use Rattle.rules.specs.Numbers.{most_actions, longest_coast}
use Rattle.rules.specs.Image.{profile}
use Rattle.rules.specs.Order.{Order, TheOrder}
use Rattle.rules.specs.Limits.{Tables, limit_by, LentTables, planner_tables}
use Rattle.rules.specs.Reasons.{number_of, fault_of}
use Rattle.rules.specs.declared.Reason.{Reason}
use Rattle.rules.specs.declared.blame.Blame.{Blame}
use Rattle.rules.specs.Refusals.{First, AtFault, kept, Short, CountsOut}
use Rattle.rules.specs.Dry.{cell}
use Rattle.rules.specs.Demand.{Policy, clock, Kept}
use Rattle.rules.specs.Recording as rules
use Rattle.rules.specs.Recording.{frame_bytes, Ran, ran_of, with_frame, NotFrames, recording_call, recorded_call}
use Rattle.planner.specs.Planning.{plan_rooms, with_fronts}
use Rattle.recording.specs.declared.Recording.{Recording}
use Rattle.recording.specs.declared.Opened.{Opened}
use Rattle.recording.specs.declared.Totals.{Totals}
use Rattle.recording.specs.declared.Ran as said
use Rattle.recording.specs.declared.Rehearsed.{Rehearsed}
use Rattle.recording.specs.declared.Line.{Line}
use Rattle.recording.specs.declared.Counted.{Counted}

-- ---- the recording

-- What is told of a recording opened, laid flat: with a refusal 0.
abbrev pub opened : Result Recording Blame → Opened
opened (Ok x) = record {
  refusal = record { number = 0; action = most_actions };
  n = x.n;
  levels = x.levels;
  frame_bytes = x.frame_bytes;
  frames = x.frames;
}
opened (Err b) = record { refusal = fault_of b; n = 0; levels = 0; frame_bytes = 0; frames = 0 }

-- The answer to an image s, a policy and a recording of so many bytes, and what it leaves of the lent tables: the planner's at their fronts,
-- whose tails are kept, and with a refusal all that was there. Without one the order is the profile's; with one o counts for nothing.
pub record Opens (s : List ℕ) (policy bytes : ℕ) (before after : LentTables) (r : Opened) : Type 0 where
  pub number : First (recording_call s policy bytes (plan_rooms (profile s).n (profile s).levels before)) r.refusal.number
  pub action : AtFault (recording_call s policy bytes (plan_rooms (profile s).n (profile s).levels before)) r.refusal.action
  pub n : r.n ≡ kept r.refusal.number (profile s).n 0
  pub levels : r.levels ≡ kept r.refusal.number (profile s).levels 0
  pub a_frame : r.frame_bytes ≡ kept r.refusal.number (frame_bytes (profile s).n (profile s).levels) 0
  pub frames : r.frames ≡ kept r.refusal.number (bytes / frame_bytes (profile s).n (profile s).levels) 0
  pub o : Order (profile s).n
  pub the_order : r.refusal.number ≡ 0 → TheOrder (profile s) o
  pub tables_are : after ≡ kept r.refusal.number (with_fronts before (planner_tables policy (profile s) o)) before

-- ---- a frame

-- The totals, and what a line says, in the rules' words.
abbrev pub totals_of : Totals → rules.Totals
totals_of T = record { frames = T.frames; decisions = T.decisions; overruns = T.overruns; lates = T.lates }

abbrev pub ran_said : Line → Ran
ran_said l = record { decisions = l.decisions; lowest = l.lowest; end = l.end; overrun = l.overrun; late = l.late }

abbrev pub told : said.Ran → Ran
told x = record { decisions = x.decisions; lowest = x.lowest; end = x.end; overrun = x.overrun; late = x.late }

-- What is told of a frame, laid flat: with a refusal 0 and no; and with the totals after it, which a refusal leaves as they were.
abbrev pub line_told : Result said.Ran Reason → Line
line_told (Ok x) = record {
  refusal = record { number = 0 };
  decisions = x.decisions;
  lowest = x.lowest;
  end = x.end;
  overrun = x.overrun;
  late = x.late;
}
line_told (Err reason) = record {
  refusal = record { number = number_of reason };
  decisions = 0;
  lowest = 0;
  end = 0;
  overrun = false;
  late = false;
}

abbrev pub counted : Totals → Result Rehearsed Reason → Counted
counted before (Ok x) = record { totals = x.totals; line = line_told (Ok x.ran) }
counted before (Err reason) = record { totals = before; line = line_told (Err reason) }

-- A refused line says its number, and all else is 0 or no.
abbrev pub none_ran : Ran
none_ran = record { decisions = 0; lowest = 0; end = 0; overrun = false; late = false }

-- The lengths of the lent slices, each with what is needed of it. A frame takes no order.
abbrev pub recorded_rooms : ℕ → ℕ → LentTables → List ℕ → List (ℕ × ℕ)
recorded_rooms n L T frame =
    (length T.limits, n * L)
    ∷ (length T.worst, n * L)
    ∷ (length T.bounds, n * L * longest_coast)
    ∷ (length frame, frame_bytes n L)
    ∷ []

-- The answer to a frame on totals: its line, and the totals with it, as they were with a refusal.
pub record Rehearses (n L : ℕ) (T : LentTables) (frame : List ℕ) (before : rules.Totals) (r : Counted) : Type 0 where
  pub number : First (recorded_call before n L frame (recorded_rooms n L T frame)) r.line.refusal.number
  pub line : ran_said r.line ≡ kept r.line.refusal.number (ran_of n L T frame) none_ran
  pub totals : totals_of r.totals ≡ kept r.line.refusal.number (with_frame before (ran_of n L T frame)) before

-- ---- a recording, frame by frame

-- A frame lent, and what was answered.
pub record Lent : Type 0 where
  pub frame : List ℕ
  pub answer : Counted

-- the line of the answer
abbrev pub line_said : Counted → rules.Line
line_said r = cond (eqb r.line.refusal.number 0) (rules.ran (ran_said r.line)) (rules.refused r.line.refusal.number)

-- Frames of at least 4nL bytes each, lent one after another, the first on the totals U, each other on the totals that the one before it handed
-- back, and W are the totals then. Any of them may be refused.
pub data Rehearsal (n L : ℕ) (T : LentTables) : rules.Totals → List Lent → rules.Totals → Type 0 where
  none : {U : rules.Totals} → Rehearsal n L T U [] U
  more : {x : Lent} {xs : List Lent} {U W : rules.Totals} → frame_bytes n L ≤ length x.frame → Rehearses n L T x.frame U x.answer
      → Rehearsal n L T (totals_of x.answer.totals) xs W → Rehearsal n L T U (x ∷ xs) W

-- The tables that are lent have room for n actions at L levels.
pub record HasRoom (n L : ℕ) (T : LentTables) : Type 0 where
  pub limits : n * L ≤ length T.limits
  pub worst : n * L ≤ length T.worst
  pub bounds : n * L * longest_coast ≤ length T.bounds

-- ---- demand 3

-- What a frame of these durations keeps, given `levels`, that ended with the line r: every deadline, the asked manager's level by the limits of
-- the policy chosen by its year at each position, and the fewest decisions of all ways of coasting that can't differ; and the late mark is not
-- set.
pub record FrameKeeps (year : ℕ) (S : Tables) (d levels : List ℕ) (r : Ran) : Type 0 where
  pub policy : Policy S
  pub chosen : policy.limit ≡ limit_by year S
  pub kept : Kept longest_coast policy 0 (λ j. cell d S.levels j (get_or levels j 0)) (λ j. get_or levels j 0) r.decisions
  pub ends : r.end ≡ clock 0 (λ j. cell d S.levels j (get_or levels j 0)) S.n
  pub no_late : r.late ≡ false

-- ---- asked between the functions of this crate

-- Whether so many bytes are a recording of the counts in the header of s, where it has one that says some.
pub record LengthFits (s : List ℕ) (bytes : ℕ) (r : Bool) : Type 0 where
  pub fits : r ≡ true → (0 < frame_bytes (profile s).n (profile s).levels) × (NotFrames (profile s).n (profile s).levels bytes → ⊥)
  pub fails : r ≡ false → Short s ⊎ (CountsOut (profile s).n (profile s).levels ⊎ NotFrames (profile s).n (profile s).levels bytes)
