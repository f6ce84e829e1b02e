-- Recordings (E2): frames in which every action was measured at every level, run dry one after another, each from time 0.
use Rattle.std.specs.Prelude.{ℕ, zero, suc, ◌+◌, ◌-◌, ◌*◌, ◌/◌, ◌%◌, ◌≤◌, ◌<◌, min, Bool, true, not, cond, List, [], ◌∷◌, ◌++◌, map, ◌⊎◌, ◌≢◌, leb, length, get_or, take, drop}
use Rattle.rules.specs.Numbers.{most_actions, most_levels, longest_time, longest_coast, most_frames, duration_bytes, refused_count, refused_turn, refused_trace, refused_duration, refused_room, refused_policy}
use Rattle.rules.specs.Words.{tab, one_if, all_pass, every}
use Rattle.rules.specs.Image.{be, profile}
use Rattle.rules.specs.Limits.{LentTables}
use Rattle.rules.specs.Refusals.{Ground, ◌when◌, CountsOut, Tight, UnknownPolicy, image_checks}
use Rattle.rules.specs.Run.{Run, lent}
use Rattle.rules.specs.Dry.{level_of, cell, dry_end, LongEntry}

-- ---- the recording, in bytes

-- A frame is n by L durations, by position, then level, four bytes each, high byte first.
unfoldable pub frame_bytes : ℕ → ℕ → ℕ
frame_bytes n L = n * L * duration_bytes

-- The durations that bytes say. No profile has more entries than 64 by 8: further ones are not read.
abbrev pub durations : List ℕ → List ℕ
durations bytes = tab (λ k. be bytes (k * duration_bytes) duration_bytes) (min (length bytes / duration_bytes) (most_actions * most_levels))

-- A recording is frames one after another: frame k of it, and all of them.
abbrev pub frame_at : ℕ → ℕ → List ℕ → ℕ → List ℕ
frame_at n L recording k = take (frame_bytes n L) (drop (k * frame_bytes n L) recording)

unfoldable pub frames : ℕ → ℕ → List ℕ → List (List ℕ)
frames n L recording = tab (frame_at n L recording) (length recording / frame_bytes n L)

-- ---- a line per frame

-- Of a frame run: decisions, lowest level given, end time, overrun, late.
pub record Ran : Type 0 where
  pub decisions : ℕ
  pub lowest : ℕ
  pub end : ℕ
  pub overrun : Bool
  pub late : Bool

-- the lowest of f 0 .. f m
unfoldable pub lowest_of : (ℕ → ℕ) → ℕ → ℕ
lowest_of f zero = f 0
lowest_of f (suc m) = min (lowest_of f m) (f (suc m))

-- The lowest level that the dry run over lent tables gives: that of every position counts, decided or coasted.
unfoldable pub lowest_given : ℕ → ℕ → LentTables → List ℕ → ℕ
lowest_given n L T d = lowest_of (level_of longest_coast (lent n L T) (cell T.worst L) (cell d L) 0) (n - 1)

-- What the dry run over the frame's durations ends with.
unfoldable pub ran_of : ℕ → ℕ → LentTables → List ℕ → Ran
ran_of n L T frame =
    let end : Run = dry_end n L T (durations frame) in
    record {
      decisions = end.decisions;
      lowest = lowest_given n L T (durations frame);
      end = end.clock;
      overrun = end.overrun;
      late = end.late;
    }

-- 16 Duration: an entry above 16,777,215, used or not
abbrev pub short : List ℕ → ℕ → Bool
short d k = leb (get_or d k 0) longest_time

unfoldable pub long_entry : ℕ → List ℕ → Bool
long_entry cells d = not (all_pass (short d) cells)

-- A refused frame gets its number on its line.
pub data Line : Type 0 where
  refused : ℕ → Line
  ran : Ran → Line

unfoldable pub line_of : ℕ → ℕ → LentTables → List ℕ → Line
line_of n L T frame = cond (long_entry (n * L) (durations frame)) (refused refused_duration) (ran (ran_of n L T frame))

abbrev pub lines : ℕ → ℕ → LentTables → List ℕ → List Line
lines n L T recording = map (line_of n L T) (frames n L recording)

-- ---- totals over the frames run

pub record Totals : Type 0 where
  pub frames : ℕ
  pub decisions : ℕ
  pub overruns : ℕ
  pub lates : ℕ

abbrev pub no_totals : Totals
no_totals = record { frames = 0; decisions = 0; overruns = 0; lates = 0 }

-- A frame run more; a frame counts once as overrun and once as late, however many of its positions were.
unfoldable pub with_frame : Totals → Ran → Totals
with_frame T r = record {
  frames = suc T.frames;
  decisions = T.decisions + r.decisions;
  overruns = T.overruns + one_if r.overrun;
  lates = T.lates + one_if r.late;
}

-- A line more: a refused frame counts in none.
unfoldable pub with_line : Totals → Line → Totals
with_line T (refused number) = T
with_line T (ran r) = with_frame T r

-- Line after line, as they come.
unfoldable pub totals_from : Totals → List Line → Totals
totals_from T [] = T
totals_from T (l ∷ ls) = totals_from (with_line T l) ls

abbrev pub totals : List Line → Totals
totals ls = totals_from no_totals ls

-- Two totals added up.
unfoldable pub together : Totals → Totals → Totals
together T U = record {
  frames = T.frames + U.frames;
  decisions = T.decisions + U.decisions;
  overruns = T.overruns + U.overruns;
  lates = T.lates + U.lates;
}

-- Fields and ranges: frames up to 4,096, decisions up to 64 a frame, overruns and lates up to the frames.
unfoldable pub totals_fit : Totals → Bool
totals_fit T =
    every
    (leb T.frames most_frames
    ∷ leb T.decisions (most_actions * T.frames)
    ∷ leb T.overruns T.frames
    ∷ leb T.lates T.frames
    ∷ [])

-- ---- the same over the single dry runs

-- the frames that are run: those with no long entry
unfoldable pub frames_run : ℕ → List (List ℕ) → List (List ℕ)
frames_run cells [] = []
frames_run cells (f ∷ fs) = cond (long_entry cells (durations f)) (frames_run cells fs) (f ∷ frames_run cells fs)

unfoldable pub sum_over : (List ℕ → ℕ) → List (List ℕ) → ℕ
sum_over g [] = 0
sum_over g (f ∷ fs) = g f + sum_over g fs

-- how many frames, and the sums of what their dry runs end with
abbrev pub sums : ℕ → ℕ → LentTables → List (List ℕ) → Totals
sums n L T fs = record {
  frames = length fs;
  decisions = sum_over (λ f. (dry_end n L T (durations f)).decisions) fs;
  overruns = sum_over (λ f. one_if (dry_end n L T (durations f)).overrun) fs;
  lates = sum_over (λ f. one_if (dry_end n L T (durations f)).late) fs;
}

-- ---- refusals

-- 14 Trace: by the recording's length alone, not whole frames, or over 4,096 of them
abbrev pub NotFrames : ℕ → ℕ → ℕ → Type 0
NotFrames n L bytes = (bytes % frame_bytes n L ≢ 0) ⊎ (most_frames < bytes / frame_bytes n L)

-- A recording of so many bytes against an image by a policy: the image's, then 20, 14, 17.
abbrev pub recording_call : List ℕ → ℕ → ℕ → List (ℕ × ℕ) → List Ground
recording_call s policy bytes rooms =
    image_checks s
    ++ (refused_policy when UnknownPolicy policy
    ∷ refused_trace when NotFrames (profile s).n (profile s).levels bytes
    ∷ refused_room when Tight rooms
    ∷ [])

-- A frame on totals: out of range 11, a frame too many 14; then a dry run's 3, 17, 16.
abbrev pub recorded_call : Totals → ℕ → ℕ → List ℕ → List (ℕ × ℕ) → List Ground
recorded_call T n L frame rooms =
    refused_turn when (totals_fit T ≢ true)
    ∷ refused_trace when (most_frames ≤ T.frames)
    ∷ refused_count when CountsOut n L
    ∷ refused_room when Tight rooms
    ∷ refused_duration when LongEntry (n * L) (durations frame)
    ∷ []
