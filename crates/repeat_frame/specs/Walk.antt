-- What the functions of a frame say to each other.
use Rattle.std.specs.Prelude.{ℕ, suc, ◌*◌, ◌≤◌, ◌<◌, ◌≡◌, List, [], ◌∷◌, length, get_or}
use Rattle.rules.specs.Numbers.{longest_time, longest_coast, summary_numbers, refused_duration, refused_room}
use Rattle.rules.specs.Words.{tab, one_if}
use Rattle.rules.specs.Refusals.{Ground, ◌when◌, Tight}
use Rattle.rules.specs.Run.{Run, decides}
use Rattle.rules.specs.Dry.{before, cell, LongEntry}
use Rattle.rules.specs.Repeat.{LentBody, positions, lent_plan, worst_lent}
use Rattle.rules.specs.declared.Body.{Body}
use Rattle.fields.specs.Fields.{splice}
use Rattle.dry_frame.specs.Frame.{FrameLists}
use Rattle.repeat_limits.specs.Limits.{CountsIn}
use Rattle.repeat_decision.specs.Decision.{last_start}
use Rattle.repeat_frame.specs.BodyFrame.{body_frame_rooms}

-- the frame's own refusals, after the body's
abbrev pub own_call : Body → List ℕ → FrameLists → List Ground
own_call b durations lists =
    refused_room when Tight (body_frame_rooms b.n b.levels b.repeats durations lists)
    ∷ refused_duration when LongEntry (positions b * b.levels) durations
    ∷ []

-- an action that runs, with its worst time and its duration lent
pub record MayPass (b : Body) (worst durations : List ℕ) (r : Run) : Type 0 where
  pub counts : CountsIn b
  pub timed : b.n * b.levels ≤ length worst
  pub lasting : positions b * b.levels ≤ length durations
  pub more : r.position < positions b
  pub level : r.level < b.levels
  pub early : r.clock ≤ last_start

-- a body with all the entries that its frame reads and writes
pub record MayWalk (b : Body) (T : LentBody) (durations given marks : List ℕ) : Type 0 where
  pub counts : CountsIn b
  pub summed : b.n * b.levels * summary_numbers ≤ length T.summaries
  pub timed : b.n * b.levels ≤ length T.worst
  pub lasting : positions b * b.levels ≤ length durations
  pub gives : positions b ≤ length given
  pub marked : positions b ≤ length marks
  pub short : (k : ℕ) → k < positions b * b.levels → get_or durations k 0 ≤ longest_time

-- the record before position i
abbrev pub walk_at : Body → LentBody → List ℕ → ℕ → Run
walk_at b T durations i = before longest_coast (lent_plan b T) (worst_lent b T) (cell durations b.levels) 0 i

-- what the lists hold before and after, and the last record
pub record Walks (b : Body) (T : LentBody) (durations : List ℕ) (lists after : FrameLists) (last : Run) : Type 0 where
  pub levels : after.levels ≡ splice lists.levels 0 (tab (λ j. (walk_at b T durations (suc j)).level) (positions b))
  pub decided : after.decided ≡ splice lists.decided 0 (tab (λ j. one_if (decides (walk_at b T durations j))) (positions b))
  pub ends : last ≡ walk_at b T durations (positions b)
