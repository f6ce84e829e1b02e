-- What the record of a body repeated and the answers of its calls say in the rules' words.
use Rattle.std.specs.Prelude.{ℕ, suc, ◌*◌, ◌≤◌, ◌<◌, true, false, cond, length}
use Rattle.rules.specs.Numbers.{summary_numbers}
use Rattle.rules.specs.Repeat.{LentBody, positions}
use Rattle.rules.specs.Run as rules
use Rattle.rules.specs.declared.Body.{Body}
use Rattle.run.specs.Calls.{with_run}
use Rattle.repeat_limits.specs.Limits.{CountsIn}
use Rattle.repeat_decision.specs.Decision.{last_start}
use Rattle.repeat_run.specs.declared.BodyRun.{BodyRun}
use Rattle.repeat_run.specs.declared.BodyStarted.{BodyStarted}
use Rattle.repeat_run.specs.declared.BodyBegins.{BodyBegins}
use Rattle.repeat_run.specs.declared.BodyAsked.{BodyAsked}
use Rattle.repeat_run.specs.declared.BodyAsks.{BodyAsks}
use Rattle.repeat_run.specs.declared.BodyReported.{BodyReported}
use Rattle.repeat_run.specs.declared.BodyEnds.{BodyEnds}

-- The record, field by field; its n is the number of positions.
abbrev pub steps_of : BodyRun → rules.Run
steps_of r = record {
  n = positions r.body;
  levels = r.body.levels;
  position = r.position;
  clock = r.clock;
  running = r.running;
  level = r.level;
  left = r.left;
  decisions = r.decisions;
  overrun = r.overrun;
  late = r.late;
}

-- The action ended at clock t within its worst time; and the rest of its coast cancelled, with the overrun mark.
abbrev pub passed_by : ℕ → rules.Run → rules.Run
passed_by t r = record {
  n = r.n;
  levels = r.levels;
  position = suc r.position;
  clock = t;
  running = false;
  level = r.level;
  left = r.left;
  decisions = r.decisions;
  overrun = r.overrun;
  late = r.late;
}

abbrev pub cut_short : rules.Run → rules.Run
cut_short r = record {
  n = r.n;
  levels = r.levels;
  position = r.position;
  clock = r.clock;
  running = r.running;
  level = r.level;
  left = 0;
  decisions = r.decisions;
  overrun = true;
  late = r.late;
}

-- What a start, an asking and a report answer. The body of the record stays, whatever the answer.
abbrev pub started_of : BodyStarted → Body × rules.Next
started_of a = (a.run.body, record { number = a.refusal.number; run = steps_of a.run })

abbrev pub asked_of : BodyAsked → rules.Answer
asked_of a = with_run a.answer (steps_of a.run)

abbrev pub reported_of : BodyReported → rules.Next
reported_of a = record { number = a.refusal.number; run = steps_of a.run }

-- the record that a start leaves, and so what it answers
abbrev pub begun_by : BodyBegins → BodyRun
begun_by a = cond a.begins a.begun a.run

abbrev pub begins_of : BodyBegins → Body × rules.Next
begins_of a = ((begun_by a).body, record { number = a.refusal.number; run = steps_of (begun_by a) })

-- the record that an asking leaves, and so what it answers
abbrev pub after_ask : BodyAsks → BodyRun
after_ask a = cond a.decided a.made (cond a.coasts a.gone a.run)

abbrev pub asks_of : BodyAsks → rules.Answer
asks_of a = with_run a.answer (steps_of (after_ask a))

-- the record that an end leaves, and so what it answers
abbrev pub left_by : BodyEnds → BodyRun
left_by a = cond a.over a.cut a.run

abbrev pub ends_of : BodyEnds → rules.Next
ends_of a = record { number = a.refusal.number; run = steps_of (left_by a) }

-- ---- asked between the functions of this crate, and of those above it

-- A record that may decide: a body whose counts are in range, a position left, and the summaries and worst times lent as long as the body says.
-- Its clock may be later than a report may say: a dry run goes on past the latest clock.
pub record MayDecide (T : LentBody) (b : Body) (r : rules.Run) : Type 0 where
  pub counts : CountsIn b
  pub summed : b.n * b.levels * summary_numbers ≤ length T.summaries
  pub timed : b.n * b.levels ≤ length T.worst
  pub more : r.position < positions b
  pub early : r.clock ≤ last_start
  pub counted : r.decisions ≤ r.position
