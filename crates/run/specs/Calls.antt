-- What the record and the answers of the calls say in the rules' words.
use Rattle.std.specs.Prelude.{◌*◌, ◌≤◌, ◌<◌, ◌≡◌, true, false, length}
use Rattle.rules.specs.Numbers.{longest_coast}
use Rattle.rules.specs.Limits.{LentTables}
use Rattle.rules.specs.Run as rules
use Rattle.run.specs.declared.Run.{Run}
use Rattle.run.specs.declared.Answer.{Answer}
use Rattle.run.specs.declared.Answer.TheVariants.{Refused, Given}
use Rattle.run.specs.declared.Asked.{Asked}
use Rattle.run.specs.declared.Started.{Started}
use Rattle.run.specs.declared.Reported.{Reported}

-- The record, field by field.
abbrev pub run_of : Run → rules.Run
run_of r = record {
  n = r.n;
  levels = r.levels;
  position = r.position;
  clock = r.clock;
  running = r.running;
  level = r.level;
  left = r.left;
  decisions = r.decisions;
  overrun = r.overrun;
  late = r.late;
}

-- What a start and a report answer: the number of the refusal, 0 for none, and the next record.
abbrev pub start_of : Started → rules.Next
start_of a = record { number = a.refusal.number; run = run_of a.run }

abbrev pub next_of : Reported → rules.Next
next_of a = record { number = a.refusal.number; run = run_of a.run }

-- What an asking answers: the number of the refusal, or action, level, whether decided and late; and the next record.
abbrev pub with_run : Answer → rules.Run → rules.Answer
with_run (Refused refusal) r = rules.refused refusal.number r
with_run (Given action level decided late) r = rules.gives action level decided late r

abbrev pub answer_of : Asked → rules.Answer
answer_of a = with_run a.answer (run_of a.run)

-- ---- asked between the functions of this crate

-- A record that may be asked: in its ranges, with no action running and one left, and the tables lent as long as it says.
pub record Open (T : LentTables) (r : rules.Run) : Type 0 where
  pub ranged : rules.in_range r ≡ true
  pub waits : r.running ≡ false
  pub more : r.position < r.n
  pub limited : r.n * r.levels ≤ length T.limits
  pub bounded : r.n * r.levels * longest_coast ≤ length T.bounds
