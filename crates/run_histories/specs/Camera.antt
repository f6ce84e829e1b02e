-- The calls that a camera makes, as their contracts allow them, and demand 3 of them.
use Rattle.std.specs.Prelude.{ℕ, ◌<◌, ◌≡◌, List, [], ◌∷◌, ◌++◌, length}
use Rattle.rules.specs.Image.{profile}
use Rattle.rules.specs.Order.{Order}
use Rattle.rules.specs.Limits.{LentTables, tables, limit_by}
use Rattle.rules.specs.Run.{start, ask, report}
use Rattle.rules.specs.Demand.{Policy}
use Rattle.planner.specs.declared.Planned.{Planned}
use Rattle.planner.specs.Planning.{Plans}
use Rattle.run.specs.declared.Run.{Run}
use Rattle.run.specs.declared.Asked.{Asked}
use Rattle.run.specs.declared.Started.{Started}
use Rattle.run.specs.declared.Reported.{Reported}
use Rattle.run.specs.Calls.{run_of, start_of, answer_of, next_of}
use Rattle.run_histories.specs.History.{Call, asks, reports, CallReply, to_ask, to_report, number, Asking, asking_of, clock_of, asking_at}
use Rattle.run_histories.specs.Demand.{CallsKeep}

-- ---- asking and reporting

-- A call made: what it was lent, the clock of a report, and what it answered, with the next record.
pub data Made : Type 0 where
  asked : LentTables → Asked → Made
  reported : List ℕ → ℕ → Reported → Made

abbrev pub call_of : Made → Call
call_of (asked T a) = asks T
call_of (reported worst t a) = reports worst t

abbrev pub reply_of : Made → CallReply
reply_of (asked T a) = to_ask (answer_of a)
reply_of (reported worst t a) = to_report (next_of a)

abbrev pub run_after : Made → Run
run_after (asked T a) = a.run
run_after (reported worst t a) = a.run

-- Made on the record r, it answered as its contract says: that of `ask`, and that of `report`.
abbrev pub AnswersCall : Made → Run → Type 0
AnswersCall (asked T a) r = answer_of a ≡ ask T (run_of r)
AnswersCall (reported worst t a) r = next_of a ≡ report worst t (run_of r)

-- What a call takes is what lies in the tables T.
abbrev pub LentFrom : LentTables → Call → Type 0
LentFrom T (asks A) = (A.order ≡ T.order) × (A.limits ≡ T.limits) × (A.bounds ≡ T.bounds)
LentFrom T (reports worst t) = worst ≡ T.worst

-- Calls made one after another, the first on the record r, each other on the record that the one before it handed back, and s is the record
-- then. Any of them may be refused; those accepted are lent the tables T.
pub data Traced (T : LentTables) : Run → List Made → Run → Type 0 where
  none : {r : Run} → Traced T r [] r
  more : {m : Made} {l : List Made} {r s : Run} → AnswersCall m r → (number (reply_of m) ≡ 0 → LentFrom T (call_of m))
      → Traced T (run_after m) l s → Traced T r (m ∷ l) s

-- what f gathers from each
unfoldable pub said : {A : Type 0} → (Call → CallReply → List A) → List Made → List A
said f [] = []
said f (m ∷ l) = f (call_of m) (reply_of m) ++ said f l

-- what the accepted askings answered, and the clocks of the accepted reports
abbrev pub made_askings : List Made → List Asking
made_askings l = said asking_of l

abbrev pub made_clocks : List Made → List ℕ
made_clocks l = said clock_of l

-- A cycle as a camera calls it: planning by a policy, not refused, which leaves the tables T where B were lent; a start with the counts that it
-- answers; then askings and reports on what it wrote.
pub record CameraCycle (s : List ℕ) (policy : ℕ) (B T : LentTables) (p : Planned) (b : Started) (l : List Made) (r : Run) : Type 0 where
  pub plans : Plans s policy B T p
  pub planned : p.refusal.number ≡ 0
  pub starts : start_of b ≡ start p.n p.levels
  pub traced : Traced T b.run l r

-- ---- the demand

-- Demand 3 of calls made from a start at time 0, on the tables of the image s in the order o, with r the record then: it is kept by the limits
-- of the policy chosen by its year, and the actions are the order's.
pub record CameraKeeps (s : List ℕ) (year : ℕ) (o : Order (profile s).n) (l : List Made) (r : Run) : Type 0 where
  pub policy : Policy (tables (profile s) o)
  pub chosen : policy.limit ≡ limit_by year (tables (profile s) o)
  pub kept : CallsKeep policy 0 (made_clocks l) (made_askings l) (run_of r)
  pub actions : (j : ℕ) → j < length (made_askings l) → (asking_at (made_askings l) j).action ≡ o.at j
