-- The boundary's calls, one after another over the record that the host keeps: each takes it as the one before left it.
use Rattle.std.specs.Prelude.{ℕ, ◌≡◌, cond, List, [], ◌∷◌, map, eqb}
use Rattle.rules.specs.Limits.{LentTables}
use Rattle.rules.specs.Run.{start, ask, report}
use Rattle.planner.specs.declared.Planned.{Planned}
use Rattle.planner.specs.Planning.{Plans}
use Rattle.run.specs.declared.Run.{Run}
use Rattle.run.specs.declared.Answer.{Answer}
use Rattle.run.specs.declared.Answer.TheVariants.{Refused, Given}
use Rattle.run.specs.declared.Started.{Started}
use Rattle.run.specs.declared.Reported.{Reported}
use Rattle.run.specs.Calls.{run_of, start_of, next_of}
use Rattle.run_histories.specs.History.{number, Asking}
use Rattle.run_histories.specs.Camera.{Made, asked, reported, call_of, reply_of, run_after, LentFrom, made_askings, made_clocks}
use Rattle.nyokazerubi.specs.declared.runs.Given as flat
use Rattle.nyokazerubi.specs.Flat.{Asks}

-- A call made: what it was lent, what it answered, and the record as it left it. A report's number and record stand together, as in its contract.
pub data HostMade : Type 0 where
  host_asked : LentTables → flat.Given → Run → HostMade
  host_reported : List ℕ → ℕ → Reported → HostMade

-- The same by value: the flat answer of an asking is one of a refusal where it has a number.
abbrev pub answer_from : flat.Given → Answer
answer_from g = cond (eqb g.refusal.number 0) (Given g.action g.level g.decided g.late) (Refused g.refusal)

abbrev pub by_value : HostMade → Made
by_value (host_asked T g r) = asked T (record { run = r; answer = answer_from g })
by_value (host_reported worst t a) = reported worst t a

-- Made where the record was r, it answered as its contract says: that of `nyokazerubi_ask`, and that of `nyokazerubi_report`.
abbrev pub HostAnswers : HostMade → Run → Type 0
HostAnswers (host_asked T g r') r = Asks (ask T (run_of r)) (run_of r') g
HostAnswers (host_reported worst t a) r = next_of a ≡ report worst t (run_of r)

-- Calls made one after another, the record r before them and s after. Any of them may be refused; those accepted are lent the tables T.
pub data HostTraced (T : LentTables) : Run → List HostMade → Run → Type 0 where
  none : {r : Run} → HostTraced T r [] r
  more : {m : HostMade} {l : List HostMade} {r s : Run} → HostAnswers m r → (number (reply_of (by_value m)) ≡ 0 → LentFrom T (call_of (by_value m)))
      → HostTraced T (run_after (by_value m)) l s → HostTraced T r (m ∷ l) s

-- what the accepted askings answered, and the clocks of the accepted reports
abbrev pub host_askings : List HostMade → List Asking
host_askings l = made_askings (map by_value l)

abbrev pub host_clocks : List HostMade → List ℕ
host_clocks l = made_clocks (map by_value l)

-- A cycle as a host calls it: `nyokazerubi_plan` by a policy, not refused; `nyokazerubi_start` with the counts that it answers, of which b is the
-- number and the record left; then askings and reports on what was planned.
pub record HostCycle (s : List ℕ) (policy : ℕ) (B T : LentTables) (p : Planned) (b : Started) (l : List HostMade) (r : Run) : Type 0 where
  pub plans : Plans s policy B T p
  pub planned : p.refusal.number ≡ 0
  pub starts : start_of b ≡ start p.n p.levels
  pub traced : HostTraced T b.run l r
