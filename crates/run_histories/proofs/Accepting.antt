-- What an accepted call says of the record that it met, and what it hands back. Assumes nothing.
use Prim.Native.Nat.{ℕ, zero, suc, ◌+◌, ◌*◌}
use mathlib.Core.Path.{◌≡◌, refl, ap, sym}
use mathlib.Core.Bool.{Bool, true, false, not, cond, ◌&&◌}
use mathlib.Core.List.{List}
use lib.Dec.{eqb}
use lib.ListN.{get_or}
use borrow.Author.Tests.{eqb-true, eqb-false}
use Rattle.rules.specs.Numbers.{longest_coast}
use Rattle.rules.specs.Limits.{LentTables, Plan}
use Rattle.rules.specs.Run.{Run, Next, Answer, begun, decide, coast, decides, given, ended, fits, lent, ask_refusal, ask, report_refusal, report}
use Rattle.rules.specs.Dry.{step, before}
use Rattle.run.proofs.Refusing.{Askable, askable, Reportable, reportable}
use Rattle.run_histories.specs.History.{asks, reports, to_ask, reply, number, CallAccepted}

-- ---- an asking

-- what an accepted asking of the record r answers by the plan Q
abbrev pub gives_by : LentTables → Run → Plan → Answer
gives_by T r Q =
    let s = given longest_coast Q r in
    Answer.gives (get_or T.order r.position 0) s.level (decides r) (decides r && not (fits Q r.clock r.position)) s

module _ (T : LentTables) (r : Run) where
  pub record AskTaken : Type 0 where
    pub askable : Askable T r
    pub answer : ask T r ≡ gives_by T r (lent r.n r.levels T)

  pub ask-taken : CallAccepted (asks T) r → AskTaken
  unfolding reply number ask
  ask-taken h = by (eqb k 0) refl h
    where
      k : ℕ
      k = ask_refusal T r

      by : (b : Bool) → eqb k 0 ≡ b → number (to_ask (cond b (gives_by T r (lent r.n r.levels T)) (Answer.refused k r))) ≡ 0 → AskTaken
      by true e h = record {
        askable = askable T r (sym (eqb-true k 0 e));
        answer = ap (λ (b : Bool). cond b (gives_by T r (lent r.n r.levels T)) (Answer.refused k r)) e;
      }
      by false e h = absurd (eqb-false k 0 e h)

-- ---- a report

module _ (worst : List ℕ) (t : ℕ) (r : Run) where
  pub record ReportTaken : Type 0 where
    pub reportable : Reportable worst t r
    pub answer : report worst t r ≡ record { number = 0; run = ended (get_or worst (r.position * r.levels + r.level) 0) t r }

  pub report-taken : CallAccepted (reports worst t) r → ReportTaken
  unfolding reply number report
  report-taken h = by (eqb k 0) refl h
    where
      k : ℕ
      k = report_refusal worst t r

      ends : Next
      ends = record { number = 0; run = ended (get_or worst (r.position * r.levels + r.level) 0) t r }

      by : (b : Bool) → eqb k 0 ≡ b → (cond b ends (record { number = k; run = r })).number ≡ 0 → ReportTaken
      by true e h = record {
        reportable = reportable worst t r (sym (eqb-true k 0 e));
        answer = ap (λ (b : Bool). cond b ends (record { number = k; run = r })) e;
      }
      by false e h = absurd (eqb-false k 0 e h)

-- ---- who runs

-- an action given runs, one ended does not
pub given-runs : (cap : ℕ) (P : Plan) (r : Run) → (given cap P r).running ≡ true
unfolding given
given-runs cap P r = by (decides r)
  where
    by : (b : Bool) → (cond b (decide cap P r) (coast r)).running ≡ true
    by true = refl
    by false = refl

pub before-waits : (cap : ℕ) (P : Plan) (w d : ℕ → ℕ → ℕ) (t i : ℕ) → (before cap P w d t i).running ≡ false
unfolding before begun step ended
before-waits cap P w d t zero = refl
before-waits cap P w d t (suc i) = refl
