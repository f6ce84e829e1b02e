-- What the contracts of the calls settle: the whole result; with a refusal the record as it was; else a record in its ranges. Assumes nothing.
use Prim.Native.Nat.{ℕ, ◌+◌, ◌*◌}
use mathlib.Core.Path.{◌≡◌, refl, sym, ap, subst, ◌∙◌}
use mathlib.Core.Bool.{Bool, true, false, not, cond, ◌&&◌}
use mathlib.Core.List.{List}
use mathlib.Core.Logic.{◌≢◌}
use native.Mathlib.Omega.{arith}
use lib.Dec.{eqb}
use lib.ListN.{get_or}
use borrow.Author.Tests.{eqb-true, eqb-false}
use Rattle.rules.specs.Limits.{LentTables, Plan}
use Rattle.rules.specs.Words.{every}
use Rattle.rules.specs.Refusals.{first}
use Rattle.rules.specs.Run as rules
use Rattle.rules.proofs.Calls.{in_range_facts, facts_in_range, given-in_range, ended-in_range, begun-in_range}
use Rattle.run.specs.declared.Run.{Run}
use Rattle.run.specs.declared.Answer.{Answer}
use Rattle.run.specs.declared.Answer.TheVariants.{Refused, Given}
use Rattle.run.specs.declared.Asked.{Asked}
use Rattle.run.specs.declared.Started.{Started}
use Rattle.run.specs.declared.Reported.{Reported}
use Rattle.run.specs.Calls.{run_of, start_of, next_of, with_run, answer_of}
use Rattle.run.proofs.Ranges.{fit_counts}
use Rattle.run.proofs.Refusing.{askable, reportable}

-- ---- one result only

back : rules.Run → Run
back r = record {
  n = r.n;
  levels = r.levels;
  position = r.position;
  clock = r.clock;
  running = r.running;
  level = r.level;
  left = r.left;
  decisions = r.decisions;
  overrun = r.overrun;
  late = r.late;
}

pub run_of-one : (r s : Run) → run_of r ≡ run_of s → r ≡ s
unfolding back
run_of-one r s e = ap back e

pub start_of-one : (a b : Started) → start_of a ≡ start_of b → a ≡ b
unfolding back
start_of-one a b e = ap (λ (x : rules.Next). record { run = back x.run; refusal = record { number = x.number } }) e

pub next_of-one : (a b : Reported) → next_of a ≡ next_of b → a ≡ b
unfolding back
next_of-one a b e = ap (λ (x : rules.Next). record { run = back x.run; refusal = record { number = x.number } }) e

back_asked : rules.Answer → Asked
back_asked (rules.refused k r) = record { run = back r; answer = Refused (record { number = k }) }
back_asked (rules.gives a q d l r) = record { run = back r; answer = Given a q d l }

pub answer_of-one : (a b : Asked) → answer_of a ≡ answer_of b → a ≡ b
unfolding back back_asked
answer_of-one a b e = sym (same a) ∙ ap back_asked e ∙ same b
  where
    given : (r : Run) (x : Answer) → back_asked (with_run x (run_of r)) ≡ record { run = r; answer = x }
    given r (Refused k) = refl
    given r (Given action level decided late) = refl

    same : (a : Asked) → back_asked (answer_of a) ≡ a
    same a = given a.run a.answer

-- ---- asking

-- with a refusal the record is the one asked; else it is in its ranges
abbrev pub AskKept : Run → Answer → Run → Type 0
AskKept r (Refused k) s = s ≡ r
AskKept r (Given action level decided late) s = rules.in_range (run_of s) ≡ true

module _ (T : LentTables) where
  abbrev Keeps : rules.Run → rules.Answer → Type 0
  Keeps r (rules.refused k s) = s ≡ r
  Keeps r (rules.gives a q decided late s) = rules.in_range s ≡ true

  given-ranged : (r : rules.Run) → 0 ≡ rules.ask_refusal T r
      → rules.in_range (rules.given 16 (rules.lent r.n r.levels T) r) ≡ true
  unfolding rules.lent
  given-ranged r none =
      let o = (askable T r none).is_open in
      facts_in_range _ (given-in_range (rules.lent r.n r.levels T) r refl refl (in_range_facts r o.ranged) o.waits o.more)

  keeps : (r : rules.Run) → Keeps r (rules.ask T r)
  unfolding rules.ask
  keeps r = by (eqb (rules.ask_refusal T r) 0) refl
    where
      P : Plan
      P = rules.lent r.n r.levels T

      late : Bool
      late = rules.decides r && not (rules.fits P r.clock r.position)

      by : (b : Bool) → eqb (rules.ask_refusal T r) 0 ≡ b → Keeps r (cond b
          (rules.gives (get_or T.order r.position 0) (rules.given 16 P r).level (rules.decides r) late (rules.given 16 P r))
          (rules.refused (rules.ask_refusal T r) r))
      by true e = given-ranged r (sym (eqb-true _ _ e))
      by false e = refl

  pub asked-kept : (r : Run) (a : Asked) → answer_of a ≡ rules.ask T (run_of r) → AskKept r a.answer a.run
  asked-kept r a e = by a.answer (subst (Keeps (run_of r)) (sym e) (keeps (run_of r)))
    where
      by : (x : Answer) → Keeps (run_of r) (with_run x (run_of a.run)) → AskKept r x a.run
      by (Refused k) h = run_of-one a.run r h
      by (Given action level decided late) h = h

-- ---- reporting

module _ (worst : List ℕ) (t : ℕ) where
  pub record ReportKept (r : Run) (a : Reported) : Type 0 where
    pub refused : a.refusal.number ≢ 0 → a.run ≡ r
    pub accepted : a.refusal.number ≡ 0 → rules.in_range (run_of a.run) ≡ true

  pub reported-kept : (r : Run) (a : Reported) → next_of a ≡ rules.report worst t (run_of r) → ReportKept r a
  unfolding rules.report
  reported-kept r a e = by (eqb k 0) refl e
    where
      s : rules.Run
      s = run_of r

      k : ℕ
      k = rules.report_refusal worst t s

      by : (b : Bool) → eqb k 0 ≡ b → next_of a ≡ cond {A = rules.Next} b
          (record { number = 0; run = rules.ended (get_or worst (s.position * s.levels + s.level) 0) t s })
          (record { number = k; run = s }) → ReportKept r a
      by true q e =
          let ready = reportable worst t s (sym (eqb-true _ _ q)) in
          record {
            refused = λ some. absurd (some (ap (λ (x : rules.Next). x.number) e));
            accepted = λ z. ap (λ (x : rules.Next). rules.in_range x.run) e
                ∙ facts_in_range _ (ended-in_range _ t s ready.ranged ready.runs ready.in_time);
          }
      by false q e = record {
        refused = λ some. run_of-one a.run r (ap (λ (x : rules.Next). x.run) e);
        accepted = λ z. absurd (eqb-false _ _ q (sym (ap (λ (x : rules.Next). x.number) e) ∙ z));
      }

-- ---- starting

-- a refused start gives a record of zero actions
pub record StartKept (n L : ℕ) (a : Started) : Type 0 where
  pub refused : a.refusal.number ≢ 0 → run_of a.run ≡ rules.begun 0 0 0
  pub accepted : a.refusal.number ≡ 0 → rules.in_range (run_of a.run) ≡ true

pub started-kept : (n L : ℕ) (a : Started) → start_of a ≡ rules.start n L → StartKept n L a
unfolding rules.start
started-kept n L a e = by (eqb (rules.start_refusal n L) 0) refl e
  where
    by : (b : Bool) → eqb (rules.start_refusal n L) 0 ≡ b → start_of a ≡ cond {A = rules.Next} b
        (record { number = 0; run = rules.begun n L 0 })
        (record { number = rules.start_refusal n L; run = rules.begun 0 0 0 }) → StartKept n L a
    by true q e =
        let f = fit_counts n L (sym q) in
        record {
          refused = λ some. absurd (some (ap (λ (x : rules.Next). x.number) e));
          accepted = λ z. ap (λ (x : rules.Next). rules.in_range x.run) e
              ∙ facts_in_range _ (begun-in_range n L 0 f.some_action f.few f.some_level f.few_levels (omega arith));
        }
    by false q e = record {
      refused = λ some. ap (λ (x : rules.Next). x.run) e;
      accepted = λ z. absurd (eqb-false _ _ q (sym (ap (λ (x : rules.Next). x.number) e) ∙ z));
    }

-- on which each later call answers 11
pub ask-not-begun : (T : LentTables) → rules.ask T (rules.begun 0 0 0) ≡ rules.refused 11 (rules.begun 0 0 0)
unfolding rules.ask rules.ask_refusal rules.in_range rules.begun first every
ask-not-begun T = refl

pub report-not-begun : (worst : List ℕ) (t : ℕ) → rules.report worst t (rules.begun 0 0 0) ≡ record { number = 11; run = rules.begun 0 0 0 }
unfolding rules.report rules.report_refusal rules.in_range rules.begun first every
report-not-begun worst t = refl
