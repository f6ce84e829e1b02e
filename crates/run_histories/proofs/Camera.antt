-- Demand 3 of the calls that a camera makes: planning, a start, then askings and reports, each as its contract allows. Assumes nothing.
use Prim.Native.Nat.{ℕ, ◌<◌}
use mathlib.Core.Path.{◌≡◌, refl, ap, sym, subst, ◌∙◌}
use mathlib.Core.Bool.{false}
use mathlib.Core.List.{List, ◌++◌, map}
use lib.ListN.{length}
use Rattle.rules.specs.Image.{profile}
use Rattle.rules.specs.Limits.{LentTables, Tables, tables}
use Rattle.rules.specs.Run as rules
use Rattle.rules.specs.Demand.{Policy, plan_of}
use Rattle.rules.proofs.Accepted.{some_level}
use Rattle.planner.specs.declared.Planned.{Planned}
use Rattle.run.specs.declared.Run.{Run}
use Rattle.run.specs.declared.Answer.{Answer}
use Rattle.run.specs.declared.Answer.TheVariants.{Refused, Given}
use Rattle.run.specs.declared.Started.{Started}
use Rattle.run.specs.Calls.{run_of, start_of, with_run}
use Rattle.run_histories.specs.History.{Call, CallReply, to_ask, to_report, reply, number, handed, next, after, along, EachAccepted, asking_of, asking_at, clock_of, askings, clocks}
use Rattle.run_histories.specs.Demand.{WithinAnswered}
use Rattle.run_histories.specs.Camera.{CameraCycle, Made, asked, reported, call_of, reply_of, run_after, AnswersCall, LentFrom, Traced, said, made_askings, made_clocks, CameraKeeps}
use Rattle.run_histories.proofs.Cycle.{OnPlan}
use Rattle.run_histories.proofs.Demand.{demand-of_calls, unmarked_within, actions_are}
use Rattle.run_histories.proofs.Planning.{planned-sound, planned_policy, planned-safe, planned_on, planned-start}

-- ---- calls made are a history

replied : (m : Made) (r : Run) → AnswersCall m r → reply_of m ≡ reply (call_of m) (run_of r)
unfolding reply
replied (asked T a) r h = ap to_ask h
replied (reported worst t a) r h = ap to_report h

handed_on : (m : Made) → handed (reply_of m) ≡ run_of (run_after m)
unfolding handed
handed_on (asked T a) = by a.answer
  where
    by : (x : Answer) → handed (to_ask (with_run x (run_of a.run))) ≡ run_of a.run
    by (Refused k) = refl
    by (Given action level decided late) = refl
handed_on (reported worst t a) = refl

next_is : (m : Made) (r : Run) → AnswersCall m r → next (call_of m) (run_of r) ≡ run_of (run_after m)
next_is m r h = ap handed (sym (replied m r h)) ∙ handed_on m

module _ {T : LentTables} where
  pub traced-after : {r s : Run} {l : List Made} → Traced T r l s → after (map call_of l) (run_of r) ≡ run_of s
  unfolding after
  traced-after Traced.none = refl
  traced-after (Traced.more {m = m} {l = l} {r = r} h on rest) = ap (after (map call_of l)) (next_is m r h) ∙ traced-after rest

  pub traced-along : {A : Type 0} (f : Call → CallReply → List A) {r s : Run} {l : List Made} → Traced T r l s
      → along f (map call_of l) (run_of r) ≡ said f l
  unfolding along said
  traced-along f Traced.none = refl
  traced-along {A} f (Traced.more {m = m} {l = l} {r = r} h on rest) =
      ap (λ (x : CallReply). f (call_of m) x ++ along f (map call_of l) (handed x)) (sym (replied m r h))
      ∙ ap (λ (r : rules.Run). f (call_of m) (reply_of m) ++ along f (map call_of l) r) (handed_on m)
      ∙ ap (λ (xs : List A). f (call_of m) (reply_of m) ++ xs) (traced-along f rest)

  pub traced-each : {C : Call → Type 0} → ((c : Call) → LentFrom T c → C c) → {r s : Run} {l : List Made} → Traced T r l s
      → EachAccepted C (map call_of l) (run_of r)
  traced-each holds Traced.none = EachAccepted.none
  traced-each {C} holds (Traced.more {m = m} {l = l} {r = r} h on rest) =
      EachAccepted.more (λ e. holds (call_of m) (on (ap number (replied m r h) ∙ e)))
      (subst (EachAccepted C (map call_of l)) (sym (next_is m r h)) (traced-each holds rest))

-- ---- demand 3

module _ {s : List ℕ} {policy : ℕ} {B T : LentTables} {p : Planned} {b : Started} {l : List Made} {r : Run}
    (c : CameraCycle s policy B T p b l r) where
  abbrev S : Tables
  S = tables (profile s) c.plans.o

  abbrev P : Policy (tables (profile s) c.plans.o)
  P = planned_policy c.plans c.planned

  abbrev cs : List Call
  cs = map call_of l

  abbrev first_run : rules.Run
  first_run = rules.begun (profile s).n (profile s).levels 0

  started : start_of b ≡ record { number = 0; run = first_run }
  started = c.starts ∙ planned-start c.plans c.planned

  run_is : run_of b.run ≡ first_run
  run_is = ap (λ (x : rules.Next). x.run) started

  on : EachAccepted (OnPlan c.plans.o.at (plan_of P) S.worst) cs first_run
  on = subst (EachAccepted (OnPlan c.plans.o.at (plan_of P) S.worst) cs) run_is (traced-each (planned_on c.plans c.planned) c.traced)

  after_is : after cs first_run ≡ run_of r
  after_is = ap (after cs) (sym run_is) ∙ traced-after c.traced

  askings_are : askings cs first_run ≡ made_askings l
  askings_are = ap (askings cs) (sym run_is) ∙ traced-along asking_of c.traced

  clocks_are : clocks cs first_run ≡ made_clocks l
  clocks_are = ap (clocks cs) (sym run_is) ∙ traced-along clock_of c.traced

  level : 0 < (profile s).levels
  level = some_level (profile s) c.plans.o (planned-sound c.plans c.planned).not_count

  -- A start with the counts that planning answers is accepted.
  pub start-accepted : b.refusal.number ≡ 0
  start-accepted = ap (λ (x : rules.Next). x.number) started

  -- The action answered at position j is the order's.
  pub camera_actions : (j : ℕ) → j < length (made_askings l) → (asking_at (made_askings l) j).action ≡ c.plans.o.at j
  camera_actions = rw (sym askings_are) (actions_are P level 0 c.plans.o.at cs on)

  -- Demand 3 of the calls that a camera makes, where no accepted report's duration is above worst at the level answered.
  pub camera_keeps : WithinAnswered (tables (profile s) c.plans.o) 0 (made_clocks l) (made_askings l) → CameraKeeps s policy c.plans.o l r
  camera_keeps within = record {
    policy = P;
    chosen = refl;
    kept = rw (sym clocks_are, sym askings_are, sym after_is)
        (demand-of_calls P level 0 c.plans.o.at cs on (planned-safe c.plans c.planned) (rw (clocks_are, askings_are) within));
    actions = camera_actions;
  }

  -- The same from the overrun mark: where it is not set then, every duration was within worst.
  pub camera_unmarked : r.overrun ≡ false → CameraKeeps s policy c.plans.o l r
  camera_unmarked e = camera_keeps (rw (sym clocks_are, sym askings_are)
      (unmarked_within P level 0 c.plans.o.at cs on (ap (λ (x : rules.Run). x.overrun) after_is ∙ e)))
