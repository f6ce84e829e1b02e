-- The boundary's calls are the calls by value over the record that the host keeps, so that they keep demand 3. Assumes nothing.
use Prim.Native.Nat.{ℕ}
use mathlib.Core.Path.{◌≡◌, refl, ap, ◌∙◌}
use mathlib.Core.Bool.{Bool, true, false, cond}
use mathlib.Core.List.{List, map}
use mathlib.Core.Logic.{◌≢◌}
use lib.Dec.{eqb}
use borrow.Author.Tests.{eqb-false, ne_eqb}
use Rattle.rules.specs.Image.{profile}
use Rattle.rules.specs.Limits.{LentTables, tables}
use Rattle.rules.specs.Run as rules
use Rattle.planner.specs.declared.Planned.{Planned}
use Rattle.run.specs.declared.Run.{Run}
use Rattle.run.specs.declared.Answer.{Answer}
use Rattle.run.specs.declared.Answer.TheVariants.{Refused, Given}
use Rattle.run.specs.declared.Started.{Started}
use Rattle.run.specs.Calls.{run_of, with_run}
use Rattle.nyokazerubi.specs.declared.runs.Given as flat
use Rattle.nyokazerubi.specs.Flat.{Asks}
use Rattle.run_histories.specs.Demand.{WithinAnswered}
use Rattle.run_histories.specs.Camera.{AnswersCall, Traced, CameraCycle, CameraKeeps}
use Rattle.run_histories.proofs.Camera.{camera_keeps, camera_unmarked}
use Rattle.host_histories.specs.Host.{HostMade, host_asked, host_reported, answer_from, by_value, HostAnswers, HostTraced, host_askings, host_clocks, HostCycle}

-- ---- the answer laid flat and back

-- A refusal of an asking has a number.
abbrev Numbered : rules.Answer → Type 0
Numbered (rules.refused k r) = k ≢ 0
Numbered (rules.gives action level decided late r) = Unit {0}

ask-numbered : (T : LentTables) (r : rules.Run) → Numbered (rules.ask T r)
unfolding rules.ask
ask-numbered T r = by (rules.ask_refusal T r) (eqb (rules.ask_refusal T r) 0) _ _ _ _ _ refl
  where
    by : (k : ℕ) (b : Bool) (action level : ℕ) (decided late : Bool) (s : rules.Run) → eqb k 0 ≡ b
        → Numbered (cond b (rules.gives action level decided late s) (rules.refused k r))
    by k true action level decided late s e = tt
    by k false action level decided late s e = eqb-false k 0 e

back : (x : rules.Answer) (r : Run) (g : flat.Given) → Numbered x → Asks x (run_of r) g → with_run (answer_from g) (run_of r) ≡ x
back (rules.refused k s) r g some a =
    ap (λ (h : flat.Given). with_run (answer_from h) (run_of r)) a.given
    ∙ ap (λ (b : Bool). with_run (cond b (Given 0 0 false false) (Refused (record { number = k }))) (run_of r)) (ne_eqb k 0 some)
    ∙ ap (rules.refused k) a.run
back (rules.gives action level decided late s) r g some a =
    ap (λ (h : flat.Given). with_run (answer_from h) (run_of r)) a.given ∙ ap (rules.gives action level decided late) a.run

-- ---- each call, and the calls one after another

answers-by_value : (m : HostMade) (r : Run) → HostAnswers m r → AnswersCall (by_value m) r
answers-by_value (host_asked T g r') r a = back (rules.ask T (run_of r)) r' g (ask-numbered T (run_of r)) a
answers-by_value (host_reported worst t a) r e = e

traced-by_value : {T : LentTables} {r s : Run} {l : List HostMade} → HostTraced T r l s → Traced T r (map by_value l) s
traced-by_value HostTraced.none = Traced.none
traced-by_value (HostTraced.more {m = m} {r = r} h on rest) = Traced.more (answers-by_value m r h) on (traced-by_value rest)

-- ---- demand 3

module _ {s : List ℕ} {policy : ℕ} {B T : LentTables} {p : Planned} {b : Started} {l : List HostMade} {r : Run}
    (c : HostCycle s policy B T p b l r) where
  pub cycle-by_value : CameraCycle s policy B T p b (map by_value l) r
  cycle-by_value = record { plans = c.plans; planned = c.planned; starts = c.starts; traced = traced-by_value c.traced }

  -- Demand 3 of the boundary's calls, where no accepted report's duration is above worst at the level answered.
  pub host_keeps : WithinAnswered (tables (profile s) c.plans.o) 0 (host_clocks l) (host_askings l)
      → CameraKeeps s policy c.plans.o (map by_value l) r
  unfolding cycle-by_value
  host_keeps = camera_keeps cycle-by_value

  -- The same from the overrun mark.
  pub host_unmarked : r.overrun ≡ false → CameraKeeps s policy c.plans.o (map by_value l) r
  unfolding cycle-by_value
  host_unmarked = camera_unmarked cycle-by_value
