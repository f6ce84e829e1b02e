-- What planning that is not refused says of the run: its tables read as the planner's plan, and its counts start one. Assumes nothing.
use Prim.Native.Nat.{ℕ}
use mathlib.Core.Path.{◌≡◌, refl, sym}
use mathlib.Core.Bool.{Bool, true, false, cond}
use mathlib.Core.List.{List, [], ◌∷◌}
use mathlib.Core.Logic.{inl, inr, ⊎_elim}
use lib.Dec.{eqb}
use Rattle.rules.specs.Numbers.{refused_room, refused_policy}
use Rattle.rules.specs.Image.{profile}
use Rattle.rules.specs.Limits.{LentTables, tables, planner_tables}
use Rattle.rules.specs.Refusals.{◌when◌, Tight, UnknownPolicy}
use Rattle.rules.specs.Run.{Next, begun, lent, start, start_refusal}
use Rattle.rules.specs.Demand.{Safe, Policy, plan_of}
use Rattle.rules.proofs.Differences.{not-above}
use Rattle.rules.proofs.Refusals.{Sound, accepted_parts}
use Rattle.rules.proofs.Accepted.{sound_policy, fit_safe, not_unfit}
use Rattle.planner.specs.declared.Planned.{Planned}
use Rattle.planner.specs.Planning.{plan_rooms, with_fronts, Plans}
use Rattle.planner.proofs.Reading.{reads-order, reads-plan, reads-worst}
use Rattle.run.proofs.Ranges.{Counts, unfit-counts}
use Rattle.run_histories.specs.History.{Call, asks, reports}
use Rattle.run_histories.specs.Camera.{LentFrom}
use Rattle.run_histories.proofs.Cycle.{OnPlan}

module _ {s : List ℕ} {policy : ℕ} {B T : LentTables} {p : Planned} (plans : Plans s policy B T p) (none : p.refusal.number ≡ 0) where
  abbrev n : ℕ
  n = (profile s).n

  abbrev L : ℕ
  L = (profile s).levels

  pub planned-sound : Sound s
  planned-sound =
      let own = refused_policy when UnknownPolicy policy ∷ refused_room when Tight (plan_rooms n L B) ∷ [] in
      ⊎_elim (λ x. absurd (x.1 none)) (λ x. x.0) (accepted_parts s own p.refusal.number plans.number)

  -- the chosen policy of the rules for it, and the worst times fit
  abbrev pub planned_policy : Policy (tables (profile s) plans.o)
  planned_policy = sound_policy planned-sound (plans.the_order none) policy

  pub planned-safe : Safe (tables (profile s) plans.o) 0 0 0
  planned-safe = (fit_safe (plans.the_order none) 0).1 (not_unfit (profile s) planned-sound.not_unfit)

  -- What planning left reads as the plan.
  pub planned_on : (c : Call) → LentFrom T c → OnPlan plans.o.at (plan_of planned_policy) (tables (profile s) plans.o).worst c
  unfolding lent
  planned_on (asks A) (names, limits, bounds) = (rw names (reads-order policy (profile s) plans.o B written), rw (limits, bounds) (reads-plan policy (profile s) plans.o B written))
    where
      written : T ≡ with_fronts B (planner_tables policy (profile s) plans.o)
      written = rw none at plans.tables_are
  planned_on (reports worst t) e = rw e (reads-worst policy (profile s) plans.o B (rw none at plans.tables_are))

  -- Starting with the counts that planning answers is not refused.
  pub planned-start : start p.n p.levels ≡ record { number = 0; run = begun (profile s).n (profile s).levels 0 }
  unfolding start
  planned-start = rw (rw none at plans.n, rw none at plans.levels) (started (eqb (start_refusal n L) 0) refl)
    where
      counts : Counts (profile s).n (profile s).levels
      counts =
          let out = planned-sound.not_count in
          record {
            some_action = not-above (λ h. out (inl (inl h)));
            few = not-above (λ h. out (inl (inr (inl h))));
            some_level = not-above (λ h. out (inl (inr (inr (inl h)))));
            few_levels = not-above (λ h. out (inl (inr (inr (inr h)))));
          }

      started : (b : Bool) → eqb (start_refusal n L) 0 ≡ b
          → cond {A = Next} b (record { number = 0; run = begun n L 0 }) (record { number = start_refusal n L; run = begun 0 0 0 })
          ≡ record { number = 0; run = begun n L 0 }
      started true e = refl
      started false e = absurd (unfit-counts n L (sym e) counts)
