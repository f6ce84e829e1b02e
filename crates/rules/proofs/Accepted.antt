-- Of a profile that is not refused: its tables obey the rule and the ranges, refusal 9 is 0 above limit (0, 0), and demand 3 holds, by either policy.
-- Assumes nothing.
use Prim.Native.Nat.{ℕ, suc, ◌≤◌, ◌<◌, zero-le}
use mathlib.Core.Bool.{Bool, true, false, cond}
use mathlib.Core.List.{List}
use mathlib.Core.Logic.{inl, inr, ◌↔◌}
use native.Mathlib.Nat.{le_refl, le_trans}
use native.Mathlib.Decide.{le_ind}
use native.Mathlib.Omega.{arith}
use lib.Dec.{eqb}
use lib.IntN.{pos}
use lib.Signed.{◌≤ℤ◌}
use Rattle.rules.specs.Numbers.{last_clock}
use Rattle.rules.specs.Words.{sum}
use Rattle.rules.specs.Image.{Profile, due, profile}
use Rattle.rules.specs.Order.{Order, Meets, TheOrder, FitFrom, Fit}
use Rattle.rules.specs.Limits.{tables, limit_by}
use Rattle.rules.specs.Refusals.{Count, Range, Falls, Table, Unfit, Accepted}
use Rattle.rules.specs.Demand.{Safe, Policy, WithinWorst, DemandThree}
use Rattle.rules.proofs.Sums.{sum_longer}
use Rattle.rules.proofs.Differences.{not-above}
use Rattle.rules.proofs.Refusals.{accepted-sound, Sound as SoundImage}
use Rattle.rules.proofs.Faults.{TimeOut}
use Rattle.rules.proofs.Order.OfProfile.{fit_exact, fit?}
use Rattle.rules.proofs.Limits.Mixed.{Sound}
use Rattle.rules.proofs.Limits.Years.{policy_by}
use Rattle.rules.proofs.Limits.Range.{Small}
use Rattle.rules.proofs.Demand.Record.{demand-three}

-- ---- rule and ranges by position

-- a time that never falls from a level to the next never falls
pub rises : (time : ℕ → ℕ) (L : ℕ) → (Falls time L → ⊥) → (q r : ℕ) → q ≤ r → r < L → time q ≤ time r
rises time L never q r l = le_ind (λ (m : ℕ). m < L → time q ≤ time m) (λ h. le_refl _)
    (λ m k ih h. le_trans (ih (omega arith)) (up m h)) r l
  where
    up : (m : ℕ) → suc m < L → time m ≤ time (suc m)
    up m h = not-above (λ e. never (m, h, e))

module _ (F : Profile) (o : Order F.n) (counts : Count F → ⊥) where
  pub some_level : 0 < F.levels
  some_level = not-above (λ h. counts (inl (inr (inr (inl h)))))

  pub some_action : 0 < F.n
  some_action = not-above (λ h. counts (inl (inl h)))

  pub tables-small : (Range F → ⊥) → (TimeOut F → ⊥) → Small (tables F o)
  unfolding due
  tables-small range time = record {
    few = not-above (λ h. counts (inl (inr (inl h))));
    time = λ p q l m. not-above (λ h. time (o.at p, o.at_lt p l, (q, m, inr h)));
    due = λ k l. by (eqb (F.deadline (o.at k)) 0) (not-above (λ h. range (o.at k, o.at_lt k l, inl h)));
  }
    where
      cycle_in : F.cycle ≤ last_clock
      cycle_in = not-above (λ h. counts (inr (inr h)))

      by : (b : Bool) {x : ℕ} → x ≤ F.cycle → cond b F.cycle x ≤ last_clock
      by true h = cycle_in
      by false h = le_trans h cycle_in

-- whatever the number of actions
pub tables-sound : (F : Profile) (o : Order F.n) → 0 < F.levels → (Table F → ⊥) → Sound (tables F o)
tables-sound F o level table = record {
  some_level = level;
  ordered = λ p q l m. not-above (λ h. table (o.at p, o.at_lt p l, inl (q, m, h)));
  average_rises = λ p q r l a m. rises (F.average (o.at p)) F.levels (λ f. table (o.at p, o.at_lt p l, inr (inl f))) q r a m;
  worst_rises = λ p q r l a m. rises (F.worst (o.at p)) F.levels (λ f. table (o.at p, o.at_lt p l, inr (inr f))) q r a m;
}

-- ---- refusal 9 and demand 3, whatever the number of actions

module _ {F : Profile} {o : Order F.n} (x : TheOrder F o) where
  safe-meets : (t : ℕ) → Safe (tables F o) t 0 0 ↔ Meets t o (λ a. F.worst a 0) (due F)
  unfolding sum
  safe-meets t = (
    (λ s k b. omega (arith, s k zero-le b, sum_longer (λ p. F.worst (o.at p) 0) 1 (suc k) (omega arith))),
    (λ m k a b. omega (arith, m k b, sum_longer (λ p. F.worst (o.at p) 0) 1 (suc k) (omega arith))),
  )

  -- The order meets all deadlines at level 0 worst times exactly if some permitted order does; equally, t is at most limit (0, 0).
  pub fit_safe : (t : ℕ) → Safe (tables F o) t 0 0 ↔ FitFrom t F
  fit_safe t = ((λ s. (fit_exact x t).0 ((safe-meets t).0 s)), (λ f. (safe-meets t).1 ((fit_exact x t).1 f)))

  module _ (level : 0 < F.levels) (table : Table F → ⊥) (year : ℕ) where
    -- the chosen policy of the rules for F
    abbrev pub policy : Policy (tables F o)
    policy = policy_by (tables F o) (tables-sound F o level table) year

    pub fit_limit : 0 < F.n → (t : ℕ) → (pos t ≤ℤ limit_by year (tables F o) 0 0) ↔ FitFrom t F
    fit_limit l t = (
      (λ h. (fit_safe t).0 (policy.is_safe t 0 0 l level h)),
      (λ f. policy.passes t 0 l ((fit_safe t).1 f)),
    )

    -- Demand 3, from any start that fits.
    pub fit_demand : (t : ℕ) → FitFrom t F → (d : ℕ → ℕ → ℕ) → WithinWorst 16 policy t d → DemandThree 16 policy t d
    fit_demand t f d within = demand-three 16 (omega arith) level policy t d within ((fit_safe t).1 f)

-- what is not unfit is fit
pub not_unfit : (F : Profile) → (Unfit F → ⊥) → Fit F
not_unfit F h = by (fit? 0 F)
  where
    by : Dec (Fit F) → Fit F
    by (yes f) = f
    by (no f) = absurd (h f)

-- the chosen policy of the rules for a sound image
abbrev pub sound_policy : {s : List ℕ} → SoundImage s → {o : Order (profile s).n} → TheOrder (profile s) o → ℕ → Policy (tables (profile s) o)
sound_policy {s} h {o} x = policy x (some_level (profile s) o h.not_count) h.not_table

-- Demand 3 of an accepted image, by either policy.
pub accepted-demand : (s : List ℕ) (a : Accepted s) {o : Order (profile s).n} (x : TheOrder (profile s) o) (year : ℕ)
    → let P = sound_policy ((accepted-sound s).0 a) x year in
    (d : ℕ → ℕ → ℕ) → WithinWorst 16 P 0 d → DemandThree 16 P 0 d
accepted-demand s a {o} x year =
    let h = (accepted-sound s).0 a in
    fit_demand x (some_level (profile s) o h.not_count) h.not_table year 0 (not_unfit (profile s) h.not_unfit)
