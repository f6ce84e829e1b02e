-- The greatest level that fits makes a decision of the rules. Assumes nothing.
use Prim.Native.Nat.{ℕ, suc, ◌<◌}
use mathlib.Core.Path.{◌≡◌, sym, ap}
use mathlib.Core.Bool.{true, false, not}
use mathlib.Core.List.{[]}
use mathlib.Core.Logic.{⊎_elim}
use native.Mathlib.Omega.{arith}
use lib.IntN.{pos}
use lib.Signed.{le_z}
use Rattle.rules.specs.Numbers.{longest_coast}
use Rattle.rules.specs.Run.{level_given, fits, left_granted}
use Rattle.rules.specs.Repeat.{LentBody, lent_plan}
use Rattle.rules.specs.declared.Body.{Body}
use Rattle.rules.proofs.Tests.{failed, not-both, last_is}
use Rattle.repeat_laws.specs.Standing.{Standing}
use Rattle.repeat_laws.proofs.Coasting.{granted_none}
use Rattle.repeat_decision.specs.Decision.{Greatest, MayGrant, MayChoose, Chooses}
use Rattle.repeat_decision.specs.declared.Fit.{Fit}

module _ {b : Body} {T : LentBody} {place after t : ℕ} (h : MayChoose b T place after t) where
  module _ {f : Fit} (F : Greatest b T.summaries place after t f) where
    -- the summaries alone tell it
    module _ {x : ℕ} (s : Standing b x place after) where
      level_is : level_given (lent_plan b T) t x ≡ f.level
      unfolding lent_plan level_given
      level_is = sym (F.level x s)

      fits-here : fits (lent_plan b T) t x ≡ true
      unfolding lent_plan level_given fits
      fits-here = F.fits x s

      level-fits : le_z (pos t) ((lent_plan b T).limit x f.level) ≡ true
      unfolding fits
      level-fits = rw level_is at fits-here

      level-low : f.level < b.levels
      unfolding lent_plan level_given
      level-low = omega (arith, level_is, (last_is (λ q. le_z (pos t) ((lent_plan b T).limit x q)) b.levels).below h.summarised.counts.some_level)

      none_above : suc f.level < b.levels → le_z (pos t) ((lent_plan b T).limit x (suc f.level)) ≡ false
      unfolding lent_plan level_given
      none_above l =
          failed _ ((last_is (λ q. le_z (pos t) ((lent_plan b T).limit x q)) b.levels).none_above (suc f.level) (omega (arith, level_is)) l)

    pub may_grant : {x : ℕ} → Standing b x place after → MayGrant b T place after f t
    may_grant s = record {
      summarised = h.summarised;
      timed = h.timed;
      level = level-low s;
      early = h.early;
      rooms = F;
      fits = λ x at. level-fits at;
      none_above = λ x at. none_above at;
    }

    -- where a level fits, with what is left to coast at it
    pub chosen : {left : ℕ} → (x : ℕ) → Standing b x place after → left ≡ left_granted longest_coast (lent_plan b T) t x f.level
        → Chooses (lent_plan b T) t x (record { level = f.level; left = left; late = false })
    chosen x s l = record { level = sym (level_is s); left = l; late = ap not (sym (fits-here s)) }

  -- where none does, level 0 for one action
  module _ (none : (x : ℕ) → Standing b x place after → fits (lent_plan b (record { order = []; summaries = T.summaries; worst = [] })) t x ≡ false)
      {x : ℕ} (s : Standing b x place after) where
    none_here : fits (lent_plan b T) t x ≡ false
    unfolding lent_plan level_given fits
    none_here = none x s

    level-none : level_given (lent_plan b T) t x ≡ 0
    unfolding lent_plan level_given fits
    level-none =
        ⊎_elim (λ f. absurd (not-both f none_here)) (λ z. z.0)
        (last_is (λ q. le_z (pos t) ((lent_plan b T).limit x q)) b.levels).is

    unfit : le_z (pos t) ((lent_plan b T).limit x 0) ≡ false
    unfolding fits
    unfit = rw level-none at none_here

    pub chosen-late : Chooses (lent_plan b T) t x (record { level = 0; left = 0; late = true })
    chosen-late = record {
      level = sym level-none;
      left = granted_none b T t x 0 s.present unfit;
      late = ap not (sym none_here);
    }
