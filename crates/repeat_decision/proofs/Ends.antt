-- The longest coast there may be, tried by its ends. Assumes nothing.
use Prim.Native.Nat.{ℕ, suc, ◌+◌, ◌-◌, ◌*◌, ◌≤◌, ◌<◌, min}
use mathlib.Core.Path.{◌≡◌, sym, subst, ◌∙◌}
use native.Mathlib.Omega.{arith}
use lib.IntN.{pos}
use Rattle.rules.specs.Numbers.{longest_coast}
use Rattle.rules.specs.Run.{left_granted}
use Rattle.rules.specs.Repeat.{LentBody, positions, mix_from, last_mix, rest_lent, lent_each, lent_plan}
use Rattle.rules.specs.declared.Body.{Body}
use Rattle.rules.proofs.Tests.{pass}
use Rattle.rules.proofs.Limits.Signed.{time_at-most, time-less}
use Rattle.repeat_laws.specs.Standing.{Standing}
use Rattle.repeat_laws.proofs.Standing.{rest-left}
use Rattle.repeat_laws.proofs.Coasting.{Ends, granted_ends, granted_each}
use Rattle.repeat_decision.specs.Decision.{MayGrant}
use Rattle.repeat_decision.specs.declared.Fit.{Fit}

module _ {b : Body} {T : LentBody} {place after t longest : ℕ} {f : Fit} (h : MayGrant b T place after f t)
    (long : longest ≡ min longest_coast (after * b.n + (b.n - place))) where
  some : 0 < longest
  some = omega (arith, long, h.summarised.inside)

  module _ {x : ℕ} (s : Standing b x place after) where
    length-is : longest ≡ min longest_coast (positions b - x)
    length-is = omega (arith, long, rest-left h.summarised.counts.some_action s)

    -- the level fits where the coast begins
    first_fits : t + mix_from b (rest_lent b T) x f.level ≤ b.cycle
    unfolding lent_plan
    first_fits = omega (
      arith,
      (time_at-most _ (pos b.cycle)).0 ((time-less t (pos b.cycle) (mix_from b (rest_lent b T) x f.level)).0 (record { le = pass _ (h.fits x s) })),
    )

    -- at the top level, with room at its last position too
    pub long_granted : f.level + 1 ≡ b.levels → t + last_mix b (rest_lent b T) x f.level longest ≤ b.cycle
        → longest - 1 ≡ left_granted longest_coast (lent_plan b T) t x f.level
    long_granted top room =
        let all : longest ≡ suc (longest - 1) = omega (arith, some) in
        granted_ends b T t x f.level (longest - 1) s.present
        (subst (Ends b T t x f.level) all (record { top = omega (arith, top); longest = length-is; room = omega (arith, room, first_fits) }))

    -- else each position tells
    pub each_granted : (f.level + 1 ≡ b.levels → b.cycle < t + last_mix b (rest_lent b T) x f.level longest) → {left : ℕ}
        → left ≡ left_granted longest_coast (lent_each b T) t x f.level → left ≡ left_granted longest_coast (lent_plan b T) t x f.level
    each_granted late e = e ∙ granted_each b T t x f.level s.present (λ E.
        let there = subst (Ends b T t x f.level) (sym length-is) E in
        omega (arith, there.room, late (omega (arith, there.top, h.level))))
