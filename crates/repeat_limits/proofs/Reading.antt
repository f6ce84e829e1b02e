-- What the limits and the coast bounds of lent tables read of them. Assumes nothing.
use Prim.Native.Nat.{ℕ, ◌+◌, ◌-◌, ◌*◌, ◌/◌, ◌%◌}
use mathlib.Core.Path.{◌≡◌, refl, ap, ap₂, sym, ◌∙◌}
use mathlib.Core.List.{List, []}
use native.Mathlib.Omega.{arith}
use lib.IntN.{pos, ◌-ℤ◌}
use Rattle.rules.specs.Repeat.{LentBody, positions, mix_from, worst_from, stretch_at, lent_each, lent_plan}
use Rattle.rules.specs.declared.Body.{Body}
use Rattle.repeat_laws.specs.Standing.{Standing}
use Rattle.repeat_laws.proofs.Joins.{followed-worst}
use Rattle.repeat_limits.proofs.Sizes.{mix_of}

abbrev pub alone : List ℕ → LentBody
alone s = record { order = []; summaries = s; worst = [] }

-- M by where the position stands: two summaries of the one list
pub standing_mix : {b : Body} (s : List ℕ) {x place after : ℕ} (q : ℕ) → Standing b x place after
    → mix_of b.policy s (place * b.levels + q) q after ≡ mix_from b (λ i r. stretch_at s (i * b.levels + r)) x q
unfolding mix_from
standing_mix {b} s {x} q h =
    let first : q ≡ 0 * b.levels + q = omega arith in
    ap₂ (λ (p m : ℕ). mix_of b.policy s (p * b.levels + q) q m) h.place_is h.after_is
    ∙ ap (λ (y : ℕ). mix_of b.policy s (x % b.n * b.levels + q) y (b.repeats - 1 - x / b.n)) first

-- and V: of the rest of a body and the bodies after it
pub standing_worst : {b : Body} (s : List ℕ) {x place after : ℕ} (q : ℕ) → Standing b x place after
    → (stretch_at s (place * b.levels + q)).worst + after * (stretch_at s q).worst ≡ worst_from b (λ i r. stretch_at s (i * b.levels + r)) x q
unfolding worst_from
standing_worst {b} s {x} q h =
    let first : q ≡ 0 * b.levels + q = omega arith in
    ap₂ (λ (p m : ℕ). (stretch_at s (p * b.levels + q)).worst + m * (stretch_at s q).worst) h.place_is h.after_is
    ∙ ap (λ (y : ℕ). (stretch_at s (x % b.n * b.levels + q)).worst + (b.repeats - 1 - x / b.n) * (stretch_at s y).worst) first
    ∙ sym (followed-worst (stretch_at s (x % b.n * b.levels + q)) (stretch_at s (0 * b.levels + q)) (b.repeats - 1 - x / b.n))

pub limit-read : {b : Body} (T : LentBody) {x place after : ℕ} (q : ℕ) → Standing b x place after
    → (lent_plan b T).limit x q ≡ pos b.cycle -ℤ pos (mix_of b.policy T.summaries (place * b.levels + q) q after)
unfolding lent_plan
limit-read {b} T q h = ap (λ (y : ℕ). pos b.cycle -ℤ pos y) (sym (standing_mix T.summaries q h))

pub positions-read : (b : Body) (T : LentBody) → (lent_plan b T).n ≡ positions b
unfolding lent_plan
positions-read b T = refl

-- the other lists do not count
pub limit-same : (b : Body) (T : LentBody) (s : List ℕ) (i q : ℕ) → T.summaries ≡ s → (lent_plan b (alone s)).limit i q ≡ (lent_plan b T).limit i q
unfolding lent_plan
limit-same b T s i q e = rw e

pub bound-same : (b : Body) (T U : LentBody) (i q r : ℕ) → T.summaries ≡ U.summaries → T.worst ≡ U.worst
    → (lent_plan b U).bound i q r ≡ (lent_plan b T).bound i q r
unfolding lent_plan lent_each
bound-same b T U i q r e f = rw (e, f)
