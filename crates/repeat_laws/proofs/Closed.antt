-- The limits of the unrolled system from the summary of the rest of a body and of the whole bodies after it, with no loop over repeats.
use Prim.Native.Nat.{ℕ, zero, suc, ◌+◌, ◌-◌, ◌*◌, ◌/◌, ◌%◌, ◌≤◌, ◌<◌, max}
use mathlib.Core.Path.{◌≡◌, refl, ap, ap₂, sym, ◌∙◌}
use mathlib.Core.Bool.{Bool, true, false, cond}
use native.Mathlib.Nat.{le_refl, suc-mul, div-add-mod'}
use native.Mathlib.Omega.{arith}
use lib.Dec.{eqb}
use lib.IntN.{pos, ◌-ℤ◌}
use Rattle.rules.specs.Numbers.{policy_2005}
use Rattle.rules.specs.Words.{sum, span}
use Rattle.rules.specs.Image.{Profile}
use Rattle.rules.specs.Order.{Order}
use Rattle.rules.specs.Limits.{Tables, tables, safe, average, mixed, limit_by}
use Rattle.rules.proofs.Sums.{sum_longer}
use Rattle.rules.proofs.Limits.Mixed.{Sound}
use Rattle.repeat_laws.proofs.Repeatable.{Repeatable}
use Rattle.rules.specs.Repeat.{Sums, stretch, Summary, empty, of, summary, joined, followed, join, bodies, stretch_2005, stretch_by, joined_by, needed_2005, needed, rest_of, body_of, mix_from, worst_from}
use Rattle.repeat_laws.proofs.Places.{place_of, place-lt, row_lt, inside}
use Rattle.repeat_laws.proofs.Order.{due-unrolled, repeated, repeated_at}
use Rattle.repeat_laws.proofs.Mixed.{mixed-greatest, taken_2005, taken, limit-one}
use Rattle.repeat_laws.proofs.Joins.{same, stretch-joined, stretch-one, summary-joined, stretch_moved, bodies-more, followed-average, followed-lowest, followed-worst}
use Rattle.repeat_laws.proofs.Rule.{unrolled_tables}

pub summary-some : (S : Tables) (q i m : ℕ) → 0 < m → summary S q i m ≡ of (stretch S q i (i + (m - 1)))
summary-some S q i zero l = let no_such : ⊥ = omega arith in absurd no_such
summary-some S q i (suc m) l = let e : suc m - 1 ≡ m = omega arith in rw e

-- what a summary of some positions is of; of none, anything
sums-of : Sums → Summary → Sums
sums-of x empty = x
sums-of x (of y) = y

same-sums : {x y : Sums} → of x ≡ of y → x ≡ y
unfolding sums-of
same-sums {x} e = ap (sums-of x) e

-- the safe sum, with the level 0 worst time of its first position for that at q
safe-lowest : (S : Tables) (i k q : ℕ) → i ≤ k → safe S i k q + S.worst i 0 ≡ S.worst i q + span (λ p. S.worst p 0) i (suc k)
unfolding sum
safe-lowest S i k q l = omega (arith, sum_longer (λ p. S.worst p 0) (suc i) (suc k) (omega arith))

same_after : (s t x y m : ℕ) {v w a b : ℕ} → v ≡ w → a ≡ b → s + a ≡ v + x → t + b ≡ w + y → x ≡ y + m → s ≡ t + m
same_after s t x y m e f p q r = omega (arith, p, q, r, e, f)

greater_swapped : {a b x y : ℕ} → a ≡ x → b ≡ y → max a b ≡ max y x
greater_swapped p q = omega (arith, p, q)

module _ {F : Profile} (body : Repeatable F) (N : ℕ) (o : Order F.n) where
  -- ---- position j n + b of the unrolled system has the times of position b of the body

  action_moved : (j b : ℕ) → b < F.n → (repeated body.some N o).at (j * F.n + b) % F.n ≡ o.at b
  action_moved j b l = ap (λ (y : ℕ). y % F.n) (repeated_at body.some N o j b l) ∙ place_of body.some j (o.at_lt b l)

  pub average_moved : (j b q : ℕ) → b < F.n → (unrolled_tables body N o).average (j * F.n + b) q ≡ F.average (o.at b) q
  average_moved j b q l = ap (λ (y : ℕ). F.average y q) (action_moved j b l)

  pub worst_moved : (j b q : ℕ) → b < F.n → (unrolled_tables body N o).worst (j * F.n + b) q ≡ F.worst (o.at b) q
  worst_moved j b q l = ap (λ (y : ℕ). F.worst y q) (action_moved j b l)

  module _ (q : ℕ) where
    -- positions b to k of a repeat
    pub part_moved : (j b k : ℕ) → b ≤ k → k < F.n → stretch (unrolled_tables body N o) q (j * F.n + b) (j * F.n + k) ≡ stretch (tables F o) q b k
    part_moved j b k a l = stretch_moved (tables F o) (unrolled_tables body N o) q (j * F.n) b k a
        (λ p h. average_moved j p q (omega arith)) (λ p r h. worst_moved j p r (omega arith))

    -- the rest of a repeat from b
    rest_moved : (j b : ℕ) → b < F.n → summary (unrolled_tables body N o) q (j * F.n + b) (F.n - b) ≡ of (stretch (tables F o) q b (F.n - 1))
    rest_moved j b l =
        let e : j * F.n + b + (F.n - b - 1) ≡ j * F.n + (F.n - 1) = omega arith in
        summary-some (unrolled_tables body N o) q (j * F.n + b) (F.n - b) (omega arith)
        ∙ ap (λ (y : ℕ). of (stretch (unrolled_tables body N o) q (j * F.n + b) y)) e
        ∙ ap of (part_moved j b (F.n - 1) (omega arith) (omega (arith, body.some)))

    -- m whole repeats, from any on
    pub bodies_moved : (j m : ℕ) → summary (unrolled_tables body N o) q (j * F.n) (m * F.n) ≡ bodies (stretch (tables F o) q 0 (F.n - 1)) m
    bodies_moved j zero = let e : 0 * F.n ≡ 0 = omega arith in rw e
    bodies_moved j (suc m) =
        let e : j * F.n + m * F.n ≡ (j + m) * F.n + 0 = omega arith in
        let whole : F.n - 0 ≡ F.n = omega arith in
        let one : summary (unrolled_tables body N o) q (j * F.n + m * F.n) F.n ≡ of (stretch (tables F o) q 0 (F.n - 1)) =
        ap₂ (summary (unrolled_tables body N o) q) e (sym whole) ∙ rest_moved (j + m) 0 body.some in
        ap (summary (unrolled_tables body N o) q (j * F.n)) (suc-mul m F.n)
        ∙ summary-joined (unrolled_tables body N o) q (j * F.n) (m * F.n) F.n
        ∙ ap₂ join (bodies_moved j m) one
        ∙ bodies-more (stretch (tables F o) q 0 (F.n - 1)) m

    -- all positions from j n + b on
    pub rest_closed : (j b : ℕ) → j < N → b < F.n
        → stretch (unrolled_tables body N o) q (j * F.n + b) (N * F.n - 1)
        ≡ followed (stretch (tables F o) q b (F.n - 1)) (bodies (stretch (tables F o) q 0 (F.n - 1)) (N - 1 - j))
    rest_closed j b h l =
        let r : ℕ = N - 1 - j in
        let rows : N * F.n ≡ (j + 1 + r) * F.n = (let e : N ≡ j + 1 + r = omega arith in ap (λ (y : ℕ). y * F.n) e) in
        let count : N * F.n - (j * F.n + b) ≡ F.n - b + r * F.n = omega arith in
        let last : j * F.n + b + (N * F.n - (j * F.n + b) - 1) ≡ N * F.n - 1 = omega (arith, inside body.some h l) in
        let next : j * F.n + b + (F.n - b) ≡ suc j * F.n = omega arith in
        same-sums (
        ap (λ (y : ℕ). of (stretch (unrolled_tables body N o) q (j * F.n + b) y)) (sym last)
        ∙ sym (summary-some (unrolled_tables body N o) q (j * F.n + b) (N * F.n - (j * F.n + b)) (omega (arith, inside body.some h l)))
        ∙ ap (summary (unrolled_tables body N o) q (j * F.n + b)) count
        ∙ summary-joined (unrolled_tables body N o) q (j * F.n + b) (F.n - b) (r * F.n)
        ∙ ap₂ join (rest_moved j b l) (ap (λ (y : ℕ). summary (unrolled_tables body N o) q y (r * F.n)) next ∙ bodies_moved (suc j) r)
        )

    -- What the limit at position b of repeat j takes off the cycle: in 2008 M of the rest of the body joined with the bodies after it in closed form,
    mixed_closed : Sound (unrolled_tables body N o) → q < F.levels → (j b : ℕ) → j < N → b < F.n
        → mixed (unrolled_tables body N o) (j * F.n + b) (N * F.n - 1) q
        ≡ (followed (stretch (tables F o) q b (F.n - 1)) (bodies (stretch (tables F o) q 0 (F.n - 1)) (N - 1 - j))).mix
    unfolding stretch
    mixed_closed sound m j b h l =
        let low = inside body.some h l in
        mixed-greatest (unrolled_tables body N o) q (j * F.n + b) (N * F.n - 1) (omega arith) (sound.ordered (N * F.n - 1) q (omega arith) m)
        ∙ ap (λ (x : Sums). x.mix) (rest_closed j b h l)

    -- in 2005 the greater of the averages and of the safe sum, each of the rest of the body and of the bodies after it.
    average_closed : (j b : ℕ) → j < N → b < F.n
        → average (unrolled_tables body N o) (j * F.n + b) (N * F.n - 1) q
        ≡ (stretch (tables F o) q b (F.n - 1)).average + (N - 1 - j) * (stretch (tables F o) q 0 (F.n - 1)).average
    unfolding stretch
    average_closed j b h l =
        ap (λ (x : Sums). x.average) (rest_closed j b h l)
        ∙ followed-average (stretch (tables F o) q b (F.n - 1)) (stretch (tables F o) q 0 (F.n - 1)) (N - 1 - j)

    safe_closed : (j b : ℕ) → j < N → b < F.n
        → safe (unrolled_tables body N o) (j * F.n + b) (N * F.n - 1) q
        ≡ safe (tables F o) b (F.n - 1) q + (N - 1 - j) * (stretch (tables F o) q 0 (F.n - 1)).lowest
    unfolding stretch
    safe_closed j b h l =
        let own : Sums = stretch (tables F o) q b (F.n - 1) in
        let whole : Sums = stretch (tables F o) q 0 (F.n - 1) in
        let low = inside body.some h l in
        same_after _ _ _ own.lowest _ (worst_moved j b q l) (worst_moved j b 0 l)
        (safe-lowest (unrolled_tables body N o) (j * F.n + b) (N * F.n - 1) q (omega arith))
        (safe-lowest (tables F o) b (F.n - 1) q (omega arith))
        (ap (λ (x : Sums). x.lowest) (rest_closed j b h l) ∙ followed-lowest own whole (N - 1 - j))

    apart_closed : (j b : ℕ) → j < N → b < F.n
        → taken_2005 (unrolled_tables body N o) (j * F.n + b) q
        ≡ needed_2005 (stretch_2005 (tables F o) q b (F.n - 1)) (stretch_2005 (tables F o) q 0 (F.n - 1)) (N - 1 - j)
    apart_closed j b h l = greater_swapped (average_closed j b h l) (safe_closed j b h l)

    -- The limit at any position.
    pub limit_there : Sound (unrolled_tables body N o) → q < F.levels → (policy x : ℕ) → x < N * F.n
        → limit_by policy (unrolled_tables body N o) x q ≡ pos F.cycle -ℤ pos (mix_from (body_of F N policy) (rest_of policy (tables F o)) x q)
    unfolding mix_from
    limit_there sound m policy x h =
        limit-one (unrolled_tables body N o) F.cycle x q h (λ k a. due-unrolled body N _) policy
        ∙ ap (λ (y : ℕ). pos F.cycle -ℤ pos y) (
        ap (λ (y : ℕ). taken policy (unrolled_tables body N o) y q) (sym (div-add-mod' x F.n))
        ∙ by (eqb policy policy_2005)
        )
      where
        by : (b : Bool)
            → cond b (taken_2005 (unrolled_tables body N o) (x / F.n * F.n + x % F.n) q) (mixed (unrolled_tables body N o) (x / F.n * F.n + x % F.n) (N * F.n - 1) q)
            ≡ cond b
            (needed_2005 (cond b (stretch_2005 (tables F o)) (stretch (tables F o)) q (x % F.n) (F.n - 1))
            (cond b (stretch_2005 (tables F o)) (stretch (tables F o)) q 0 (F.n - 1)) (N - 1 - x / F.n))
            (followed (cond b (stretch_2005 (tables F o)) (stretch (tables F o)) q (x % F.n) (F.n - 1))
            (bodies (cond b (stretch_2005 (tables F o)) (stretch (tables F o)) q 0 (F.n - 1)) (N - 1 - x / F.n))).mix
        by true = apart_closed (x / F.n) (x % F.n) (row_lt body.some h) (place-lt body.some x)
        by false = mixed_closed sound m (x / F.n) (x % F.n) (row_lt body.some h) (place-lt body.some x)

    -- The worst times from a position on, in the same way.
    pub worst_closed : (policy x : ℕ) → x < N * F.n
        → worst_from (body_of F N policy) (rest_of policy (tables F o)) x q ≡ span (λ p. (unrolled_tables body N o).worst p q) x (N * F.n)
    unfolding worst_from stretch
    worst_closed policy x h =
        let last : suc (N * F.n - 1) ≡ N * F.n = omega arith in
        either_worst (eqb policy policy_2005)
        ∙ sym (ap (λ (y : Sums). y.worst) (rest_closed (x / F.n) (x % F.n) (row_lt body.some h) (place-lt body.some x)))
        ∙ ap₂ (span (λ p. (unrolled_tables body N o).worst p q)) (div-add-mod' x F.n) last
      where
        -- V is the same by either policy
        either_worst : (b : Bool)
            → (followed (cond b (stretch_2005 (tables F o)) (stretch (tables F o)) q (x % F.n) (F.n - 1))
            (bodies (cond b (stretch_2005 (tables F o)) (stretch (tables F o)) q 0 (F.n - 1)) (N - 1 - x / F.n))).worst
            ≡ (followed (stretch (tables F o) q (x % F.n) (F.n - 1)) (bodies (stretch (tables F o) q 0 (F.n - 1)) (N - 1 - x / F.n))).worst
        either_worst true =
            followed-worst (stretch_2005 (tables F o) q (x % F.n) (F.n - 1)) (stretch_2005 (tables F o) q 0 (F.n - 1)) (N - 1 - x / F.n)
            ∙ sym (followed-worst (stretch (tables F o) q (x % F.n) (F.n - 1)) (stretch (tables F o) q 0 (F.n - 1)) (N - 1 - x / F.n))
        either_worst false = refl

  pub worst_there : (x q : ℕ) → (unrolled_tables body N o).worst x q ≡ F.worst (o.at (x % F.n)) q
  worst_there x q =
      ap (λ (y : ℕ). (unrolled_tables body N o).worst y q) (sym (div-add-mod' x F.n))
      ∙ worst_moved (x / F.n) (x % F.n) q (place-lt body.some x)

-- ---- the summaries of the rest of a body, from its last position back

-- one position alone
abbrev pub alone : Tables → ℕ → ℕ → Sums
alone S b q = record { average = S.average b q; lowest = S.worst b 0; mix = S.worst b q; worst = S.worst b q }

-- and what comes after it
pub stretch-front : (policy : ℕ) (S : Tables) (q b k : ℕ) → b < k → stretch_by policy S q b k ≡ joined_by policy (alone S b q) (stretch_by policy S q (suc b) k)
unfolding stretch
stretch-front policy S q b k l = by (eqb policy policy_2005)
  where
    joins : stretch S q b k ≡ joined (alone S b q) (stretch S q (suc b) k)
    joins = stretch-joined S q b b k (le_refl b) l ∙ ap (λ (x : Sums). joined x (stretch S q (suc b) k)) (stretch-one S q b)

    by : (a : Bool) → cond a (stretch_2005 S) (stretch S) q b k
        ≡ record {
          average = S.average b q + (cond a (stretch_2005 S) (stretch S) q (suc b) k).average;
          lowest = S.worst b 0 + (cond a (stretch_2005 S) (stretch S) q (suc b) k).lowest;
          mix = cond a (S.worst b q + (cond a (stretch_2005 S) (stretch S) q (suc b) k).lowest)
              (max (S.worst b q + (cond a (stretch_2005 S) (stretch S) q (suc b) k).lowest) (S.average b q + (cond a (stretch_2005 S) (stretch S) q (suc b) k).mix));
          worst = S.worst b q + (cond a (stretch_2005 S) (stretch S) q (suc b) k).worst;
        }
    by true = same (ap (λ (x : Sums). x.average) joins) (ap (λ (x : Sums). x.lowest) joins) refl (ap (λ (x : Sums). x.worst) joins)
    by false = joins

-- the last position alone
pub stretch-last : (policy : ℕ) (S : Tables) (q b : ℕ) → stretch_by policy S q b b ≡ alone S b q
unfolding stretch sum
stretch-last policy S q b = by (eqb policy policy_2005)
  where
    by : (a : Bool) → cond a (stretch_2005 S) (stretch S) q b b ≡ alone S b q
    by true = same (omega arith) (omega arith) (omega arith) (omega arith)
    by false = stretch-one S q b
