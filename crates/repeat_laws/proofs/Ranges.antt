-- The sums of a body repeated are below 2 ^ 41 in size, and so are limits and coast bounds. Assumes nothing.
use Prim.Native.Nat.{ℕ, zero, suc, ◌+◌, ◌-◌, ◌*◌, ◌/◌, ◌%◌, ◌≤◌, ◌<◌, max}
use Rattle.rules.specs.Numbers.{most_actions, last_clock, longest_time, longest_coast, policy_2005}
use mathlib.Core.Path.{◌≡◌, ap}
use mathlib.Core.Bool.{Bool, true, false, cond}
use mathlib.Core.Logic.{inl, inr}
use native.Mathlib.Nat.{mul-le-mul_left, mul-le-mul_right}
use native.Mathlib.Decide.{dec_le}
use native.Mathlib.Omega.{arith}
use lib.Dec.{eqb}
use lib.IntN.{ℤ, pos, ◌-ℤ◌}
use lib.Signed.{mag, le_z}
use Rattle.rules.specs.Words.{span, least_of}
use Rattle.rules.specs.Image.{Profile}
use Rattle.rules.specs.Order.{Order}
use Rattle.rules.specs.Limits.{Tables, tables}
use Rattle.rules.specs.Refusals.{Count}
use Rattle.rules.proofs.Faults.{TimeOut}
use Rattle.rules.proofs.Differences.{not-above, not-below, below, take-both}
use Rattle.rules.proofs.Limits.Range.{span_cap}
use Rattle.rules.specs.Repeat.{Repeats, Sums, stretch, joined, followed, bodies, stretch_2005, stretch_by, needed_2005, rest_of, body_of, mix_from, limit_from, body_plan}
use Rattle.rules.specs.declared.Body.{Body}
use Rattle.repeat_laws.proofs.Places.{place-lt}
use Rattle.repeat_laws.proofs.Mixed.{greatest-under, turned}

-- the numbers of a stretch are at most b
pub record Within (b : ℕ) (x : Sums) : Type 0 where
  pub average : x.average ≤ b
  pub lowest : x.lowest ≤ b
  pub mix : x.mix ≤ b
  pub worst : x.worst ≤ b

-- times up to c at m positions come to at most m c
pub stretch-within : (S : Tables) (c q i k : ℕ) → i ≤ k → ((p : ℕ) → p ≤ k → S.average p q ≤ c) → ((p : ℕ) → p ≤ k → S.worst p q ≤ c)
    → ((p : ℕ) → p ≤ k → S.worst p 0 ≤ c) → Within ((suc k - i) * c) (stretch S q i k)
unfolding stretch
stretch-within S c q i k l a w w0 = record {
  average = span_cap (λ p. S.average p q) c i (suc k) (omega arith) (λ p u v. a p (omega arith));
  lowest = span_cap (λ p. S.worst p 0) c i (suc k) (omega arith) (λ p u v. w0 p (omega arith));
  mix = greatest-under (turned S q i k) i (k - i) ((suc k - i) * c) (λ j u v.
      let rows : (suc k - i) * c ≡ (j - i + 1 + (suc k - suc j)) * c =
      (let e : suc k - i ≡ j - i + 1 + (suc k - suc j) = omega arith in ap (λ (y : ℕ). y * c) e) in
      omega (
        arith,
        rows,
        span_cap (λ p. S.average p q) c i j u (λ p x y. a p (omega arith)),
        w j (omega arith),
        span_cap (λ p. S.worst p 0) c (suc j) (suc k) (omega arith) (λ p x y. w0 p (omega arith)),
      ));
  worst = span_cap (λ p. S.worst p q) c i (suc k) (omega arith) (λ p u v. w p (omega arith));
}

-- by either policy
pub stretch_by-within : (policy : ℕ) (S : Tables) (c q i k : ℕ) → i ≤ k → ((p : ℕ) → p ≤ k → S.average p q ≤ c) → ((p : ℕ) → p ≤ k → S.worst p q ≤ c)
    → ((p : ℕ) → p ≤ k → S.worst p 0 ≤ c) → Within ((suc k - i) * c) (stretch_by policy S q i k)
stretch_by-within policy S c q i k l a w w0 = by (eqb policy policy_2005)
  where
    all : Within ((suc k - i) * c) (stretch S q i k)
    all = stretch-within S c q i k l a w w0

    rows : (suc k - i) * c ≡ (1 + (suc k - suc i)) * c
    rows = let e : suc k - i ≡ 1 + (suc k - suc i) = omega arith in ap (λ (y : ℕ). y * c) e

    by : (b : Bool) → Within ((suc k - i) * c) (cond b (stretch_2005 S) (stretch S) q i k)
    by true = record {
      average = all.average;
      lowest = all.lowest;
      mix = omega (arith, rows, w i l, span_cap (λ p. S.worst p 0) c (suc i) (suc k) (omega arith) (λ p x y. w0 p (omega arith)));
      worst = all.worst;
    }
    by false = all

pub joined-within : {a b : ℕ} {x y : Sums} → Within a x → Within b y → Within (a + b) (joined x y)
joined-within h k = record {
  average = omega (arith, h.average, k.average);
  lowest = omega (arith, h.lowest, k.lowest);
  mix = omega (arith, h.mix, k.mix, h.average, k.lowest);
  worst = omega (arith, h.worst, k.worst);
}

-- some positions and then m bodies
pub followed-within : {a b : ℕ} {x y : Sums} → Within a x → Within b y → (m : ℕ) → Within (a + m * b) (followed x (bodies y m))
followed-within {a} {b} {x} {y} h k zero = record {
  average = omega (arith, h.average);
  lowest = omega (arith, h.lowest);
  mix = omega (arith, h.mix);
  worst = omega (arith, h.worst);
}
followed-within {a} {b} {x} {y} h k (suc m) = joined-within h (record {
  average = mul-le-mul_left (suc m) k.average;
  lowest = mul-le-mul_left (suc m) k.lowest;
  mix = omega (arith, k.mix, mul-le-mul_left m greater);
  worst = mul-le-mul_left (suc m) k.worst;
})
  where
    greater : max y.average y.lowest ≤ b
    greater = omega (arith, k.average, k.lowest)

-- ---- limits and coast bounds

pub difference_within : (a b m : ℕ) → a < m → b < m → mag (pos a -ℤ pos b) < m
difference_within a b m l h = go (dec_le b a)
  where
    go : Dec (b ≤ a) → mag (pos a -ℤ pos b) < m
    go (yes e) = omega (arith, ap mag (not-below a b e))
    go (no e) = omega (arith, ap mag (below a b (omega arith)))

-- Whoever wrote the summaries: where each is at most c, whatever is summed up from a position on is at most N c.
pub mix-within : (b : Body) (rest : ℕ → ℕ → Sums) (c x q : ℕ) → 0 < b.repeats → Within c (rest (x % b.n) q) → Within c (rest 0 q)
    → mix_from b rest x q ≤ b.repeats * c
unfolding mix_from
mix-within b rest c x q some own whole =
    let few : suc (b.repeats - 1 - x / b.n) ≤ b.repeats = omega arith in
    omega (arith, by (eqb b.policy policy_2005), mul-le-mul_right c few)
  where
    by : (a : Bool) → cond a (needed_2005 (rest (x % b.n) q) (rest 0 q) (b.repeats - 1 - x / b.n))
        (followed (rest (x % b.n) q) (bodies (rest 0 q) (b.repeats - 1 - x / b.n))).mix
        ≤ c + (b.repeats - 1 - x / b.n) * c
    by true = omega (arith, own.mix, own.average, mul-le-mul_left (b.repeats - 1 - x / b.n) whole.lowest, mul-le-mul_left (b.repeats - 1 - x / b.n) whole.average)
    by false = (followed-within own whole (b.repeats - 1 - x / b.n)).mix

-- So are limits and coast bounds below m in size, where the cycle is and so is N c with the worst times of a coast.
module _ (b : Body) (rest : ℕ → ℕ → Sums) (worst : ℕ → ℕ → ℕ) (m : ℕ) (cycle : b.cycle < m) where
  pub limit-sized : (x q : ℕ) → mix_from b rest x q < m → mag ((body_plan b rest worst).limit x q) < m
  limit-sized x q h = difference_within b.cycle (mix_from b rest x q) m cycle h

  pub bound-sized : (i q r : ℕ) → ((j : ℕ) → i ≤ j → j ≤ i + (r - 1) → mix_from b rest j q + span (λ p. worst (p % b.n) q) i j < m)
      → mag ((body_plan b rest worst).bound i q r) < m
  unfolding least_of
  bound-sized i q r h = least-near (λ j. limit_from b rest j q -ℤ pos (span (λ p. worst (p % b.n) q) i j)) i (r - 1) (λ j u v.
      let s : ℕ = span (λ p. worst (p % b.n) q) i j in
      let x : ℕ = mix_from b rest j q in
      omega (arith, ap mag (take-both b.cycle x s), difference_within b.cycle (x + s) m cycle (h j u v)))
    where
      least-near : (f : ℕ → ℤ) (i k : ℕ) → ((j : ℕ) → i ≤ j → j ≤ i + k → mag (f j) < m) → mag (least_of f i k) < m
      least-near f i zero near = near i (omega arith) (omega arith)
      least-near f i (suc k) near =
          by (le_z (least_of f i k) (f (i + suc k))) (least_of f i k) (f (i + suc k)) (least-near f i k (λ j u v. near j u (omega arith)))
          (near (i + suc k) (omega arith) (omega arith))
        where
          by : (c : Bool) (x y : ℤ) → mag x < m → mag y < m → mag (cond c x y) < m
          by true x y l h = l
          by false x y l h = h

-- the worst times before a position of a coast of at most 16
pub before_in : (f : ℕ → ℕ) (w i j : ℕ) → ((p : ℕ) → f p ≤ w) → i ≤ j → j ≤ i + 15 → span f i j ≤ 15 * w
before_in f w i j each some most =
    let few : j - i ≤ 15 = omega arith in
    omega (arith, span_cap f w i j some (λ p u v. each p), mul-le-mul_right w few)

-- ---- of a profile, where every time is in its range

module _ (F : Profile) (o : Order F.n) (times : TimeOut F → ⊥) where
  pub average-within : (p r : ℕ) → p < F.n → r < F.levels → F.average (o.at p) r ≤ longest_time
  average-within p r l h = not-above (λ e. times (o.at p, o.at_lt p l, (r, h, inl e)))

  pub worst-within : (p r : ℕ) → p < F.n → r < F.levels → F.worst (o.at p) r ≤ longest_time
  worst-within p r l h = not-above (λ e. times (o.at p, o.at_lt p l, (r, h, inr e)))

-- ---- and 3 is not given

module _ (F : Profile) (o : Order F.n) (counts : Count F → ⊥) (times : TimeOut F → ⊥) (q : ℕ) (m : q < F.levels) where
  few : F.n ≤ most_actions
  few = not-above (λ h. counts (inl (inr (inl h))))

  -- the rest of a body: 64 actions at most
  pub body-within : (policy i : ℕ) → i < F.n → Within 1073741760 (rest_of policy (tables F o) i q)
  body-within policy i l =
      let w = stretch_by-within policy (tables F o) longest_time q i (F.n - 1) (omega arith) (λ p h. average-within F o times p q (omega arith) m)
      (λ p h. worst-within F o times p q (omega arith) m) (λ p h. worst-within F o times p 0 (omega arith) (omega arith)) in
      let fewer : suc (F.n - 1) - i ≤ 64 = omega (arith, few) in
      let most : (suc (F.n - 1) - i) * longest_time ≤ 64 * longest_time = mul-le-mul_right longest_time fewer in
      record {
        average = omega (arith, w.average, most);
        lowest = omega (arith, w.lowest, most);
        mix = omega (arith, w.mix, most);
        worst = omega (arith, w.worst, most);
      }

-- ---- and nor is 19

module _ (F : Profile) (N : ℕ) (o : Order F.n) (counts : Count F → ⊥) (times : TimeOut F → ⊥) (repeats : Repeats F N → ⊥) (policy q : ℕ) (m : q < F.levels) where
  some : 0 < F.n
  some = not-above (λ h. counts (inl (inl h)))

  pub rest-within : (i : ℕ) → i < F.n → Within 1073741760 (rest_of policy (tables F o) i q)
  rest-within = body-within F o counts times q m policy

  -- Of the whole rest: at most 103,680 times 16,777,215, which is below 2 ^ 41. So no limit and no coast bound is the least number of 64 bits.
  pub repeated_within : (x : ℕ) → mix_from (body_of F N policy) (rest_of policy (tables F o)) x q ≤ 1739461651200
  repeated_within x =
      let n-some : 0 < N = not-above (λ h. repeats (inl (inl h))) in
      let most : N ≤ 1620 = not-above (λ h. repeats (inl (inr h))) in
      omega (
        arith,
        mix-within (body_of F N policy) (rest_of policy (tables F o)) 1073741760 x q n-some (rest-within (x % F.n) (place-lt some x)) (rest-within 0 some),
        mul-le-mul_right 1073741760 most,
      )

  short : F.cycle < 2199023255552
  short = let h : F.cycle ≤ last_clock = not-above (λ e. counts (inr (inr e))) in omega arith

  pub limit-within : (x : ℕ) → mag ((body_plan (body_of F N policy) (rest_of policy (tables F o)) (tables F o).worst).limit x q) < 2199023255552
  limit-within x = limit-sized (body_of F N policy) (rest_of policy (tables F o)) (tables F o).worst 2199023255552 short x q (omega (arith, repeated_within x))

  pub bound-within : (i r : ℕ) → 0 < r → r ≤ longest_coast
      → mag ((body_plan (body_of F N policy) (rest_of policy (tables F o)) (tables F o).worst).bound i q r) < 2199023255552
  bound-within i r any most = bound-sized (body_of F N policy) (rest_of policy (tables F o)) (tables F o).worst 2199023255552 short i q r (λ j u v. omega (
    arith,
    repeated_within j,
    before_in (λ p. F.worst (o.at (p % F.n)) q) longest_time i j (λ p. worst-within F o times (p % F.n) q (place-lt some p) m) u (omega arith),
  ))
