-- The mixed sums, and t at most the limit as a statement of ℕ. Assumes nothing.
use Prim.Native.Nat.{ℕ, zero, suc, ◌+◌, ◌-◌, ◌≤◌, ◌<◌}
use mathlib.Core.Path.{ap, subst}
use native.Mathlib.Nat.{le_refl, le_trans, le_of_eq, le_antisymm}
use native.Mathlib.Decide.{dec_le}
use native.Mathlib.Omega.{arith}
use Rattle.rules.specs.Words.{sum, span, greatest_of}
use Rattle.rules.specs.Limits.{Tables, safe, average, margin, mixed}
use Rattle.rules.specs.Demand.{Safe}
use Rattle.rules.proofs.Sums.{sum_longer, span_less}

-- t is at most limit (i, q), the least deadline (k) - mixed (i, k, q) over k from i to n - 1
abbrev pub AtMostLimit : Tables → ℕ → ℕ → ℕ → Type 0
AtMostLimit S t i q = (k : ℕ) → i ≤ k → k < S.n → t + mixed S i k q ≤ S.deadline k

-- the rule of the tables: average is at most worst, and neither falls as the level rises
pub record Sound (S : Tables) : Type 0 where
  pub some_level : 0 < S.levels
  pub ordered : (p q : ℕ) → p < S.n → q < S.levels → S.average p q ≤ S.worst p q
  pub average_rises : (p q r : ℕ) → p < S.n → q ≤ r → r < S.levels → S.average p q ≤ S.average p r
  pub worst_rises : (p q r : ℕ) → p < S.n → q ≤ r → r < S.levels → S.worst p q ≤ S.worst p r

greatest-bounds : (f : ℕ → ℕ) (i m x : ℕ) → greatest_of f i m ≤ x → (j : ℕ) → i ≤ j → j ≤ i + m → f j ≤ x
unfolding greatest_of
greatest-bounds f i zero x h j a b = subst (λ (y : ℕ). f y ≤ x) (le_antisymm a (omega arith)) h
greatest-bounds f i (suc m) x h j a b = go (dec_le j (i + m)) (greatest-bounds f i m x (omega arith) j a)
  where
    go : Dec (j ≤ i + m) → (j ≤ i + m → f j ≤ x) → f j ≤ x
    go (yes l) ih = ih l
    go (no l) ih = le_trans (le_of_eq (ap f (le_antisymm b (omega arith)))) (omega arith)

bounds-greatest : (f : ℕ → ℕ) (i m x : ℕ) → ((j : ℕ) → i ≤ j → j ≤ i + m → f j ≤ x) → greatest_of f i m ≤ x
unfolding greatest_of
bounds-greatest f i zero x h = h i (le_refl i) (omega arith)
bounds-greatest f i (suc m) x h = omega (arith, bounds-greatest f i m x (λ j a b. h j a (omega arith)), h (i + suc m) (omega arith) (le_refl _))

module _ (S : Tables) (sound : Sound S) where
  -- mixed (i, k, q) is the greatest, over j, of averages before j and the safe sum from j
  pub mixed-bounds : (i k q x : ℕ) → i ≤ k → mixed S i k q ≤ x → (j : ℕ) → i ≤ j → j ≤ k → span (λ p. S.average p q) i j + safe S j k q ≤ x
  unfolding mixed margin
  mixed-bounds i k q x l h j a b = omega (
    arith,
    greatest-bounds (λ y. safe S y k q - average S y k q) i (k - i) (margin S i k q) (le_refl _) j a (omega arith),
    sum_longer (λ p. S.average p q) i j a,
    sum_longer (λ p. S.average p q) j (suc k) (omega arith),
  )

  pub bounds-mixed : (i k q x : ℕ) → i ≤ k → k < S.n → q < S.levels → ((j : ℕ) → i ≤ j → j ≤ k → span (λ p. S.average p q) i j + safe S j k q ≤ x) → mixed S i k q ≤ x
  unfolding mixed margin sum
  bounds-mixed i k q x l r t h = omega (
    arith,
    bounds-greatest (λ y. safe S y k q - average S y k q) i (k - i) (x - average S i k q) (λ j a b. omega (
      arith,
      h j a (omega arith),
      sum_longer (λ p. S.average p q) i j a,
      sum_longer (λ p. S.average p q) j (suc k) (omega arith),
    )),
    h k l (le_refl k),
    sound.ordered k q r t,
    sum_longer (λ p. S.average p q) i k l,
  )

  pub mixed-lower : (t i : ℕ) {p q : ℕ} → p ≤ q → q < S.levels → AtMostLimit S t i q → AtMostLimit S t i p
  mixed-lower t i {p} {q} l m f k a b = omega (
    arith,
    f k a b,
    bounds-mixed i k p (mixed S i k q) a b (omega arith) (λ j c e. omega (
      arith,
      mixed-bounds i k q (mixed S i k q) a (le_refl _) j c e,
      span_less (λ x. S.average x p) (λ x. S.average x q) i j c (λ x u v. sound.average_rises x p q (omega arith) l m),
      sound.worst_rises j p q (omega arith) l m,
    )),
  )

  pub mixed-safe : (t i q : ℕ) → i < S.n → q < S.levels → AtMostLimit S t i q → Safe S t i q
  mixed-safe t i q l m f k a b = omega (arith, f k a b, mixed-bounds i k q (mixed S i k q) a (le_refl _) i (le_refl i) a)

  pub mixed-passes : (t i : ℕ) → i < S.n → Safe S t i 0 → AtMostLimit S t i 0
  unfolding sum
  mixed-passes t i l s k a b = omega (
    arith,
    s k a b,
    bounds-mixed i k 0 (safe S i k 0) a b sound.some_level (λ j c e. omega (
      arith,
      span_less (λ x. S.average x 0) (λ x. S.worst x 0) i j c (λ x u v. sound.ordered x 0 (omega arith) sound.some_level),
      sum_longer (λ x. S.worst x 0) i j c,
      sum_longer (λ x. S.worst x 0) (suc i) (suc k) (omega arith),
      sum_longer (λ x. S.worst x 0) (suc j) (suc k) (omega arith),
    )),
  )
