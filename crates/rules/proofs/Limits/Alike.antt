-- The sums up to a position depend on nothing but the times up to it, and so tables that agree have the same limits. Assumes nothing.
use Prim.Native.Nat.{ℕ, zero, suc, ◌+◌, ◌-◌, ◌≤◌, ◌<◌, max}
use mathlib.Core.Path.{◌≡◌, ap₂}
use native.Mathlib.Nat.{le_refl}
use native.Mathlib.Omega.{arith}
use lib.IntN.{ℤ, pos, ◌-ℤ◌}
use Rattle.rules.specs.Words.{greatest_of, minZ, least_of}
use Rattle.rules.specs.Limits.{Tables, safe, average, margin, mixed, limit, limit_of_sums, limit_2005}
use Rattle.rules.proofs.Sums.{span_same}

greatest-same : (f g : ℕ → ℕ) (i m : ℕ) → ((p : ℕ) → p ≤ i + m → f p ≡ g p) → greatest_of f i m ≡ greatest_of g i m
unfolding greatest_of
greatest-same f g i zero h = h i (omega arith)
greatest-same f g i (suc m) h = ap₂ max (greatest-same f g i m (λ p l. h p (omega arith))) (h (i + suc m) (le_refl _))

-- up to position k both say the same at level q, at level 0 and of the deadline
pub record Same (S T : Tables) (k q : ℕ) : Type 0 where
  pub deadline : S.deadline k ≡ T.deadline k
  pub average : (p : ℕ) → p ≤ k → S.average p q ≡ T.average p q
  pub worst : (p : ℕ) → p ≤ k → S.worst p q ≡ T.worst p q
  pub worst0 : (p : ℕ) → p ≤ k → S.worst p 0 ≡ T.worst p 0

module _ {S T : Tables} {k q : ℕ} (same : Same S T k q) where
  pub average-same : (i : ℕ) → i ≤ suc k → average S i k q ≡ average T i k q
  average-same i l = span_same (λ p. S.average p q) (λ p. T.average p q) i (suc k) l (λ p b. same.average p (omega arith))

  pub safe-same : (i : ℕ) → i ≤ k → safe S i k q ≡ safe T i k q
  safe-same i l = ap₂ (λ (x y : ℕ). x + y) (same.worst i l)
      (span_same (λ p. S.worst p 0) (λ p. T.worst p 0) (suc i) (suc k) (omega arith) (λ p b. same.worst0 p (omega arith)))

  pub margin-same : (i : ℕ) → i ≤ k → margin S i k q ≡ margin T i k q
  unfolding margin
  margin-same i l =
      greatest-same (λ p. safe S p k q - average S p k q) (λ p. safe T p k q - average T p k q) i (k - i)
      (λ p b. ap₂ (λ (x y : ℕ). x - y) (safe-same p (omega arith)) (average-same p (omega arith)))

  pub mixed-same : (i : ℕ) → i ≤ k → mixed S i k q ≡ mixed T i k q
  unfolding mixed
  mixed-same i l = ap₂ (λ (x y : ℕ). x + y) (average-same i (omega arith)) (margin-same i l)

-- ---- limits

pub least-same : (f g : ℕ → ℤ) (i m : ℕ) → ((j : ℕ) → i ≤ j → j ≤ i + m → f j ≡ g j) → least_of f i m ≡ least_of g i m
unfolding least_of
least-same f g i zero h = h i (le_refl i) (omega arith)
least-same f g i (suc m) h = ap₂ minZ (least-same f g i m (λ j a b. h j a (omega arith))) (h (i + suc m) (omega arith) (le_refl _))

-- both have n positions, and say the same at every one of them
pub record Alike (S T : Tables) (n L : ℕ) : Type 0 where
  pub n_left : S.n ≡ n
  pub n_right : T.n ≡ n
  pub some_level : 0 < L
  pub deadline : (k : ℕ) → k < n → S.deadline k ≡ T.deadline k
  pub average : (k q : ℕ) → k < n → q < L → S.average k q ≡ T.average k q
  pub worst : (k q : ℕ) → k < n → q < L → S.worst k q ≡ T.worst k q

module _ {S T : Tables} {n L : ℕ} (same : Alike S T n L) (i q : ℕ) (m : i < n) (l : q < L) where
  up_to : (k : ℕ) → k < n → Same S T k q
  up_to k h = record {
    deadline = same.deadline k h;
    average = λ p b. same.average p q (omega arith) l;
    worst = λ p b. same.worst p q (omega arith) l;
    worst0 = λ p b. same.worst p 0 (omega arith) same.some_level;
  }

  -- by any sums that are the same
  sums-alike : (c d : ℕ → ℕ → ℕ → ℕ) → ((k : ℕ) → i ≤ k → Same S T k q → c i k q ≡ d i k q) → limit_of_sums S c i q ≡ limit_of_sums T d i q
  sums-alike c d h =
      rw (same.n_left, same.n_right)
      (least-same (λ k. pos (S.deadline k) -ℤ pos (c i k q)) (λ k. pos (T.deadline k) -ℤ pos (d i k q)) i (n - 1 - i)
      (λ k a b. ap₂ (λ (x y : ℕ). pos x -ℤ pos y) (same.deadline k (omega arith)) (h k a (up_to k (omega arith)))))

  pub alike_2005 : limit_2005 S i q ≡ limit_2005 T i q
  unfolding limit_2005
  alike_2005 = ap₂ minZ
      (sums-alike (average S) (average T) (λ k a s. average-same s i (omega arith)))
      (sums-alike (safe S) (safe T) (λ k a s. safe-same s i a))

  pub alike_2008 : limit S i q ≡ limit T i q
  unfolding limit
  alike_2008 = sums-alike (mixed S) (mixed T) (λ k a s. mixed-same s i a)
