-- The limit of some sums, read by ℕ alone; the 2005 policy is a policy. Assumes nothing.
use Prim.Native.Nat.{ℕ, suc, ◌+◌, ◌-◌, ◌≤◌, ◌<◌}
use mathlib.Core.Logic.{◌↔◌}
use native.Mathlib.Omega.{arith}
use lib.IntN.{ℤ, pos, ◌-ℤ◌}
use lib.Signed.{◌≤ℤ◌}
use Rattle.rules.specs.Words.{sum, minZ}
use Rattle.rules.specs.Limits.{Tables, safe, average, limit_of_sums, limit_2005}
use Rattle.rules.specs.Demand.{Safe, Policy}
use Rattle.rules.proofs.Sums.{sum_longer, span_less}
use Rattle.rules.proofs.Limits.Signed.{AtMost, at-most-min, at-most-less, time_at-most, least_all, all_least}
use Rattle.rules.proofs.Limits.Mixed.{Sound}

-- ---- the limit of some sums

module _ (S : Tables) (c : ℕ → ℕ → ℕ → ℕ) (t b i q : ℕ) (l : i < S.n) where
  -- t - b is at most it exactly if t + c (i, k, q) is at most deadline (k) + b for every k from i to n - 1
  pub sums-at-most : AtMost t b (limit_of_sums S c i q) ↔ ((k : ℕ) → i ≤ k → k < S.n → t + c i k q ≤ S.deadline k + b)
  sums-at-most = (
    (λ h k a e. (at-most-less t b (pos (S.deadline k)) (c i k q)).0 (least_all f t b i (S.n - 1 - i) h k a (omega arith))),
    (λ h. all_least f t b i (S.n - 1 - i) (λ k a e. (at-most-less t b (pos (S.deadline k)) (c i k q)).1 (h k a (omega arith)))),
  )
    where
      f : ℕ → ℤ
      f k = pos (S.deadline k) -ℤ pos (c i k q)

-- ---- the two tests

-- t is at most the average sums' limit at position i and level q
abbrev pub Average : Tables → ℕ → ℕ → ℕ → Type 0
Average S t i q = (k : ℕ) → i ≤ k → k < S.n → t + average S i k q ≤ S.deadline k

-- t is at most limit_2005 (i, q) exactly if it passes the two tests
pub fits_2005 : (S : Tables) (t i q : ℕ) → i < S.n → (pos t ≤ℤ limit_2005 S i q) ↔ (Average S t i q × Safe S t i q)
unfolding limit_2005
fits_2005 S t i q l =
    let A = sums-at-most S (average S) t 0 i q l in
    let W = sums-at-most S (safe S) t 0 i q l in
    let M = at-most-min t 0 (limit_of_sums S (average S) i q) (limit_of_sums S (safe S) i q) in
    let T = time_at-most t (minZ (limit_of_sums S (average S) i q) (limit_of_sums S (safe S) i q)) in (
      (λ h. let p = M.0 (T.0 h) in ((λ k a e. omega (arith, A.0 p.0 k a e)), (λ k a e. omega (arith, W.0 p.1 k a e)))),
      (λ h. T.1 (M.1 (A.1 (λ k a e. omega (arith, h.0 k a e)), W.1 (λ k a e. omega (arith, h.1 k a e))))),
    )

module _ (S : Tables) (sound : Sound S) where
  pub average-lower : (t i p q : ℕ) → p ≤ q → q < S.levels → Average S t i q → Average S t i p
  average-lower t i p q l m f k a e = omega (
    arith,
    f k a e,
    span_less (λ x. S.average x p) (λ x. S.average x q) i (suc k) (omega arith) (λ x u v. sound.average_rises x p q (omega arith) l m),
  )

  pub safe-lower : (t i p q : ℕ) → p ≤ q → q < S.levels → Safe S t i q → Safe S t i p
  safe-lower t i p q l m f k a e = omega (arith, f k a e, sound.worst_rises i p q (omega arith) l m)

  -- at level 0 the average sums are at most the safe sums
  pub average-safe : (i k : ℕ) → i ≤ k → k < S.n → average S i k 0 ≤ safe S i k 0
  unfolding sum
  average-safe i k a e = omega (
    arith,
    span_less (λ x. S.average x 0) (λ x. S.worst x 0) i (suc k) (omega arith) (λ x u v. sound.ordered x 0 (omega arith) sound.some_level),
    sum_longer (λ x. S.worst x 0) (suc i) (suc k) (omega arith),
  )

  -- where the worst times fit, so do the averages
  pub safe-average : (t i : ℕ) → Safe S t i 0 → Average S t i 0
  safe-average t i s k a e = omega (arith, s k a e, average-safe i k a e)

  -- The 2005 policy is a policy.
  abbrev pub earlier_policy : Policy S
  earlier_policy = record {
    limit = limit_2005 S;
    is_safe = λ t i q l m f. ((fits_2005 S t i q l).0 f).1;
    lower = λ t i p q l a m f. let h = (fits_2005 S t i q l).0 f in (fits_2005 S t i p l).1 (average-lower t i p q a m h.0, safe-lower t i p q a m h.1);
    passes = λ t i l s. (fits_2005 S t i 0 l).1 (safe-average t i s, s);
  }
