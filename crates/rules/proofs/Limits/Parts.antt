-- The limits of the average sums and of the safe sums worked from the last position back: each has a row from the row after it, and the safe sums need
-- only that row's number at level 0, which is the limit there, of either policy. Assumes nothing.
use Prim.Native.Nat.{ℕ, suc, ◌+◌, ◌≤◌, ◌<◌}
use mathlib.Core.Path.{◌≡◌, subst}
use mathlib.Core.Logic.{◌↔◌}
use native.Mathlib.Nat.{le_refl, le_antisymm}
use native.Mathlib.Decide.{dec_le}
use native.Mathlib.Omega.{arith}
use lib.IntN.{ℤ, pos, ◌-ℤ◌}
use Rattle.rules.specs.Words.{sum, minZ}
use Rattle.rules.specs.Limits.{Tables, safe, average, limit, limit_of_sums, limit_2005}
use Rattle.rules.proofs.Sums.{sum_longer}
use Rattle.rules.proofs.Limits.Signed.{AtMost, at-most-min, at-most-less, settled}
use Rattle.rules.proofs.Limits.Mixed.{Sound, mixed-safe, mixed-passes}
use Rattle.rules.proofs.Limits.Rows.{later, sound-later, limit-at-most}
use Rattle.rules.proofs.Limits.Earlier.{sums-at-most, average-safe}

-- ---- of any sums that grow by x at the front

module _ (S : Tables) (c : ℕ → ℕ → ℕ → ℕ) (i q r x : ℕ) (own : c i i q ≡ x) where
  -- what position i asks of t, and what the positions after it ask of t + x
  abbrev Row : ℕ → ℕ → Type 0
  Row t b = (t + x ≤ S.deadline i + b) × ((k : ℕ) → suc i ≤ k → k < S.n → t + x + c (suc i) k r ≤ S.deadline k + b)

  row_is : ((k : ℕ) → i < k → k < S.n → c i k q ≡ x + c (suc i) k r) → i < S.n → (t b : ℕ) → AtMost t b (limit_of_sums S c i q) ↔ Row t b
  row_is after l t b = (there, back)
    where
      there : AtMost t b (limit_of_sums S c i q) → Row t b
      there h =
          let f = (sums-at-most S c t b i q l).0 h in
          (omega (arith, f i (le_refl i) l), (λ k a e. omega (arith, f k (omega arith) e, after k a e)))

      each : Row t b → (k : ℕ) → i ≤ k → k < S.n → Dec (k ≤ i) → t + c i k q ≤ S.deadline k + b
      each h k a e (yes y) = subst (λ (z : ℕ). t + c i z q ≤ S.deadline z + b) (le_antisymm a y) (omega (arith, h.0))
      each h k a e (no y) = omega (arith, h.1 k (omega arith) e, after k (omega arith) e)

      back : Row t b → AtMost t b (limit_of_sums S c i q)
      back h = (sums-at-most S c t b i q l).1 (λ k a e. each h k a e (dec_le k i))

  -- the last row
  pub sums-last : suc i ≡ S.n → limit_of_sums S c i q ≡ pos (S.deadline i) -ℤ pos x
  sums-last e = settled _ _ (λ t b. (
    (λ h. (at-most-less t b (pos (S.deadline i)) x).1 ((row t b).0 h).0),
    (λ h. (row t b).1 ((at-most-less t b (pos (S.deadline i)) x).0 h, (λ k a m. let no_such : ⊥ = omega arith in absurd no_such))),
  ))
    where
      row : (t b : ℕ) → AtMost t b (limit_of_sums S c i q) ↔ Row t b
      row = row_is (λ k a m. let no_such : ⊥ = omega arith in absurd no_such) (omega arith)

  -- a row from the row after it: the lesser of the deadline and the row after, less x
  pub sums-row : ((k : ℕ) → i < k → k < S.n → c i k q ≡ x + c (suc i) k r) → suc i < S.n
      → limit_of_sums S c i q ≡ minZ (pos (S.deadline i)) (limit_of_sums S c (suc i) r) -ℤ pos x
  sums-row after l = settled _ _ (λ t b. (there t b, back t b))
    where
      next : ℤ
      next = limit_of_sums S c (suc i) r

      there : (t b : ℕ) → AtMost t b (limit_of_sums S c i q) → AtMost t b (minZ (pos (S.deadline i)) next -ℤ pos x)
      there t b h =
          let p = (row_is after (omega arith) t b).0 h in
          (at-most-less t b (minZ (pos (S.deadline i)) next) x).1
          ((at-most-min (t + x) b (pos (S.deadline i)) next).1 (p.0, (sums-at-most S c (t + x) b (suc i) r l).1 p.1))

      back : (t b : ℕ) → AtMost t b (minZ (pos (S.deadline i)) next -ℤ pos x) → AtMost t b (limit_of_sums S c i q)
      back t b h =
          let p = (at-most-min (t + x) b (pos (S.deadline i)) next).0 ((at-most-less t b (minZ (pos (S.deadline i)) next) x).0 h) in
          (row_is after (omega arith) t b).1 (p.0, (sums-at-most S c (t + x) b (suc i) r l).0 p.1)

-- ---- the two parts

module _ (S : Tables) (i q : ℕ) where
  average-own : average S i i q ≡ S.average i q
  unfolding sum
  average-own = omega arith

  average-after : (k : ℕ) → i < k → k < S.n → average S i k q ≡ S.average i q + average S (suc i) k q
  unfolding sum
  average-after k a e = omega (arith, sum_longer (λ p. S.average p q) (suc i) (suc k) (omega arith))

  safe-own : safe S i i q ≡ S.worst i q
  safe-own = omega arith

  safe-after : (k : ℕ) → i < k → k < S.n → safe S i k q ≡ S.worst i q + safe S (suc i) k 0
  unfolding sum
  safe-after k a e = omega (arith, sum_longer (λ p. S.worst p 0) (suc (suc i)) (suc k) (omega arith))

  -- The average part: the lesser of the deadline and the row after, less the average.
  pub average-last : suc i ≡ S.n → limit_of_sums S (average S) i q ≡ pos (S.deadline i) -ℤ pos (S.average i q)
  average-last = sums-last S (average S) i q q (S.average i q) average-own

  pub average-row : suc i < S.n
      → limit_of_sums S (average S) i q ≡ minZ (pos (S.deadline i)) (limit_of_sums S (average S) (suc i) q) -ℤ pos (S.average i q)
  average-row = sums-row S (average S) i q q (S.average i q) average-own average-after

  -- The safe part: the lesser of the deadline and the safe number after at level 0, less the worst time at q.
  pub safe-last : suc i ≡ S.n → limit_of_sums S (safe S) i q ≡ pos (S.deadline i) -ℤ pos (S.worst i q)
  safe-last = sums-last S (safe S) i q 0 (S.worst i q) safe-own

  pub safe-row : suc i < S.n
      → limit_of_sums S (safe S) i q ≡ minZ (pos (S.deadline i)) (limit_of_sums S (safe S) (suc i) 0) -ℤ pos (S.worst i q)
  safe-row = sums-row S (safe S) i q 0 (S.worst i q) safe-own safe-after

  -- ---- level 0

  -- The limit of level 0 is that of the safe sums, of either policy.
  pub level_0_2005 : Sound S → i < S.n → limit_2005 S i 0 ≡ limit_of_sums S (safe S) i 0
  unfolding limit_2005
  level_0_2005 sound l = settled _ _ (λ t b. (
    (λ h. ((at-most-min t b x y).0 h).1),
    (λ h. (at-most-min t b x y).1 ((sums-at-most S (average S) t b i 0 l).1 (less t b ((sums-at-most S (safe S) t b i 0 l).0 h)), h)),
  ))
    where
      x : ℤ
      x = limit_of_sums S (average S) i 0

      y : ℤ
      y = limit_of_sums S (safe S) i 0

      less : (t b : ℕ) → ((k : ℕ) → i ≤ k → k < S.n → t + safe S i k 0 ≤ S.deadline k + b) → (k : ℕ) → i ≤ k → k < S.n → t + average S i k 0 ≤ S.deadline k + b
      less t b f k a e = omega (arith, f k a e, average-safe S sound i k a e)

  pub level_0_2008 : Sound S → i < S.n → limit S i 0 ≡ limit_of_sums S (safe S) i 0
  level_0_2008 sound l = settled _ _ (λ t b. (
    (λ h. (sums-at-most S (safe S) t b i 0 l).1
        (λ k a c. mixed-safe (later S b) (sound-later S sound b) t i 0 l sound.some_level ((limit-at-most S i 0 l t b).0 h) k a c)),
    (λ h. (limit-at-most S i 0 l t b).1
        (mixed-passes (later S b) (sound-later S sound b) t i l (λ k a c. (sums-at-most S (safe S) t b i 0 l).0 h k a c))),
  ))
