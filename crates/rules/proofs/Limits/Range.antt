-- Limits and coast bounds fit in 32 bits with a sign, and none is the absent entry. Assumes nothing.
use Prim.Native.Nat.{ℕ, suc, ◌+◌, ◌-◌, ◌*◌, ◌≤◌, ◌<◌}
use mathlib.Core.Path.{◌≡◌, ap, ◌∙◌}
use mathlib.Core.Logic.{◌≢◌}
use native.Mathlib.Nat.{le_refl, suc-mul}
use native.Mathlib.Decide.{le_ind}
use native.Mathlib.Omega.{arith}
use borrow.Author.Tests.{le-ltb}
use lib.IntN.{ℤ, pos, negsuc, ◌-ℤ◌}
use lib.Signed.{mag}
use Rattle.rules.specs.Numbers.{last_clock, clock_end, longest_time}
use Rattle.rules.specs.Words.{sum, span, minZ, least_of}
use Rattle.rules.specs.Limits.{Tables, safe, average, mixed, limit, limit_of_sums, limit_2005, absent, coast_bound}
use Rattle.rules.proofs.Sums.{sum_longer}
use Rattle.rules.proofs.Limits.Signed.{AtMost, at-most-min, at-most-less, least_all, all_least}
use Rattle.rules.proofs.Limits.Mixed.{Sound, bounds-mixed}
use Rattle.rules.proofs.Limits.Earlier.{sums-at-most}

-- the ranges of a profile, by position
pub record Small (S : Tables) : Type 0 where
  pub few : S.n ≤ 64
  pub time : (p q : ℕ) → p < S.n → q < S.levels → S.worst p q ≤ longest_time
  pub due : (k : ℕ) → k < S.n → S.deadline k ≤ last_clock

-- a stretch of times up to c is at most c for each position
pub span_cap : (f : ℕ → ℕ) (c i j : ℕ) → i ≤ j → ((p : ℕ) → i ≤ p → p < j → f p ≤ c) → span f i j ≤ (j - i) * c
unfolding sum
span_cap f c i j l = le_ind (λ (m : ℕ). ((p : ℕ) → i ≤ p → p < m → f p ≤ c) → span f i m ≤ (m - i) * c)
    (λ h. omega arith)
    (λ m k ih h. omega (arith, ih (λ p a b. h p a (omega arith)), h m k (le_refl _), sum_longer f i m k, one_more m k)) j l
  where
    one_more : (m : ℕ) → i ≤ m → (suc m - i) * c ≡ (m - i) * c + c
    one_more m k = let e : suc m - i ≡ suc (m - i) = omega arith in ap (λ (x : ℕ). x * c) e ∙ suc-mul (m - i) c

-- ---- from -m to m - 1, as whole numbers with a sign are kept: the size of -m is m - 1

in_range : (m : ℕ) (z : ℤ) → AtMost 0 m z → (AtMost m 0 z → ⊥) → mag z < m
in_range m (pos n) lo hi = lt (λ h. hi (omega arith))
  where
    lt : (m ≤ n → ⊥) → n < m
    lt f = omega arith
in_range m (negsuc n) lo hi = omega arith

at_least : (m : ℕ) (z : ℤ) → mag z < m → AtMost 0 m z
at_least m (pos n) h = omega arith
at_least m (negsuc n) h = omega arith

not-above : (m : ℕ) (z : ℤ) → mag z < m → AtMost m 0 z → ⊥
not-above m (pos n) h e = omega arith
not-above m (negsuc n) h e = omega arith

min-range : (m : ℕ) (x y : ℤ) → mag x < m → mag y < m → mag (minZ x y) < m
min-range m x y h e = in_range m (minZ x y) ((at-most-min 0 m x y).1 (at_least m x h, at_least m y e)) (λ f. not-above m x h ((at-most-min m 0 x y).0 f).0)

-- ---- limits

-- of any sums up to 2 ^ 30
sums-range : (S : Tables) → Small S → (c : ℕ → ℕ → ℕ → ℕ) (i q : ℕ) → i < S.n → ((k : ℕ) → i ≤ k → k < S.n → c i k q ≤ clock_end)
    → mag (limit_of_sums S c i q) < clock_end
sums-range S small c i q l cap = in_range clock_end (limit_of_sums S c i q)
    ((sums-at-most S c 0 clock_end i q l).1 (λ k a e. omega (arith, cap k a e)))
    (λ h. let no_such : ⊥ = omega (arith, (sums-at-most S c clock_end 0 i q l).0 h i (le_refl i) l, small.due i l) in no_such)

module _ (S : Tables) (sound : Sound S) (small : Small S) (i q : ℕ) (l : i < S.n) (m : q < S.levels) where
  mixed_cap : (k : ℕ) → i ≤ k → k < S.n → mixed S i k q ≤ clock_end
  mixed_cap k a b = bounds-mixed S sound i k q clock_end a b m (λ x c e. omega (
    arith,
    span_cap (λ p. S.average p q) longest_time i x c (λ p u v. omega (arith, sound.ordered p q (omega arith) m, small.time p q (omega arith) m)),
    small.time x q (omega arith) m,
    span_cap (λ p. S.worst p 0) longest_time (suc x) (suc k) (omega arith) (λ p u v. small.time p 0 (omega arith) sound.some_level),
    small.few,
  ))

  average_cap : (k : ℕ) → i ≤ k → k < S.n → average S i k q ≤ clock_end
  average_cap k a e = omega (
    arith,
    span_cap (λ p. S.average p q) longest_time i (suc k) (omega arith) (λ p u v. omega (arith, sound.ordered p q (omega arith) m, small.time p q (omega arith) m)),
    small.few,
  )

  safe_cap : (k : ℕ) → i ≤ k → k < S.n → safe S i k q ≤ clock_end
  safe_cap k a e = omega (
    arith,
    small.time i q l m,
    span_cap (λ p. S.worst p 0) longest_time (suc i) (suc k) (omega arith) (λ p u v. small.time p 0 (omega arith) sound.some_level),
    small.few,
  )

  -- of the averages alone, and of either policy
  pub average-range : mag (limit_of_sums S (average S) i q) < clock_end
  average-range = sums-range S small (average S) i q l average_cap

  pub range_2005 : mag (limit_2005 S i q) < clock_end
  unfolding limit_2005
  range_2005 = min-range clock_end (limit_of_sums S (average S) i q) (limit_of_sums S (safe S) i q) average-range (sums-range S small (safe S) i q l safe_cap)

  pub range_2008 : mag (limit S i q) < clock_end
  unfolding limit
  range_2008 = sums-range S small (mixed S) i q l mixed_cap

-- ---- coast bounds, by any limits in range

pub bound-range : (S : Tables) → Small S → (limit : ℕ → ℕ → ℤ) (i q : ℕ) → q < S.levels → ((j : ℕ) → i ≤ j → j < S.n → mag (limit j q) < clock_end)
    → (r : ℕ) → 0 < r → r ≤ 16 → i + r ≤ S.n → mag (coast_bound S limit i q r) < 2147483647
unfolding coast_bound
bound-range S small limit i q m range r some most room = rw (le-ltb (S.n - i) r (omega arith)) (in_range 2147483647 (least_of f i (r - 1)) low high)
  where
    f : ℕ → ℤ
    f j = limit j q -ℤ pos (span (λ p. S.worst p q) i j)

    lower : (j : ℕ) → i ≤ j → j ≤ i + (r - 1) → (z : ℤ) → mag z < clock_end → AtMost (0 + span (λ p. S.worst p q) i j) 2147483647 z
    lower j a b (pos n) h = omega (arith, span_cap (λ p. S.worst p q) longest_time i j a (λ p u v. small.time p q (omega arith) m))
    lower j a b (negsuc n) h = omega (arith, span_cap (λ p. S.worst p q) longest_time i j a (λ p u v. small.time p q (omega arith) m))

    low : AtMost 0 2147483647 (least_of f i (r - 1))
    low = all_least f 0 2147483647 i (r - 1) (λ j a b. (at-most-less 0 2147483647 (limit j q) (span (λ p. S.worst p q) i j)).1
        (lower j a b (limit j q) (range j a (omega arith))))

    upper : (z : ℤ) → mag z < clock_end → AtMost (2147483647 + span (λ p. S.worst p q) i i) 0 z → ⊥
    upper (pos n) h e = omega arith
    upper (negsuc n) h e = omega arith

    high : AtMost 2147483647 0 (least_of f i (r - 1)) → ⊥
    high h = upper (limit i q) (range i (le_refl i) (omega arith))
        ((at-most-less 2147483647 0 (limit i q) (span (λ p. S.worst p q) i i)).0 (least_all f 2147483647 0 i (r - 1) h i (le_refl i) (omega arith)))

-- what is in such a range is not the absent entry
pub not-absent : (z : ℤ) → mag z < 2147483647 → z ≢ absent
not-absent z h e = omega (arith, ap mag e)
