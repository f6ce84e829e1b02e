-- The margin with signed differences, as the document writes it, is that of the definitions, where a difference below 0 counts as 0.
use mathlib.Core.Path.{◌≡◌, refl, ap, ap₂, ◌∙◌, sym}
use mathlib.Core.Bool.{Bool, true, false, not, cond}
use Prim.Native.Nat.{ℕ, zero, suc, ◌+◌, ◌-◌, ◌≤◌, ◌<◌, max}
use native.Mathlib.Nat.{add-zero}
use native.Mathlib.Decide.{dec_le}
use native.Mathlib.Omega.{arith}
use lib.Dec.{T, leb, leb→le, nleb→lt}
use lib.IntN.{ℤ, pos, negsuc, ◌-ℤ◌}
use lib.Signed.{le_z}
use Rattle.rules.specs.Words.{sum, greatest_of}
use Rattle.rules.specs.Limits.{Tables, safe, average, margin}
use Rattle.rules.proofs.Differences.{not-below, below}

-- ---- as the document writes it

-- the greater of two whole numbers
abbrev pub maxZ : ℤ → ℤ → ℤ
maxZ x y = cond (le_z x y) y x

-- the greatest of f i .. f (i + m)
unfoldable pub greatest_ofZ : (ℕ → ℤ) → ℕ → ℕ → ℤ
greatest_ofZ f i zero = f i
greatest_ofZ f i (suc m) = maxZ (greatest_ofZ f i m) (f (i + suc m))

-- the greatest safe (j, k, q) - average (j, k, q) over j from i to k
unfoldable pub marginZ : Tables → ℕ → ℕ → ℕ → ℤ
marginZ S i k q = greatest_ofZ (λ j. pos (safe S j k q) -ℤ pos (average S j k q)) i (k - i)

-- ---- what is below 0 counts as 0

abbrev clip : ℤ → ℕ
clip (pos n) = n
clip (negsuc n) = 0

max-pos : (m n : ℕ) → maxZ (pos m) (pos n) ≡ pos (max m n)
max-pos m n = go (leb m n) (leb→le m n) (nleb→lt m n)
  where
    go : (b : Bool) → (T b → m ≤ n) → (T (not b) → n < m) → cond b (pos n) (pos m) ≡ pos (max m n)
    go true h k = ap pos (omega (arith, h tt))
    go false h k = ap pos (omega (arith, k tt))

clip-max : (x y : ℤ) → clip (maxZ x y) ≡ max (clip x) (clip y)
clip-max (pos m) (pos n) = ap clip (max-pos m n)
clip-max (pos m) (negsuc n) = omega arith
clip-max (negsuc m) (pos n) = omega arith
clip-max (negsuc m) (negsuc n) = go (leb n m)
  where
    go : (b : Bool) → clip (cond b (negsuc n) (negsuc m)) ≡ max 0 0
    go true = refl
    go false = refl

clip_difference : (a b : ℕ) → clip (pos a -ℤ pos b) ≡ a - b
clip_difference a b = go (dec_le b a)
  where
    go : Dec (b ≤ a) → clip (pos a -ℤ pos b) ≡ a - b
    go (yes h) = ap clip (not-below a b h)
    go (no h) = ap clip (below a b (omega arith)) ∙ omega arith

clip-greatest : (s a : ℕ → ℕ) (i m : ℕ) → clip (greatest_ofZ (λ j. pos (s j) -ℤ pos (a j)) i m) ≡ greatest_of (λ j. s j - a j) i m
unfolding greatest_ofZ greatest_of
clip-greatest s a i zero = clip_difference (s i) (a i)
clip-greatest s a i (suc m) =
    clip-max (greatest_ofZ (λ j. pos (s j) -ℤ pos (a j)) i m) (pos (s (i + suc m)) -ℤ pos (a (i + suc m)))
    ∙ ap₂ max (clip-greatest s a i m) (clip_difference (s (i + suc m)) (a (i + suc m)))

-- The greatest is not below 0 where the last is not.
max-whole : (x : ℤ) (n : ℕ) → maxZ x (pos n) ≡ pos (clip (maxZ x (pos n)))
max-whole (pos m) n = max-pos m n ∙ ap (λ (z : ℤ). pos (clip z)) (sym (max-pos m n))
max-whole (negsuc m) n = refl

greatest-whole : (f : ℕ → ℤ) (i m n : ℕ) → f (i + m) ≡ pos n → greatest_ofZ f i m ≡ pos (clip (greatest_ofZ f i m))
unfolding greatest_ofZ
greatest-whole f i zero n e = let own : f i ≡ pos n = rw add-zero at e in rw own
greatest-whole f i (suc m) n e = rw e (max-whole (greatest_ofZ f i m) n)

-- ---- the margin

-- At j = k the difference is worst - average.
last : (S : Tables) (k q : ℕ) → S.average k q ≤ S.worst k q → pos (safe S k k q) -ℤ pos (average S k k q) ≡ pos (S.worst k q - S.average k q)
unfolding sum
last S k q own = not-below (safe S k k q) (average S k k q) (omega arith) ∙ ap pos (omega arith)

pub margin-signed : (S : Tables) (i k q : ℕ) → i ≤ k → S.average k q ≤ S.worst k q → marginZ S i k q ≡ pos (margin S i k q)
unfolding marginZ margin
margin-signed S i k q h own =
    let same : i + (k - i) ≡ k = omega arith in
    greatest-whole (λ j. pos (safe S j k q) -ℤ pos (average S j k q)) i (k - i) (S.worst k q - S.average k q) (rw same (last S k q own))
    ∙ ap pos (clip-greatest (λ j. safe S j k q) (λ j. average S j k q) i (k - i))
