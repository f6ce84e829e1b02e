-- The words that the other files use: sums, the least and the greatest of some numbers, tables row by row, the first test that holds.
use Rattle.std.specs.Prelude.{ℕ, zero, suc, ◌+◌, ◌-◌, ◌<◌, max, Bool, true, cond, ◌&&◌, List, [], ◌∷◌, ◌++◌, ℤ}
use Rattle.std.specs.Int.Signed.{le_z}

-- ---- sums

-- f 0 + .. + f (n - 1)
unfoldable pub sum : ℕ → (ℕ → ℕ) → ℕ
sum zero f = 0
sum (suc n) f = sum n f + f n

-- f i + .. + f (k - 1): the first k terms less the first i
abbrev pub span : (ℕ → ℕ) → ℕ → ℕ → ℕ
span f i k = sum k f - sum i f

-- ---- the greatest and the least

-- the greatest of f i .. f (i + m)
unfoldable pub greatest_of : (ℕ → ℕ) → ℕ → ℕ → ℕ
greatest_of f i zero = f i
greatest_of f i (suc m) = max (greatest_of f i m) (f (i + suc m))

-- the lesser of two whole numbers
abbrev pub minZ : ℤ → ℤ → ℤ
minZ x y = cond (le_z x y) x y

-- and the greater
abbrev pub maxZ : ℤ → ℤ → ℤ
maxZ x y = cond (le_z x y) y x

-- the least of f i .. f (i + m)
unfoldable pub least_of : (ℕ → ℤ) → ℕ → ℕ → ℤ
least_of f i zero = f i
least_of f i (suc m) = minZ (least_of f i m) (f (i + suc m))

-- the greatest number below m that passes the test; if there is none, 0
unfoldable pub last_passing : (ℕ → Bool) → ℕ → ℕ
last_passing test zero = 0
last_passing test (suc m) = cond (test m) m (last_passing test m)

-- every number below m passes the test
unfoldable pub all_pass : (ℕ → Bool) → ℕ → Bool
all_pass test zero = true
all_pass test (suc m) = all_pass test m && test m

-- every test of a list passes
unfoldable pub every : List Bool → Bool
every [] = true
every (b ∷ bs) = b && every bs

-- some number below n has the property
abbrev pub Some : (ℕ → Type 0) → ℕ → Type 0
Some P n = (a : ℕ) × (a < n) × P a

-- 1 for yes, 0 for no
abbrev pub one_if : Bool → ℕ
one_if b = cond b 1 0

-- ---- tables

-- f 0, then f 1, .. then f (n - 1), one after another
unfoldable pub cat {ℓ} : {A : Type ℓ} → (ℕ → List A) → ℕ → List A
cat f zero = []
cat f (suc n) = cat f n ++ f n

-- the list f 0, f 1, .. f (n - 1)
abbrev pub tab {ℓ} : {A : Type ℓ} → (ℕ → A) → ℕ → List A
tab f n = cat (λ i. f i ∷ []) n

-- n by m entries row by row, the last index fastest
abbrev pub rows {ℓ} : {A : Type ℓ} → (ℕ → ℕ → A) → ℕ → ℕ → List A
rows f n m = cat (λ i. tab (f i) m) n
