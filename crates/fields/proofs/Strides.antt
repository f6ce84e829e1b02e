-- Rows of one size, one after another. Assumes nothing.
use mathlib.Core.Path.{◌≡◌, ◌∙◌, ap, subst}
use Prim.Native.Nat.{ℕ, ◌+◌, ◌*◌, ◌≤◌, ◌<◌}
use native.Mathlib.Nat.{suc-mul, add-mul, mul_assoc, mul-le-mul_right}
use native.Mathlib.Numerals.{add-one}
use native.Mathlib.Omega.{arith}

-- where the row after row a starts
pub stride_more : (a size : ℕ) → (a + 1) * size ≡ a * size + size
stride_more a size = ap (λ (k : ℕ). k * size) (add-one a) ∙ suc-mul a size

-- a row of n rows ends within them
pub stride_fits : (a n size : ℕ) → a < n → a * size + size ≤ n * size
stride_fits a n size h = subst (λ (k : ℕ). k ≤ n * size) (suc-mul a size) (mul-le-mul_right size h)

-- an entry of n rows is one of them
pub cell-fits : (a n q size : ℕ) → a < n → q < size → a * size + q < n * size
cell-fits a n q size h l = omega (arith, stride_fits a n size h)

-- rows of rows: block a, row q of it
pub block_start : (a m q size : ℕ) → (a * m + q) * size ≡ a * (m * size) + q * size
block_start a m q size = add-mul (a * m) q size ∙ ap (λ (k : ℕ). k + q * size) (mul_assoc a m size)
