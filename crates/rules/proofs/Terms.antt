-- Sums whose terms are bounded.
use Prim.Native.Nat.{ℕ, zero, suc, ◌*◌, ◌≤◌, ◌<◌}
use native.Mathlib.Omega.{arith}
use Rattle.rules.specs.Words.{sum}

-- n terms, each at most b, come to at most n times b
pub sum-within : (n b : ℕ) (f : ℕ → ℕ) → ((p : ℕ) → p < n → f p ≤ b) → sum n f ≤ n * b
unfolding sum
sum-within zero b f h = omega arith
sum-within (suc n) b f h = omega (arith, sum-within n b f (λ p l. h p (omega arith)), h n (omega arith))
