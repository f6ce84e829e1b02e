-- No number has more than 20 digits, and one more byte with its sign. Assumes nothing.
use Prim.Native.Nat.{ℕ, zero, suc, ◌/◌, ◌%◌, ◌≤◌}
use mathlib.Core.Bool.{Bool, true, false, cond}
use mathlib.Core.List.{[], ◌∷◌, ◌++◌}
use native.Mathlib.Omega.{arith}
use lib.Dec.{ltb}
use lib.IntN.{ℤ, pos, negsuc}
use lib.ListN.{length, length-append}
use Rattle.text.specs.Digits.{digit, last_digits, decimal, signed}

at_most : (most n : ℕ) → length (last_digits most n) ≤ most
unfolding last_digits
at_most zero n = omega arith
at_most (suc most) n = by (ltb n 10) (at_most most (n / 10))
  where
    by : (t : Bool) → length (last_digits most (n / 10)) ≤ most
        → length (cond t (digit n ∷ []) (last_digits most (n / 10) ++ (digit (n % 10) ∷ []))) ≤ suc most
    by true few = omega arith
    by false few = omega (arith, few, length-append (last_digits most (n / 10)) (digit (n % 10) ∷ []))

pub decimal-length : (n : ℕ) → length (decimal n) ≤ 20
unfolding decimal
decimal-length n = at_most 20 n

pub signed-length : (z : ℤ) → length (signed z) ≤ 21
signed-length (pos n) = omega (arith, decimal-length n)
signed-length (negsuc n) = omega (arith, decimal-length (suc n))
