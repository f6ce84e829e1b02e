-- A number says its digits, a negative one its sign before them. Assumes nothing.
use Prim.Native.Nat.{ℕ, zero-le}
use mathlib.Core.Path.{◌≡◌, ap, subst}
use mathlib.Core.Bool.{false}
use mathlib.Core.List.{◌∷◌}
use lib.Dec.{T, le→leb}
use lib.IntN.{ℤ, pos, negsuc, nat_abs}
use lib.Signed.{le_z}
use Rattle.text.specs.Digits.{minus, decimal, signed}

pub as_negative : (z : ℤ) (r : ℕ) → le_z (pos 0) z ≡ false → r ≡ nat_abs z → minus ∷ decimal r ≡ signed z
as_negative (pos n) r e is = absurd (subst T e (le→leb 0 n zero-le))
as_negative (negsuc n) r e is = ap (λ (k : ℕ). minus ∷ decimal k) is
