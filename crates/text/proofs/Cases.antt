-- Numbers and a line as text, computed. Assumes nothing.
use mathlib.Core.Path.{◌≡◌, refl}
use mathlib.Core.List.{[], ◌∷◌}
use lib.IntN.{pos, negsuc}
use Rattle.text.specs.Digits.{minus, newline, space, last_digits, decimal, signed, line}

-- 0, 7, 10, 1073741823
zero_is : decimal 0 ≡ 48 ∷ []
unfolding decimal last_digits
zero_is = refl

seven_is : decimal 7 ≡ 55 ∷ []
unfolding decimal last_digits
seven_is = refl

ten_is : decimal 10 ≡ 49 ∷ 48 ∷ []
unfolding decimal last_digits
ten_is = refl

last_clock-is : decimal 1073741823 ≡ 49 ∷ 48 ∷ 55 ∷ 51 ∷ 55 ∷ 52 ∷ 49 ∷ 56 ∷ 50 ∷ 51 ∷ []
unfolding decimal last_digits
last_clock-is = refl

-- 0 and -43 with their signs
no_minus : signed (pos 0) ≡ 48 ∷ []
unfolding decimal last_digits
no_minus = refl

one-minus : signed (negsuc 42) ≡ minus ∷ 52 ∷ 51 ∷ []
unfolding decimal last_digits
one-minus = refl

-- 3 2 20
three-words : line (decimal 3 ∷ decimal 2 ∷ decimal 20 ∷ []) ≡ 51 ∷ space ∷ 50 ∷ space ∷ 50 ∷ 48 ∷ newline ∷ []
unfolding line decimal last_digits
three-words = refl
