-- The fewest digits that hold a number are its decimal digits. Assumes nothing.
use Prim.Native.Nat.{ℕ, zero, suc, ◌-◌, ◌/◌, ◌%◌, ◌^◌, ◌≤◌, ◌<◌}
use mathlib.Core.Path.{◌≡◌}
use native.Mathlib.Nat.{mod-eq_of_lt, pow-suc, pow-zero, pow-le-pow_right}
use native.Mathlib.Decide.{dec_lt}
use native.Mathlib.Omega.{arith}
use lib.Dec.{lit<}
use borrow.Author.Tests.{lt-ltb, le-ltb}
use Rattle.io.specs.Digits.{last_digits as digits, hex_digit_ascii, IsDigitCount}
use Rattle.text.specs.Digits.{digit, last_digits, most_digits, decimal}

below : (j : ℕ) → j < 10 ^ j
below zero = rw pow-zero (omega arith)
below (suc j) = rw pow-suc (omega (arith, below j))

is_digit : (d : ℕ) → d < 10 → hex_digit_ascii d ≡ digit d
is_digit d h = rw (lt-ltb d 10 h)

by_last : (j most n : ℕ) → n < 10 ^ suc j → (0 < j → 10 ^ j ≤ n) → j < most → digits 10 (suc j) n ≡ last_digits most n
unfolding last_digits
by_last j zero n small least room = absurd (omega arith)
by_last zero (suc most) n small least room =
    let h : n < 10 = omega (arith, pow-suc 10 0, pow-zero 10) in
    rw (mod-eq_of_lt h, lt-ltb n 10 h)
by_last (suc j) (suc most) n small least room =
    let tens : 10 ^ suc j ≤ n = least (omega arith) in
    let more : 10 ≤ n = omega (arith, pow-suc 10 j, below j) in
    let few : n / 10 < 10 ^ suc j = omega (arith, pow-suc 10 (suc j)) in
    let last : hex_digit_ascii (n % 10) ≡ digit (n % 10) = is_digit (n % 10) (omega arith) in
    let rest = by_last j most (n / 10) few (λ l. omega (arith, pow-suc 10 j)) (omega arith) in
    rw (le-ltb n 10 more, last, rest)

pub decimal-is : (k n : ℕ) → n < 10 ^ most_digits → IsDigitCount 10 1 n k → digits 10 k n ≡ decimal n
unfolding decimal
decimal-is zero n small h = absurd (omega arith)
decimal-is (suc j) n small h = by_last j most_digits n h.1 least (few (dec_lt j most_digits))
  where
    least : 0 < j → 10 ^ j ≤ n
    least l = let e : suc j - 1 ≡ j = omega arith in rw e at (h.2 (omega arith))

    few : Dec (j < most_digits) → j < most_digits
    few (yes l) = l
    few (no l) = absurd (omega (arith, pow-le-pow_right {n = 10} (lit< tt) {i = most_digits} {j = j} (omega arith), least (omega arith)))
