-- Each case of the reading has its text. Assumes nothing.
use Prim.Native.Nat.{ℕ, ◌-◌, ◌<◌}
use mathlib.Core.Path.{◌≡◌, ◌∙◌}
use native.Mathlib.Nat.{pow-le-pow_right}
use native.Mathlib.Decide.{dec_lt}
use native.Mathlib.Omega.{arith}
use lib.Dec.{lit<}
use Rattle.io.specs.Digits.{IsDigitCount}
use Rattle.text.proofs.Puts.{put_as}
use Rattle.print.specs.Reading.{reading_text}
use Rattle.print.proofs.reading.put_reading.Goals as goal

-- no number of 64 bits has more than 16 digits
sixteen-digits : (k n : ℕ) → n < 18446744073709551616 → IsDigitCount 16 16 n k → k ≡ 16
sixteen-digits k n small h = few (dec_lt 16 k)
  where
    few : Dec (16 < k) → k ≡ 16
    few (no l) = omega (arith, h.0)
    few (yes l) = absurd (omega (arith, h.2 l, pow-le-pow_right {n = 16} (lit< tt) {i = 16} {j = k - 1} (omega arith)))

pub returns-in-Ratio : goal.returns-in-Ratio
unfolding reading_text
returns-in-Ratio c =
    let sixteen : c.hex-k.result ≡ 16 =
    sixteen-digits c.hex-k.result c.bits.result (omega arith) c.hex-k.ensures.len in
    rw c.in-Ratio.is
    (put_as (c.hex-k.ensures.digits ∙ rw (sixteen, c.bits.ensures)) c.put_bytes.ensures)

pub returns-in-Spent : goal.returns-in-Spent
unfolding reading_text
returns-in-Spent c =
    rw c.in-Spent.is c.put_bytes-in-Spent.ensures

pub returns-in-Refused : goal.returns-in-Refused
unfolding reading_text
returns-in-Refused c =
    rw c.in-Refused.is c.put_said.ensures
