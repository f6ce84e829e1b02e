-- A speed reading as text: the 64 bits of the ratio in 16 hexadecimal digits, `spent`, or the refusal as the programs say it.
use Rattle.std.specs.Prelude.{ℕ, cond, List, [], ◌∷◌, Float}
use Rattle.std.specs.Float.{binary64}
use Rattle.std.specs.Float.Ieee.{le, of_bits, to_bits}
use Rattle.io.specs.Digits.{last_digits}
use Rattle.speed_stretch.specs.declared.Reading.{Reading}
use Rattle.speed_stretch.specs.declared.Reading.TheVariants.{Ratio, Spent, Refused}
use Rattle.print_lines.specs.Lines.{fault_said}

-- The bits of a ratio. None is below 0: what is has bits that no ratio has, all of them ones.
unfoldable pub ratio_bits : Float → ℕ
ratio_bits x = cond (le (of_bits binary64 0) x) (to_bits binary64 x) 18446744073709551615

-- `spent`
abbrev pub spent : List ℕ
spent = 115 ∷ 112 ∷ 101 ∷ 110 ∷ 116 ∷ []

unfoldable pub reading_text : Reading → List ℕ
reading_text (Ratio x) = last_digits 16 16 (ratio_bits x)
reading_text Spent = spent
reading_text (Refused refusal) = fault_said refusal
