-- Speed reading.
use Rattle.std.specs.Prelude.{ℕ, zero, suc, ◌≤◌, ◌<◌, Bool, false, List, [], ◌∷◌, ◌++◌, ◌⊎◌, ℤ, pos, negsuc, ◌-ℤ◌, Float}
use Rattle.std.specs.Float.Ieee as Ieee
use Rattle.std.specs.Float.{binary64, fin}
use Rattle.rules.specs.Numbers.{last_clock, refused_clock, refused_reading}
use Rattle.rules.specs.Image.{profile}
use Rattle.rules.specs.Limits.{Tables, average, margin}
use Rattle.rules.specs.Refusals.{Ground, ◌when◌, image_checks}

pub data Reading : Type 0 where
  ratio : Float → Reading
  spent : Reading

-- one 64-bit float division of two whole numbers
unfoldable pub quotient : ℕ → ℕ → Float
quotient a b = Ieee.div binary64 (Ieee.of_int binary64 (pos a)) (Ieee.of_int binary64 (pos b))

-- room = deadline (k) - margin (i, k, q) - t
unfoldable pub room : Tables → ℕ → ℕ → ℕ → ℕ → ℤ
room S i k q t = pos (S.deadline k) -ℤ pos (margin S i k q) -ℤ pos t

-- If room is above 0 the reading is the ratio average / room; otherwise it is spent.
unfoldable pub reading_by : ℕ → ℤ → Reading
reading_by a (pos zero) = spent
reading_by a (pos (suc m)) = ratio (quotient a (suc m))
reading_by a (negsuc m) = spent

unfoldable pub reading : Tables → ℕ → ℕ → ℕ → ℕ → Reading
reading S i k q t = reading_by (average S i k q) (room S i k q t)

-- the float 1, and whether a ratio is at most 1
abbrev pub one : Float
one = fin false 1 (pos 0)

abbrev pub at_most_one : Float → Bool
at_most_one x = Ieee.le x one

-- The image's refusals, then 18: first position above last, or a position or level absent; then 13: the clock limit.
abbrev pub speed_call : List ℕ → ℕ → ℕ → ℕ → ℕ → List Ground
speed_call s i k q t =
    image_checks s
    ++ (refused_reading when ((k < i) ⊎ (((profile s).n ≤ k) ⊎ ((profile s).levels ≤ q)))
    ∷ refused_clock when (last_clock < t)
    ∷ [])
