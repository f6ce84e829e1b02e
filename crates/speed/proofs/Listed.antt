-- The times of an image by position, as the list of its actions has them. Assumes nothing.
use Prim.Native.Nat.{ℕ, ◌+◌, ◌≤◌, ◌<◌}
use mathlib.Core.List.{List}
use native.Mathlib.Omega.{arith}
use lib.ListN.{get_or}
use Rattle.rules.specs.Numbers.{longest_time}
use Rattle.rules.specs.Image.{be, average_of, worst_of, profile}
use Rattle.speed_stretch.proofs.Stretches.{Times}
use Rattle.speed.specs.Speed.{listed}

-- a list of bytes
abbrev pub Bytes : List ℕ → Type 0
Bytes s = (j : ℕ) → get_or s j 0 < 256

-- a time has 24 bits
pub listed-times : (s actions : List ℕ) (k q : ℕ) → Bytes s → Times (listed s actions) k q
unfolding profile average_of worst_of
listed-times s actions k q byte = record { average = λ p l. short _; worst = λ p l. short _; worst0 = λ p l. short _ }
  where
    short : (at : ℕ) → be s at 3 ≤ longest_time
    short at = omega (arith, byte at, byte (at + 1), byte (at + 2))
