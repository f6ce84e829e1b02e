-- Coast bounds by sixteens: those of an entry from those of the position after it, at the same level.
use Rattle.std.specs.Prelude.{ℕ, suc, ◌+◌, ◌-◌, ◌*◌, ◌<◌, ◌≡◌, true, cond, List, ◌∷◌, ltb, ℤ, pos, ◌-ℤ◌, get_or}
use Rattle.std.specs.Int.Signed.{mag, lt_z}
use Rattle.rules.specs.Numbers.{longest_coast}
use Rattle.rules.specs.Words.{minZ, tab, rows}
use Rattle.rules.specs.Limits.{Tables, absent, coast_bound}

-- those of position i, by level and length from 1 to 16
abbrev pub bounds_from : Tables → (ℕ → ℕ → ℤ) → ℕ → ℕ → List ℤ
bounds_from S limit levels i = rows (λ q k. coast_bound S limit i q (suc k)) levels longest_coast

-- ---- from the position after it

-- a bound from that of the position after it at one action less, and absent where that is
abbrev pub bound_by : ℤ → ℕ → ℤ → ℤ
bound_by limit worst after = cond (lt_z absent after) (minZ limit (after -ℤ pos worst)) absent

-- the sixteen from those of the position after it: the limit, and one more action than each of the first fifteen
abbrev pub bounds_by : ℤ → ℕ → (ℕ → ℤ) → List ℤ
bounds_by limit worst after = limit ∷ tab (λ k. bound_by limit worst (after k)) (longest_coast - 1)

-- number k of the sixteen of entry x as they stand in a table of so many entries; past the last entry all are absent
abbrev pub bound_in : List ℤ → ℕ → ℕ → ℕ → ℤ
bound_in bounds entries x k = cond (ltb x entries) (get_or bounds (x * longest_coast + k) (pos 0)) absent

-- a number of 32 bits with a sign has less than this without it
abbrev pub signed_end : ℕ
signed_end = 2147483648

-- unless `after` is absent, after - worst is such a number
abbrev pub Spares : ℕ → ℤ → Type 0
Spares worst after = lt_z absent after ≡ true → mag after + worst < signed_end
