-- The year that a program's arguments say: how many there are, its own name among them, which one is to say it, and what that one is.
use Rattle.std.specs.Prelude.{ℕ, ◌+◌, Bool, true, false, cond, List, leb, ltb, Result, Ok, Err}
use Rattle.rules.specs.Numbers.{policy_2008}
use Rattle.text.specs.Words.{whole_number, is_number}

-- 2008 where there is no such argument
unfoldable pub year_of : ℕ → ℕ → List ℕ → ℕ
year_of count at word = cond (leb count at) policy_2008 (whole_number word)

-- It is understood where it is a number and the last argument.
unfoldable pub understood : ℕ → ℕ → List ℕ → Bool
understood count at word = cond (leb count at) true (cond (ltb (at + 1) count) false (is_number word))

-- the year, an error where it is not understood
abbrev pub said_year : ℕ → ℕ → List ℕ → Result ℕ ℕ
said_year count at word = cond (understood count at word) (Ok (year_of count at word)) (Err (year_of count at word))
