-- Numbers and lines as text: lists of bytes, in ASCII.
use Rattle.std.specs.Prelude.{ℕ, zero, suc, ◌+◌, ◌/◌, ◌%◌, cond, List, [], ◌∷◌, ◌++◌, ltb, ℤ, pos, negsuc}

-- ---- bytes

abbrev pub newline : ℕ
newline = 10

abbrev pub space : ℕ
space = 32

abbrev pub minus : ℕ
minus = 45

-- the digit of a number below 10
abbrev pub digit : ℕ → ℕ
digit d = 48 + d

-- ---- numbers

-- A number below 10 is its digit, any other the digits of its tens and then its last one; no more than `most` digits are written.
unfoldable pub last_digits : ℕ → ℕ → List ℕ
last_digits zero n = []
last_digits (suc most) n = cond (ltb n 10) (digit n ∷ []) (last_digits most (n / 10) ++ (digit (n % 10) ∷ []))

-- a number of 64 bits has no more digits
abbrev pub most_digits : ℕ
most_digits = 20

-- n in decimal digits, all of them where it is a number of 64 bits. The first is not 0, but that of 0.
unfoldable pub decimal : ℕ → List ℕ
decimal n = last_digits most_digits n

-- a number that may be negative: it then has a minus sign in front
abbrev pub signed : ℤ → List ℕ
signed (pos n) = decimal n
signed (negsuc n) = minus ∷ decimal (suc n)

-- ---- lines

-- words, one space between two, and a newline at the end
unfoldable pub line : List (List ℕ) → List ℕ
line [] = newline ∷ []
line (w ∷ []) = w ++ (newline ∷ [])
line (w ∷ v ∷ ws) = w ++ (space ∷ line (v ∷ ws))
