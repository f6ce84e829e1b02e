-- Words of a line, and the number that a word says.
use Rattle.std.specs.Prelude.{ℕ, zero, suc, ◌+◌, ◌*◌, ◌-◌, min, Bool, true, false, cond, ◌&&◌, List, [], ◌∷◌, leb, eqb, length, drop}

-- a text from its first byte b on; nothing where it has none
unfoldable pub from_first : ℕ → List ℕ → List ℕ
from_first b [] = []
from_first b (x ∷ xs) = cond (eqb x b) (x ∷ xs) (from_first b xs)

-- what it has after that byte
abbrev pub after_first : ℕ → List ℕ → List ℕ
after_first b text = drop 1 (from_first b text)

-- a line from its word k on, counted from 0: a space, which is 32, stands between two words
unfoldable pub from_word : ℕ → List ℕ → List ℕ
from_word zero line = line
from_word (suc k) line = from_word k (after_first 32 line)

-- the number that the digits at the start of a text say after digits that say v: 48 is the digit 0, 57 the digit 9
unfoldable pub digits_say : ℕ → List ℕ → ℕ
digits_say v [] = v
digits_say v (x ∷ xs) = cond (leb 48 x && leb x 57) (digits_say (v * 10 + (x - 48)) xs) v

-- a number that is too large for 32 bits counts as the largest one that is not
abbrev pub capped : ℕ → ℕ
capped v = min 4294967295 v

-- digits and nothing else
unfoldable pub only_digits : List ℕ → Bool
only_digits [] = true
only_digits (x ∷ xs) = (leb 48 x && leb x 57) && only_digits xs

-- the number that a whole text is; 0 where it is none
abbrev pub whole_number : List ℕ → ℕ
whole_number text = cond (only_digits text) (capped (digits_say 0 text)) 0

-- whether it is one: digits, one at the least, and nothing else
unfoldable pub is_number : List ℕ → Bool
is_number text = cond (eqb (length text) 0) false (only_digits text)
