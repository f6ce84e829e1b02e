-- Years as the programs are given them, computed. Assumes nothing.
use mathlib.Core.Path.{◌≡◌, refl}
use mathlib.Core.Bool.{true, false}
use mathlib.Core.List.{[], ◌∷◌}
use Rattle.text.specs.Words.{digits_say, only_digits, is_number}
use Rattle.arguments.specs.Year.{year_of, understood}

-- none is 2008
without : (year_of 1 1 [] ≡ 2008) × (understood 1 1 [] ≡ true)
unfolding year_of understood
without = (refl, refl)

-- 2005
earlier : (year_of 2 1 (50 ∷ 48 ∷ 48 ∷ 53 ∷ []) ≡ 2005) × (understood 2 1 (50 ∷ 48 ∷ 48 ∷ 53 ∷ []) ≡ true)
unfolding year_of understood is_number only_digits digits_say
earlier = (refl, refl)

-- 4294969301, which is 2005 more than 32 bits hold, is not taken for 2005
too_large : (year_of 2 1 (52 ∷ 50 ∷ 57 ∷ 52 ∷ 57 ∷ 54 ∷ 57 ∷ 51 ∷ 48 ∷ 49 ∷ []) ≡ 4294967295)
    × (understood 2 1 (52 ∷ 50 ∷ 57 ∷ 52 ∷ 57 ∷ 54 ∷ 57 ∷ 51 ∷ 48 ∷ 49 ∷ []) ≡ true)
unfolding year_of understood is_number only_digits digits_say
too_large = (refl, refl)

-- an argument of no byte, 2005 with a byte after it that is no digit, and 2005 with an argument after it
empty : understood 2 1 [] ≡ false
unfolding understood is_number
empty = refl

no_number : understood 2 1 (50 ∷ 48 ∷ 48 ∷ 53 ∷ 97 ∷ []) ≡ false
unfolding understood is_number only_digits
no_number = refl

one_more : understood 3 1 (50 ∷ 48 ∷ 48 ∷ 53 ∷ []) ≡ false
unfolding understood
one_more = refl
