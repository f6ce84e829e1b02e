-- The lines that the programs share.
use Rattle.std.specs.Prelude.{ℕ, cond, List, [], ◌∷◌, ◌++◌, ltb}
use Rattle.rules.specs.Numbers.{refused_spare, refused_loop}
use Rattle.rules.specs.declared.Fault.{Fault}
use Rattle.text.specs.Digits.{newline, space, decimal, line}

-- What is printed where an image, durations or a frame is refused: `refused`
abbrev pub refused : List ℕ
refused = 114 ∷ 101 ∷ 102 ∷ 117 ∷ 115 ∷ 101 ∷ 100 ∷ []

-- It is one line, with the number.
unfoldable pub refused_text : ℕ → List ℕ
refused_text number = line (refused ∷ decimal number ∷ [])

-- Where an image is refused, the action at fault stands after the number if that is 5, 6, 7 or 8.
abbrev numbered : ℕ → List ℕ
numbered k = refused ++ (space ∷ decimal k)

unfoldable pub fault_said : Fault → List ℕ
fault_said f =
    cond (ltb f.number refused_spare) (numbered f.number)
    (cond (ltb refused_loop f.number) (numbered f.number)
    (numbered f.number ++ (space ∷ decimal f.action)))

unfoldable pub fault_text : Fault → List ℕ
fault_text f = fault_said f ++ (newline ∷ [])

-- a line of four numbers
unfoldable pub four_line : ℕ → ℕ → ℕ → ℕ → List ℕ
four_line a b c d = line (decimal a ∷ decimal b ∷ decimal c ∷ decimal d ∷ [])
