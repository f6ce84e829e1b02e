-- A refusal and the lines of a recording of case 1, computed. Assumes nothing.
use mathlib.Core.Path.{◌≡◌, refl}
use mathlib.Core.Bool.{false}
use mathlib.Core.List.{[], ◌∷◌}
use Rattle.text.specs.Digits.{newline, space, last_digits, decimal, line}
use Rattle.print_lines.specs.Lines.{refused_text, fault_said, fault_text, four_line}
use Rattle.print_lines.specs.Rehearse.{line_text, totals_text}

refused_9 : refused_text 9 ≡ 114 ∷ 101 ∷ 102 ∷ 117 ∷ 115 ∷ 101 ∷ 100 ∷ space ∷ 57 ∷ newline ∷ []
unfolding line decimal last_digits refused_text
refused_9 = refl

-- `refused 7 12`, and `refused 9` without an action
table-at_12 : fault_text (record { number = 7; action = 12 }) ≡
    114 ∷ 101 ∷ 102 ∷ 117 ∷ 115 ∷ 101 ∷ 100 ∷ space ∷ 55 ∷ space ∷ 49 ∷ 50 ∷ newline ∷ []
unfolding decimal last_digits fault_said fault_text
table-at_12 = refl

header-alone : fault_text (record { number = 5; action = 64 }) ≡
    114 ∷ 101 ∷ 102 ∷ 117 ∷ 115 ∷ 101 ∷ 100 ∷ space ∷ 53 ∷ space ∷ 54 ∷ 52 ∷ newline ∷ []
unfolding decimal last_digits fault_said fault_text
header-alone = refl

unfit-alone : fault_text (record { number = 9; action = 64 }) ≡ refused_text 9
unfolding line decimal last_digits refused_text fault_said fault_text
unfit-alone = refl

line_of_case_1 : line_text (record { refusal = record { number = 0 }; decisions = 3; lowest = 0; end = 18; overrun = false; late = false }) ≡
    51 ∷ space ∷ 48 ∷ space ∷ 49 ∷ 56 ∷ space ∷ 48 ∷ space ∷ 48 ∷ newline ∷ []
unfolding line decimal last_digits line_text
line_of_case_1 = refl

line_of_a_refused-frame : line_text (record { refusal = record { number = 16 }; decisions = 0; lowest = 0; end = 0; overrun = false; late = false }) ≡
    114 ∷ 101 ∷ 102 ∷ 117 ∷ 115 ∷ 101 ∷ 100 ∷ space ∷ 49 ∷ 54 ∷ newline ∷ []
unfolding line decimal last_digits refused_text line_text
line_of_a_refused-frame = refl

totals_of_case_1 : totals_text (record { frames = 1; decisions = 3; overruns = 0; lates = 0 }) ≡
    49 ∷ space ∷ 51 ∷ space ∷ 48 ∷ space ∷ 48 ∷ newline ∷ []
unfolding line decimal last_digits four_line
totals_of_case_1 = refl
