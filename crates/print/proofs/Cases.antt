-- The worked texts of the rules, computed. Assumes nothing.
use Prim.Native.Nat.{ℕ}
use mathlib.Core.Path.{◌≡◌, refl}
use mathlib.Core.Bool.{false}
use mathlib.Core.List.{[], ◌∷◌}
use lib.IntN.{ℤ, pos}
use lib.ListN.{get_or}
use Rattle.rules.specs.Words.{cat}
use Rattle.text.specs.Digits.{newline, space, last_digits, decimal, line}
use Rattle.print.specs.Plan.{counts_line, position_line, plan_text}
use Rattle.print_lines.specs.Lines.{four_line}
use Rattle.print.specs.Dry.{dry_text}

limits_of-three : ℕ → ℕ → ℤ
limits_of-three i q = get_or (get_or ((pos 8 ∷ pos 0 ∷ []) ∷ (pos 12 ∷ pos 6 ∷ []) ∷ (pos 16 ∷ pos 12 ∷ []) ∷ []) i []) q (pos 0)

plan_of-three : plan_text 3 2 20 (λ i. i) limits_of-three ≡
    51 ∷ space ∷ 50 ∷ space ∷ 50 ∷ 48 ∷ newline
    ∷ 48 ∷ space ∷ 48 ∷ space ∷ 56 ∷ space ∷ 48 ∷ newline
    ∷ 49 ∷ space ∷ 49 ∷ space ∷ 49 ∷ 50 ∷ space ∷ 54 ∷ newline
    ∷ 50 ∷ space ∷ 50 ∷ space ∷ 49 ∷ 54 ∷ space ∷ 49 ∷ 50 ∷ newline ∷ []
unfolding cat line decimal last_digits counts_line position_line limits_of-three
plan_of-three = refl

dry_case_1 : dry_text 3 (λ i. i) (λ i. get_or (1 ∷ 1 ∷ 0 ∷ []) i 0) (λ i. 1) 3 18 false false ≡
    48 ∷ space ∷ 48 ∷ space ∷ 49 ∷ space ∷ 49 ∷ newline
    ∷ 49 ∷ space ∷ 49 ∷ space ∷ 49 ∷ space ∷ 49 ∷ newline
    ∷ 50 ∷ space ∷ 50 ∷ space ∷ 48 ∷ space ∷ 49 ∷ newline
    ∷ 51 ∷ space ∷ 49 ∷ 56 ∷ space ∷ 48 ∷ space ∷ 48 ∷ newline ∷ []
unfolding cat line decimal last_digits four_line
dry_case_1 = refl
