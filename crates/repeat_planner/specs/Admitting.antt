-- What is asked between the functions that plan a body.
use Rattle.std.specs.Prelude.{ℕ, ◌≡◌, List}
use Rattle.rules.specs.Image.{profile}
use Rattle.rules.specs.Refusals.{First, loop_checks}

-- 1 to 8 are not given of the image s, whose header says n, L and the cycle
pub record Passed (s : List ℕ) (n L cycle : ℕ) : Type 0 where
  pub none : First (loop_checks s) 0
  pub n_is : n ≡ (profile s).n
  pub levels_are : L ≡ (profile s).levels
  pub cycle_is : cycle ≡ (profile s).cycle
