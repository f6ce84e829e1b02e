-- What lent slices say.
use Rattle.std.specs.Prelude.{ℕ, ◌*◌, List, get_or}
use Rattle.rules.specs.Image.{Profile}

-- The profile that the slices say: n actions and one level, averages 0. The worst time of action a stands at a * stride.
abbrev pub lent_profile : ℕ → ℕ → List ℕ → List ℕ → List ℕ → ℕ → Profile
lent_profile n cycle masks deadlines worst stride = record {
  n = n;
  levels = 1;
  cycle = cycle;
  mask = λ a. get_or masks a 0;
  deadline = λ a. get_or deadlines a 0;
  average = λ a q. 0;
  worst = λ a q. get_or worst (a * stride) 0;
}
