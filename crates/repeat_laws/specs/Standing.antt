-- Where an unrolled position stands, for the functions that work out its limits.
use Rattle.std.specs.Prelude.{ℕ, ◌-◌, ◌/◌, ◌%◌, ◌<◌, ◌≡◌}
use Rattle.rules.specs.Repeat.{positions}
use Rattle.rules.specs.declared.Body.{Body}

-- Unrolled position x stands at a place of its body, with so many whole bodies after it.
pub record Standing (b : Body) (x place after : ℕ) : Type 0 where
  pub present : x < positions b
  pub place_is : place ≡ x % b.n
  pub after_is : after ≡ b.repeats - 1 - x / b.n
