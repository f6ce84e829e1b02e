-- What is asked of lent slices. What they say is `lent`, as it is for the urgencies.
use Rattle.std.specs.Prelude.{ℕ, ◌*◌, ◌≤◌, ◌<◌, List, length, get_or}
use Rattle.rules.specs.Numbers.{most_actions, longest_time}
use Rattle.sets.specs.Sets.{Below}
pub use Rattle.order_urgency.specs.Lent.{lent_profile}

-- A mask of each action is lent, and names actions below n.
pub record Masked (n : ℕ) (masks : List ℕ) : Type 0 where
  pub few : n ≤ most_actions
  pub long : n ≤ length masks
  pub below : (a : ℕ) → a < n → Below (get_or masks a 0) n

-- A deadline and a level 0 worst time of each action are lent, the times at most 16,777,215.
pub record Timed (n : ℕ) (deadlines worst : List ℕ) (stride : ℕ) : Type 0 where
  pub apart : 1 ≤ stride
  pub dues : n ≤ length deadlines
  pub times : n * stride ≤ length worst
  pub short : (a : ℕ) → a < n → get_or worst (a * stride) 0 ≤ longest_time
