-- For each action the set of all that it must follow.
use Rattle.std.specs.Prelude.{ℕ, ◌<◌, ◌≡◌, true, List, length, get_or}
use Rattle.rules.specs.Numbers.{most_actions}
use Rattle.rules.specs.Image.{has}
use Rattle.sets.specs.Sets.{comes_before}

-- b must follow a, directly or through actions below k.
pub data Leads (masks : List ℕ) (k : ℕ) : ℕ → ℕ → Type 0 where
  next : {a b : ℕ} → comes_before masks a b → Leads masks k a b
  via : {a b : ℕ} (c : ℕ) → c < k → Leads masks k a c → Leads masks k c b → Leads masks k a b

-- The members of the set are the actions that b must follow, directly or through actions below k.
pub record Row (masks : List ℕ) (k b set : ℕ) : Type 0 where
  pub only : (a : ℕ) → has set a ≡ true → Leads masks k a b
  pub each : (a : ℕ) → Leads masks k a b → has set a ≡ true

-- all has such a set for each action.
pub record Rows (masks : List ℕ) (n k : ℕ) (all : List ℕ) : Type 0 where
  pub long : length all ≡ most_actions
  pub row : (b : ℕ) → b < n → Row masks k b (get_or all b 0)
