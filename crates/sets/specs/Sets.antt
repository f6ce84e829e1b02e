-- 64-bit sets of actions. Whether a set has an action is `has`, as it is for a profile's masks.
use Rattle.std.specs.Prelude.{◌≡◌, true, false, not, ◌&&◌, ◌||◌, ℕ, ◌-◌, ◌^◌, ◌<◌, ◌≤◌, List, get_or, eqb, ltb}
use Rattle.std.specs.Int.Bits.{bit_or}
use Rattle.rules.specs.Numbers.{most_actions}
use Rattle.rules.specs.Words.{sum, one_if}
use Rattle.rules.specs.Image.{has}

-- how many members of s are below k
unfoldable pub members : ℕ → ℕ → ℕ
members k s = sum k (λ j. one_if (has s j))

-- each member of a is one of b
abbrev pub Subset : ℕ → ℕ → Type 0
Subset a b = (j : ℕ) → has a j ≡ true → has b j ≡ true

-- each member of s is below n
abbrev pub Below : ℕ → ℕ → Type 0
Below s n = (j : ℕ) → has s j ≡ true → j < n

-- r is the lowest member of s
pub record Lowest (s r : ℕ) : Type 0 where
  pub small : r < most_actions
  pub member : has s r ≡ true
  pub least : (j : ℕ) → j < r → has s j ≡ false

-- r is the highest member of s
pub record Highest (s r : ℕ) : Type 0 where
  pub small : r < most_actions
  pub member : has s r ≡ true
  pub most : (j : ℕ) → has s j ≡ true → j ≤ r

-- r has b alone
pub record One (b r : ℕ) : Type 0 where
  pub is : r ≡ 2 ^ b
  pub each : (j : ℕ) → has r j ≡ eqb b j

-- r has every action below n, and no other
pub record AllBelow (n r : ℕ) : Type 0 where
  pub is : r ≡ 2 ^ n - 1
  pub each : (j : ℕ) → has r j ≡ ltb j n

-- the set s and b
unfoldable pub plus : ℕ → ℕ → ℕ
plus s b = bit_or s (2 ^ b)

-- r has the members of s, and b
pub record With (s b r : ℕ) : Type 0 where
  pub is : r ≡ plus s b
  pub each : (j : ℕ) → has r j ≡ (has s j || eqb b j)

-- r has the members of s other than b, and as a number it is not above s
pub record Without (s b r : ℕ) : Type 0 where
  pub less : r ≤ s
  pub each : (j : ℕ) → has r j ≡ (has s j && not (eqb b j))

-- ---- masks: by action the set of its predecessors

-- b comes before a: `Before` of each profile with these masks
abbrev pub comes_before : List ℕ → ℕ → ℕ → Type 0
comes_before masks b a = has (get_or masks a 0) b ≡ true
