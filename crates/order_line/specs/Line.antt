-- The actions in a line, each after its predecessors.
use Rattle.std.specs.Prelude.{ℕ, ◌<◌, ◌≡◌, Bool, true, false, List, get_or}
use Rattle.rules.specs.Order.{Order, Loop, Permitted}
use Rattle.sets.specs.Sets.{Below, comes_before}

-- each mask names lower numbers alone
abbrev pub LowerAlone : ℕ → List ℕ → Type 0
LowerAlone n masks = (a : ℕ) → a < n → Below (get_or masks a 0) a

-- the list has the actions in the order o
abbrev pub Lists : {n : ℕ} → List ℕ → Order n → Type 0
Lists {n} l o = (k : ℕ) → k < n → get_or l k 0 ≡ o.at k

-- the list has all actions in a permitted order
abbrev pub InLine : ℕ → List ℕ → List ℕ → Type 0
InLine n masks l = (o : Order n) × Permitted (comes_before masks) o × Lists l o

-- The actions are in line, unless the masks contain a loop; looped tells.
pub record Lined (n : ℕ) (masks : List ℕ) (looped : Bool) (l : List ℕ) : Type 0 where
  pub loop : looped ≡ true → Loop n (comes_before masks)
  pub whole : looped ≡ false → InLine n masks l
