-- The actions in order, by 64-bit sets: done has the actions done so far.
use Rattle.std.specs.Prelude.{ℕ, ◌≤◌, ◌<◌, ◌≡◌, true, false, ◌⊎◌, List, length, get_or}
use Rattle.rules.specs.Numbers.{most_actions}
use Rattle.rules.specs.Image.{has}
use Rattle.rules.specs.Order.{Order, ByUrgency}
use Rattle.sets.specs.Sets.{Subset, comes_before}
pub use Rattle.order_line.specs.Line.{Lists}

-- Action a is ready: it is not done yet, and all its predecessors are.
pub record ReadyIn (n : ℕ) (masks : List ℕ) (done a : ℕ) : Type 0 where
  pub present : a < n
  pub waits : has done a ≡ false
  pub free : Subset (get_or masks a 0) done

-- Action a waits with b: neither is done, and b comes before a.
pub record WaitsWith (n : ℕ) (masks : List ℕ) (done b a : ℕ) : Type 0 where
  pub present : a < n
  pub waits : has done a ≡ false
  pub held : has done b ≡ false
  pub before : has (get_or masks a 0) b ≡ true

-- The actions that are not done are in t, those still to be looked at, or in free, where all are ready, or each waits with another: w has
-- for each action that is not done the set of those that wait with it.
pub record Parted (n : ℕ) (masks : List ℕ) (done free t : ℕ) (w : List ℕ) : Type 0 where
  pub long : length w ≡ most_actions
  pub left : (a : ℕ) → has t a ≡ true → (a < n) × (has done a ≡ false)
  pub ready : (a : ℕ) → has free a ≡ true → ReadyIn n masks done a
  pub waiting : (b a : ℕ) → has done b ≡ false → has (get_or w b 0) a ≡ true → WaitsWith n masks done b a
  pub each : (a : ℕ) → a < n → has done a ≡ false → has t a ≡ false
      → (has free a ≡ true) ⊎ ((b : ℕ) × (has done b ≡ false) × (has (get_or w b 0) a ≡ true))

-- the list has 0 after n of its entries
abbrev pub ZeroFrom : ℕ → List ℕ → Type 0
ZeroFrom n l = (k : ℕ) → n ≤ k → get_or l k 0 ≡ 0

-- The list has the actions in order by the urgencies u, and then 0.
pub record Placed (n : ℕ) (masks u l : List ℕ) : Type 0 where
  pub whole : (o : Order n) × ByUrgency n (comes_before masks) (λ a. get_or u a 0) o × Lists l o
  pub rest : ZeroFrom n l
