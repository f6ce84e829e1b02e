-- Order.
use Rattle.std.specs.Prelude.{ℕ, suc, ◌+◌, ◌≤◌, ◌<◌, ◌≡◌, true, ◌⊎◌}
use Rattle.rules.specs.Words.{sum, Some}
use Rattle.rules.specs.Image.{Profile, has, due}

-- An order of the actions 0 to n - 1: the action at each position and the position of each action, each undoing the other.
pub record Order (n : ℕ) : Type 0 where
  pub at : ℕ → ℕ
  pub pos : ℕ → ℕ
  pub at_lt : (k : ℕ) → k < n → at k < n
  pub pos_lt : (a : ℕ) → a < n → pos a < n
  pub pos_at : (k : ℕ) → k < n → pos (at k) ≡ k
  pub at_pos : (a : ℕ) → a < n → at (pos a) ≡ a

-- `before b a` says that b comes before a.

-- b must follow a, directly or through others.
pub data MustFollow (n : ℕ) (before : ℕ → ℕ → Type 0) : ℕ → ℕ → Type 0 where
  next : {a b : ℕ} → b < n → before a b → MustFollow n before a b
  through : {a b c : ℕ} → b < n → before a b → MustFollow n before b c → MustFollow n before a c

-- a is on a loop: it must follow itself.
abbrev pub OnLoop : ℕ → (ℕ → ℕ → Type 0) → ℕ → Type 0
OnLoop n before a = MustFollow n before a a

-- The masks contain a loop, a single action included.
abbrev pub Loop : ℕ → (ℕ → ℕ → Type 0) → Type 0
Loop n before = Some (OnLoop n before) n

-- An order is permitted when each predecessor comes earlier.
abbrev pub Permitted : {n : ℕ} → (ℕ → ℕ → Type 0) → Order n → Type 0
Permitted {n} before o = (b a : ℕ) → b < n → a < n → before b a → o.pos b < o.pos a

-- The urgency of a is the least deadline among itself and every action that must follow it.
pub record Urgency (n : ℕ) (before : ℕ → ℕ → Type 0) (D : ℕ → ℕ) (a u : ℕ) : Type 0 where
  pub own : u ≤ D a
  pub later : (b : ℕ) → MustFollow n before a b → u ≤ D b
  pub met : (u ≡ D a) ⊎ ((b : ℕ) × MustFollow n before a b × (u ≡ D b))

-- a is ready at position k: it is not done yet, and all its predecessors are.
pub record Ready (n : ℕ) (before : ℕ → ℕ → Type 0) (o : Order n) (k a : ℕ) : Type 0 where
  pub present : a < n
  pub waits : k ≤ o.pos a
  pub free : (b : ℕ) → b < n → before b a → o.pos b < k

-- Next is the ready action of least urgency; ties go to the lowest number.
pub record ByUrgency (n : ℕ) (before : ℕ → ℕ → Type 0) (U : ℕ → ℕ) (o : Order n) : Type 0 where
  pub ready : (k : ℕ) → k < n → Ready n before o k (o.at k)
  pub least : (k a : ℕ) → k < n → Ready n before o k a → U (o.at k) ≤ U a
  pub lowest : (k a : ℕ) → k < n → Ready n before o k a → U (o.at k) ≡ U a → o.at k ≤ a

-- when the action at position k ends, each starting as the one before it ends and a taking c a, counted from the first one's start
abbrev pub ends : {n : ℕ} → Order n → (ℕ → ℕ) → ℕ → ℕ
ends o c k = sum (suc k) (λ j. c (o.at j))

-- every deadline is met in a cycle begun at time t
abbrev pub Meets : {n : ℕ} → ℕ → Order n → (ℕ → ℕ) → (ℕ → ℕ) → Type 0
Meets {n} t o c D = (k : ℕ) → k < n → t + ends o c k ≤ D (o.at k)

-- ---- of a profile

-- b comes before a: the mask of a names b
abbrev pub Before : Profile → ℕ → ℕ → Type 0
Before F b a = has (F.mask a) b ≡ true

-- The order of a profile: by the urgencies of its deadlines.
pub record TheOrder (F : Profile) (o : Order F.n) : Type 0 where
  pub urgency : ℕ → ℕ
  pub urgent : (a : ℕ) → a < F.n → Urgency F.n (Before F) (due F) a (urgency a)
  pub by_urgency : ByUrgency F.n (Before F) urgency o

-- some permitted order meets all deadlines at level 0 worst times in a cycle begun at time t
abbrev pub FitFrom : ℕ → Profile → Type 0
FitFrom t F = (o : Order F.n) × Permitted (Before F) o × Meets t o (λ a. F.worst a 0) (due F)

abbrev pub Fit : Profile → Type 0
Fit F = FitFrom 0 F
