-- The faults of an action: what a test says of one, and the rule of the times level by level.
use mathlib.Core.Path.{◌≡◌, refl, sym, ap, ◌∙◌}
use mathlib.Core.Bool.{Bool, true, false, not, false≢true}
use mathlib.Core.List.{List}
use mathlib.Core.Logic.{◌⊎◌, inl, inr, ◌↔◌}
use Prim.Native.Nat.{ℕ, zero, suc, ◌+◌, ◌^◌, ◌≤◌, ◌<◌}
use native.Mathlib.Nat.{zero-add}
use native.Mathlib.Numerals.{add-one}
use native.Mathlib.Omega.{arith}
use lib.ListN.{get_or}
use Rattle.rules.specs.Words.{tab}
use Rattle.rules.specs.Image.{has}
use Rattle.rules.specs.Refusals.{OutOfRange, RowBreaks}
use Rattle.rules.proofs.Tests.{not-both}
use Rattle.rules.proofs.Faults.{Faultless, breaks_same}
use Rattle.sets.specs.Sets.{Below}
use Rattle.sets.proofs.Laws.{below_or_not, below-exact}
use Rattle.fields.specs.Fields.{splice}
use Rattle.fields.proofs.Written.{tab-written}
use Rattle.image_fields.specs.Faults.{row, LevelBreaks}

-- ---- a test

pub said_yes : {P : Type 0} → P → (true ≡ true) ↔ P
said_yes p = ((λ e. p), (λ q. refl))

pub said_no : {P : Type 0} → (P → ⊥) → (false ≡ true) ↔ P
said_no n = ((λ e. absurd (false≢true e)), (λ p. absurd (n p)))

-- what a test that fails says
pub denied : {P : Type 0} {b : Bool} → (b ≡ true) ↔ P → b ≡ false → P → ⊥
denied t e p = not-both (t.1 p) e

-- ---- 6

module _ (n cycle mask deadline : ℕ) (fits : mask < 2 ^ 64) (early : deadline ≤ cycle) where
  -- of an action whose deadline is in its range
  pub mask-says : (b : Bool) → (b ≡ true) ↔ Below mask n → (not b ≡ true) ↔ OutOfRange n cycle mask deadline
  mask-says true t = ((λ e. absurd (false≢true e)), back)
    where
      back : OutOfRange n cycle mask deadline → false ≡ true
      back (inl h) = absurd (omega arith)
      back (inr w) = absurd ((below-exact mask n).0 (t.0 refl) w)
  mask-says false t = ((λ e. by (below_or_not mask n fits)), (λ h. refl))
    where
      by : Below mask n ⊎ ((b : ℕ) × (n ≤ b) × (has mask b ≡ true)) → OutOfRange n cycle mask deadline
      by (inl h) = absurd (false≢true (t.1 h))
      by (inr w) = inr w

-- ---- 7

-- the time at the level before q, 0 before level 0
abbrev pub before : (ℕ → ℕ) → ℕ → ℕ
before time zero = 0
before time (suc q) = time q

pub before-next : {v : ℕ} (time : ℕ → ℕ) (q : ℕ) → v ≡ time q → v ≡ before time (q + 1)
before-next time q e = rw add-one e

module _ (average worst : ℕ → ℕ) where
  -- the times of level q break the rule
  abbrev pub Breaks : ℕ → Type 0
  Breaks q = LevelBreaks (average q) (worst q) (before average q) (before worst q)

  -- some level does exactly if the action does
  pub level-row : (L q : ℕ) → q < L → Breaks q → RowBreaks L average worst
  level-row L q l (inl h) = inl (q, l, h)
  level-row L zero l (inr (inl h)) = absurd (omega arith)
  level-row L zero l (inr (inr h)) = absurd (omega arith)
  level-row L (suc q) l (inr (inl h)) = inr (inl (q, l, h))
  level-row L (suc q) l (inr (inr h)) = inr (inr (q, l, h))

  pub row-level : (L : ℕ) → Faultless Breaks L → RowBreaks L average worst → ⊥
  row-level L sound (inl (q, l, h)) = sound q l (inl h)
  row-level L sound (inr (inl (q, l, h))) = sound (suc q) l (inr (inl h))
  row-level L sound (inr (inr (q, l, h))) = sound (suc q) l (inr (inr h))

  -- the test of the times that were read
  pub level-says : {a w a₀ w₀ : ℕ} {b : Bool} (q : ℕ) → a ≡ average q → w ≡ worst q → a₀ ≡ before average q → w₀ ≡ before worst q
      → (b ≡ true) ↔ LevelBreaks a w a₀ w₀ → (b ≡ true) ↔ Breaks q
  level-says q e f g h t = rw (← e, ← f, ← g, ← h) t

-- of the times of an action that were copied to the front of two tables
pub copied-says : {L : ℕ} (average worst : ℕ → ℕ) (x y : List ℕ) {x' y' : List ℕ} {b : Bool}
    → x' ≡ splice x 0 (tab average L) → y' ≡ splice y 0 (tab worst L)
    → (b ≡ true) ↔ RowBreaks L (row x' 0) (row y' 0) → (b ≡ true) ↔ RowBreaks L average worst
copied-says {L} average worst x y e f t = (
  (λ p. breaks_same (read average x e) (read worst y f) (t.0 p)),
  (λ h. t.1 (breaks_same (λ q l. sym (read average x e q l)) (λ q l. sym (read worst y f q l)) h)),
)
  where
    read : (time : ℕ → ℕ) (l₀ : List ℕ) {l : List ℕ} → l ≡ splice l₀ 0 (tab time L) → (q : ℕ) → q < L → row l 0 q ≡ time q
    read time l₀ {l} g q m = ap (λ (i : ℕ). get_or l i 0) (zero-add q) ∙ tab-written time l₀ L 0 g q m
