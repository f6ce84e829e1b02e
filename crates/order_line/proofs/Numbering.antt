-- The line of the numbers, and tests of all actions in one number.
use mathlib.Core.Path.{◌≡◌, refl, ap, ap₂}
use mathlib.Core.Bool.{false}
use mathlib.Core.Logic.{◌↔◌}
use mathlib.Core.List.{List}
use Prim.Native.Nat.{ℕ, ◌+◌, ◌*◌, ◌/◌, ◌^◌, ◌<◌}
use native.Mathlib.Nat.{div-eq_of_lt, lt-div-mul-add}
use native.Mathlib.Omega.{arith}
use borrow.Author.Count.{below_more}
use lib.Bits.{bit_or, or_add_and, and_le_l, and_le_r}
use lib.ListN.{get_or}
use lib.Pow.{pow_pos}
use Rattle.rules.specs.Order.{Order}
use Rattle.rules.proofs.Tests.{not-both}
use Rattle.sets.specs.Sets.{Below}
use Rattle.sets.proofs.Laws.{lt-below, below-lt}
use Rattle.order_line.specs.Line.{LowerAlone, Lined}

-- ---- tests

none_of : (x y : ℕ) → (bit_or x y ≡ 0) ↔ ((x ≡ 0) × (y ≡ 0))
none_of x y = (
  λ e. (omega (arith, or_add_and x y, and_le_l x y, and_le_r x y), omega (arith, or_add_and x y, and_le_l x y, and_le_r x y)),
  λ p. ap₂ bit_or p.0 p.1,
)

-- odd is 0 exactly if the first k pass
module _ (Passes : ℕ → Type 0) where
  abbrev pub Tested : ℕ → ℕ → Type 0
  Tested k odd = (odd ≡ 0) ↔ ((a : ℕ) → a < k → Passes a)

  pub tested-none : Tested 0 0
  tested-none = (λ e a l. absurd (omega arith), λ h. refl)

  pub tested-more : (k odd x : ℕ) → (x ≡ 0) ↔ Passes k → Tested k odd → Tested (k + 1) (bit_or odd x)
  tested-more k odd x here g = (
    λ e. let p = (none_of odd x).0 e in below_more Passes k (g.0 p.0) (here.0 p.1),
    λ h. (none_of odd x).1 (g.1 (λ a l. h a (omega arith)), here.1 (h k (omega arith))),
  )

-- `mask >> a` is 0
pub lower-exact : (mask a : ℕ) → mask < 2 ^ 64 → (mask / 2 ^ a ≡ 0) ↔ Below mask a
lower-exact mask a h = (
  λ e. lt-below a mask (omega (arith, lt-div-mul-add {a = mask} (pow_pos a), ap (λ (x : ℕ). x * 2 ^ a) e)),
  λ low. div-eq_of_lt (below-lt a mask h low),
)

-- ---- the line

unfoldable pub identity : (n : ℕ) → Order n
identity n = record {
  at = λ k. k;
  pos = λ a. a;
  at_lt = λ k l. l;
  pos_lt = λ a l. l;
  pos_at = λ k l. refl;
  at_pos = λ a l. refl;
}

pub lined_numbers : {n : ℕ} {masks l : List ℕ} → LowerAlone n masks → ((k : ℕ) → k < n → get_or l k 0 ≡ k) → Lined n masks false l
unfolding identity
lined_numbers {n} lower listed = record {
  loop = λ e. absurd (not-both e refl);
  whole = λ e. (identity n, (λ b a l m h. lower a m b h), listed);
}
