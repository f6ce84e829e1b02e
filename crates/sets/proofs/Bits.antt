-- What a set has, one binary digit at a time, and what the operators of u64 do to it.
use mathlib.Core.Path.{◌≡◌, refl, sym, ap, ◌∙◌}
use mathlib.Core.Bool.{Bool, false, not, ◌&&◌, ◌||◌}
use mathlib.Core.Logic.{◌⊎◌, inl, inr}
use Prim.Native.Nat.{ℕ, zero, suc, ◌+◌, ◌-◌, ◌*◌, ◌/◌, ◌%◌, ◌^◌, ◌≤◌, ◌<◌, min, max}
use native.Mathlib.Nat.{div-one, zero-div, div-eq_of_lt, lt_of_lt_of_le, pow-suc, one-mul}
use native.Mathlib.Numerals.{one-add}
use native.Mathlib.Omega.{arith}
use lib.Dec.{eqb, ltb, eqb-zero-suc, eqb-suc-zero, eqb-suc-suc}
use lib.Arith.{digits_mod}
use lib.Pow.{pow_mono, pow_pos, shr-shr, shl_exact, ones_lt}
use lib.Bits.{bit_and, bit_or, and_step, or_step, and_shr, or_shr}
use borrow.Author.Tests.{lt-ltb, le-ltb}
use Rattle.rules.specs.Words.{one_if}
use Rattle.rules.specs.Image.{has}
use Rattle.sets.specs.Sets.{One, AllBelow}
use Rattle.sets.proofs.Cases.{lt-or-le}

-- ---- a binary digit is 0 or 1

pub digit : (P : ℕ → Type 0) → P 0 → P 1 → (p : ℕ) → p < 2 → P p
digit P z o zero h = z
digit P z o (suc zero) h = o
digit P z o (suc (suc p)) h = absurd (omega arith)

digits : (P : ℕ → ℕ → Type 0) → P 0 0 → P 0 1 → P 1 0 → P 1 1 → (p q : ℕ) → p < 2 → q < 2 → P p q
digits P zz zo oz oo p q h l = digit (λ x. P x q) (digit (P 0) zz zo q l) (digit (P 1) oz oo q l) p h

-- ---- a digit at a time

pub has-low : (s : ℕ) → has s 0 ≡ eqb (s % 2) 1
unfolding has
has-low s = ap (λ (x : ℕ). eqb (x % 2) 1) (div-one s)

pub has-suc : (s b : ℕ) → has s (suc b) ≡ has (s / 2) b
unfolding has
has-suc s b = ap (λ (x : ℕ). eqb (x % 2) 1) (ap (λ (x : ℕ). s / 2 ^ x) (sym (one-add b)) ∙ sym (shr-shr s 1 b))

pub has-empty : (b : ℕ) → has 0 b ≡ false
unfolding has
has-empty b = ap (λ (x : ℕ). eqb (x % 2) 1) (zero-div (2 ^ b))

-- no member at k or above
pub has_above : (k s b : ℕ) → s < 2 ^ k → k ≤ b → has s b ≡ false
unfolding has
has_above k s b h l = ap (λ (x : ℕ). eqb (x % 2) 1) (div-eq_of_lt (lt_of_lt_of_le h (pow_mono l)))

-- the lowest digit, back from membership
pub low_digit : (s : ℕ) → one_if (has s 0) ≡ s % 2
low_digit s = ap one_if (has-low s) ∙ digit (λ p. one_if (eqb p 1) ≡ p) refl refl (s % 2) (omega arith)

-- sets with the same members are equal
pub ext : (k a b : ℕ) → a < 2 ^ k → b < 2 ^ k → ((j : ℕ) → has a j ≡ has b j) → a ≡ b
ext zero a b h l e = omega arith
ext (suc k) a b h l e =
    let small : (s : ℕ) → s < 2 ^ suc k → s / 2 < 2 ^ k = λ s q. omega (arith, pow-suc 2 k) in
    let high : a / 2 ≡ b / 2 = ext k (a / 2) (b / 2) (small a h) (small b l) (λ j. sym (has-suc a j) ∙ e (suc j) ∙ has-suc b j) in
    let low : a % 2 ≡ b % 2 = sym (low_digit a) ∙ ap one_if (e 0) ∙ low_digit b in
    omega arith

-- ---- `|` and `&`

-- `op` works digit by digit, as f; so it works member by member, as g
module _ (op f : ℕ → ℕ → ℕ) (g : Bool → Bool → Bool) (step : (a b : ℕ) → op a b ≡ op (a / 2) (b / 2) * 2 + f (a % 2) (b % 2))
    (shr : (a b k : ℕ) → op a b / 2 ^ k ≡ op (a / 2 ^ k) (b / 2 ^ k)) (small : (p q : ℕ) → p < 2 → q < 2 → f p q < 2)
    (table : (p q : ℕ) → p < 2 → q < 2 → eqb (f p q) 1 ≡ g (eqb p 1) (eqb q 1)) where
  op_low : (a b : ℕ) → eqb (op a b % 2) 1 ≡ g (eqb (a % 2) 1) (eqb (b % 2) 1)
  op_low a b =
      ap (λ (x : ℕ). eqb (x % 2) 1) (step a b)
      ∙ ap (λ (x : ℕ). eqb x 1) (digits_mod (op (a / 2) (b / 2)) {m = 2} {r = f (a % 2) (b % 2)} (small (a % 2) (b % 2) (omega arith) (omega arith)))
      ∙ table (a % 2) (b % 2) (omega arith) (omega arith)

  has_op : (a b j : ℕ) → has (op a b) j ≡ g (has a j) (has b j)
  unfolding has
  has_op a b j = ap (λ (x : ℕ). eqb (x % 2) 1) (shr a b j) ∙ op_low (a / 2 ^ j) (b / 2 ^ j)

pub has-or : (a b j : ℕ) → has (bit_or a b) j ≡ (has a j || has b j)
has-or =
    has_op bit_or max ◌||◌ or_step or_shr (λ p q h l. omega arith) (digits (λ p q. eqb (max p q) 1 ≡ (eqb p 1 || eqb q 1)) refl refl refl refl)

pub has-and : (a b j : ℕ) → has (bit_and a b) j ≡ (has a j && has b j)
has-and =
    has_op bit_and min ◌&&◌ and_step and_shr (λ p q h l. omega arith) (digits (λ p q. eqb (min p q) 1 ≡ (eqb p 1 && eqb q 1)) refl refl refl refl)

-- ---- `1u64 << b`

pub one_shl : (b : ℕ) → b < 64 → (1 * 2 ^ b) % 2 ^ 64 ≡ 2 ^ b
one_shl b h = shl_exact 1 b 64 (omega arith) (omega arith) ∙ one-mul (2 ^ b)

pub has-pow : (b j : ℕ) → has (2 ^ b) j ≡ eqb b j
has-pow zero zero = has-low 1
has-pow zero (suc j) = has-suc 1 j ∙ has-empty j ∙ sym (eqb-zero-suc j)
has-pow (suc b) zero =
    let e : 2 ^ suc b % 2 ≡ 0 = omega (arith, pow-suc 2 b) in
    has-low (2 ^ suc b) ∙ ap (λ (x : ℕ). eqb x 1) e ∙ sym (eqb-suc-zero b)
has-pow (suc b) (suc j) =
    let e : 2 ^ suc b / 2 ≡ 2 ^ b = omega (arith, pow-suc 2 b) in
    has-suc (2 ^ suc b) j ∙ ap (λ (x : ℕ). has x j) e ∙ has-pow b j ∙ sym (eqb-suc-suc b j)

pub pow-one : (b : ℕ) → One b (2 ^ b)
pow-one b = record { is = refl; each = has-pow b }

-- ---- `!s`, of k bits

pub has-not : (k s j : ℕ) → s < 2 ^ k → j < k → has ((2 ^ k - 1) - s) j ≡ not (has s j)
has-not zero s j h l = absurd (omega arith)
has-not (suc k) s zero h l =
    let e : ((2 ^ suc k - 1) - s) % 2 ≡ 1 - s % 2 = omega (arith, pow-suc 2 k) in
    has-low ((2 ^ suc k - 1) - s) ∙ ap (λ (x : ℕ). eqb x 1) e
    ∙ digit (λ p. eqb (1 - p) 1 ≡ not (eqb p 1)) refl refl (s % 2) (omega arith) ∙ ap not (sym (has-low s))
has-not (suc k) s (suc j) h l =
    let e : ((2 ^ suc k - 1) - s) / 2 ≡ (2 ^ k - 1) - s / 2 = omega (arith, pow-suc 2 k) in
    has-suc ((2 ^ suc k - 1) - s) j ∙ ap (λ (x : ℕ). has x j) e
    ∙ has-not k (s / 2) j (omega (arith, pow-suc 2 k)) (omega arith) ∙ ap not (sym (has-suc s j))

-- ---- all below k

pub has_ones : (k j : ℕ) → has (2 ^ k - 1) j ≡ ltb j k
has_ones k j = go (lt-or-le j k)
  where
    go : (j < k) ⊎ (k ≤ j) → has (2 ^ k - 1) j ≡ ltb j k
    go (inl l) =
        let e : 2 ^ k - 1 ≡ (2 ^ k - 1) - 0 = omega arith in
        ap (λ (x : ℕ). has x j) e ∙ has-not k 0 j (pow_pos k) l ∙ ap not (has-empty j) ∙ sym (lt-ltb j k l)
    go (inr l) = has_above k (2 ^ k - 1) j (ones_lt k) l ∙ sym (le-ltb j k l)

pub ones_below : (n : ℕ) → AllBelow n (2 ^ n - 1)
ones_below n = record { is = refl; each = has_ones n }
