-- The lowest member of a set, the highest, and those above the lowest.
use mathlib.Core.Path.{◌≡◌, refl, sym, ap, ap₂, subst, ◌∙◌}
use mathlib.Core.Bool.{Bool, true, false, not, ◌&&◌, and-true, and_self}
use Prim.Native.Nat.{ℕ, zero, suc, ◌+◌, ◌-◌, ◌*◌, ◌/◌, ◌%◌, ◌^◌, ◌≤◌, ◌<◌}
use native.Mathlib.Nat.{pow-suc}
use native.Mathlib.Omega.{arith}
use lib.Bits.{bit_and, and_le_l}
use lib.Count.{count_trailing_zeros, under, count_leading_zeros, leading_top}
use lib.Dec.{eqb, eqb-zero-suc, eqb-suc-suc}
use lib.Pow.{high}
use Rattle.rules.specs.Words.{one_if}
use Rattle.rules.specs.Image.{has}
use Rattle.sets.specs.Sets.{Lowest, Highest, Without}
use Rattle.sets.proofs.Bits.{digit, has-low, has-suc, has-and, low_digit}
use Rattle.sets.proofs.Laws.{lt-below}

-- ---- the lowest member, `u64::trailing_zeros(s)`

abbrev IsLowest : ℕ → ℕ → ℕ → Type 0
IsLowest k s t = (t < k) × (has s t ≡ true) × ((j : ℕ) → j < t → has s j ≡ false)

lowest_even : (k s t : ℕ) → s % 2 ≡ 0 → IsLowest k (s / 2) t → IsLowest (suc k) s (suc t)
lowest_even k s t e h = (omega arith, has-suc s t ∙ h.1, none)
  where
    none : (j : ℕ) → j < suc t → has s j ≡ false
    none zero l = has-low s ∙ ap (λ (x : ℕ). eqb x 1) e
    none (suc j) l = has-suc s j ∙ h.2 j (omega arith)

lowest_odd : (k s : ℕ) → s % 2 ≡ 1 → IsLowest (suc k) s 0
lowest_odd k s e = (omega arith, has-low s ∙ ap (λ (x : ℕ). eqb x 1) e, λ j l. absurd (omega arith))

lowest_of : (k s : ℕ) → 0 < s → s < 2 ^ k → IsLowest k s (count_trailing_zeros k s)
unfolding count_trailing_zeros
lowest_of zero s p h = absurd (omega arith)
lowest_of (suc k) s p h =
    digit (λ d. s % 2 ≡ d → IsLowest (suc k) s (under d (count_trailing_zeros k (s / 2))))
    (λ e. lowest_even k s (count_trailing_zeros k (s / 2)) e (lowest_of k (s / 2) (omega arith) (omega (arith, pow-suc 2 k))))
    (λ e. lowest_odd k s e)
    (s % 2) (omega arith) refl

pub trailing_lowest : (s : ℕ) → 0 < s → s < 2 ^ 64 → Lowest s (count_trailing_zeros 64 s)
trailing_lowest s p h = let t = lowest_of 64 s p h in record { small = t.0; member = t.1; least = t.2 }

-- ---- the highest member, `63 - u64::leading_zeros(s)`

has_top : (s j : ℕ) → 2 ^ j ≤ s → s < 2 ^ suc j → has s j ≡ true
unfolding has
has_top s j l h =
    let lo : s ≡ 1 * 2 ^ j + (s - 2 ^ j) = omega arith in
    let e : s / 2 ^ j ≡ 1 = ap (λ (x : ℕ). x / 2 ^ j) lo ∙ high 1 j (omega (arith, pow-suc 2 j)) in
    ap (λ (x : ℕ). eqb (x % 2) 1) e

pub highest_is : (s : ℕ) → 0 < s → s < 2 ^ 64 → Highest s (63 - count_leading_zeros 64 s)
highest_is s p h =
    let top = leading_top 64 s p h in
    let same : top.0 ≡ 63 - count_leading_zeros 64 s = omega (arith, top.1) in
    subst (Highest s) same (record {
      small = omega (arith, top.1);
      member = has_top s top.0 top.2 top.3;
      most = λ j q. omega (arith, lt-below (suc top.0) s top.3 j q);
    })

-- ---- those above the lowest, `s & (s - 1)`

-- s - 1 lacks the lowest member b, and has the same members above it
one_less : (b s : ℕ) → has s b ≡ true → ((j : ℕ) → j < b → has s j ≡ false) → (j : ℕ) → (has s j && has (s - 1) j) ≡ (has s j && not (eqb b j))
one_less zero s p none zero =
    let even : (s - 1) % 2 ≡ 0 = omega (arith, low_digit s, ap one_if p) in
    ap (λ (x : Bool). has s 0 && x) (has-low (s - 1) ∙ ap (λ (x : ℕ). eqb x 1) even)
one_less zero s p none (suc j) =
    let half : (s - 1) / 2 ≡ s / 2 = omega (arith, low_digit s, ap one_if p) in
    ap (λ (x : Bool). has s (suc j) && x) (has-suc (s - 1) j ∙ ap (λ (x : ℕ). has x j) half ∙ sym (has-suc s j))
    ∙ and_self (has s (suc j)) ∙ sym (and-true (has s (suc j))) ∙ ap (λ (x : Bool). has s (suc j) && not x) (sym (eqb-zero-suc j))
one_less (suc b) s p none zero =
    let absent = none 0 (omega arith) in
    ap (λ (x : Bool). x && has (s - 1) 0) absent ∙ sym (ap (λ (x : Bool). x && not (eqb (suc b) 0)) absent)
one_less (suc b) s p none (suc j) =
    let half : (s - 1) / 2 ≡ s / 2 - 1 = omega (arith, low_digit s, ap one_if (none 0 (omega arith))) in
    ap₂ ◌&&◌ (has-suc s j) (has-suc (s - 1) j ∙ ap (λ (x : ℕ). has x j) half)
    ∙ one_less b (s / 2) (sym (has-suc s b) ∙ p) (λ i l. sym (has-suc s i) ∙ none (suc i) (omega arith)) j
    ∙ sym (ap₂ ◌&&◌ (has-suc s j) (ap not (eqb-suc-suc b j)))

pub above-lowest : (s b : ℕ) → Lowest s b → Without s b (bit_and s (s - 1))
above-lowest s b low = record {
  less = and_le_l s (s - 1);
  each = λ j. has-and s (s - 1) j ∙ one_less b s low.member low.least j;
}
