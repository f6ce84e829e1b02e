-- The laws of 64-bit sets.
use mathlib.Core.Path.{◌≡◌, refl, sym, ap, ◌∙◌}
use mathlib.Core.Bool.{Bool, true, false, not, ◌&&◌, ◌||◌, and-true, and-false, or-true, or-false}
use mathlib.Core.Logic.{◌⊎◌, inl, inr, ⊎_map, ◌↔◌}
use Prim.Native.Nat.{ℕ, ◌-◌, ◌^◌, ◌≤◌, ◌<◌}
use native.Mathlib.Nat.{lt_of_le_of_lt}
use native.Mathlib.Numerals.{lt_of_le_of_ne}
use native.Mathlib.Decide.{dec_le}
use native.Mathlib.Omega.{arith}
use lib.Dec.{eqb}
use lib.Pow.{pow-lt, pow_pos}
use lib.Bits.{bit_and, and_le_l, and_le_r}
use borrow.Author.Tests.{eq-eqb, ne_eqb, eqb-true, lt-ltb}
use Rattle.rules.specs.Image.{has}
use Rattle.rules.proofs.Sums.{find, both}
use Rattle.rules.proofs.Tests.{is_true?, not-both, and-true as both_true, or-true as either_true}
use Rattle.sets.specs.Sets.{Subset, Below, Lowest, Highest, With, Without, plus}
use Rattle.sets.proofs.Cases.{lt-or-le, eq-or_ne}
use Rattle.sets.proofs.Bits.{has_above, has-or, has-and, has-not, has-pow, has_ones, ext}

-- a number below 2 ^ n has members below n
pub lt-below : (n s : ℕ) → s < 2 ^ n → Below s n
lt-below n s h j p = elim (lt-or-le j n) [ inl l ↦ l | inr l ↦ absurd (not-both p (has_above n s j h l)) ]

-- ---- parts

module _ (a b : ℕ) where
  -- `a & b == a`
  pub and_subset : bit_and a b ≡ a → Subset a b
  and_subset h j p =
      let e : has a j ≡ (has a j && has b j) = ap (λ (n : ℕ). has n j) (sym h) ∙ has-and a b j in
      sym (sym p ∙ e ∙ ap (λ (x : Bool). x && has b j) p)

  pub subset_and : a < 2 ^ 64 → Subset a b → bit_and a b ≡ a
  subset_and f h = ext 64 (bit_and a b) a (lt_of_le_of_lt (and_le_l a b) f) f (λ j. has-and a b j ∙ absorb (has a j) (has b j) (h j))
    where
      absorb : (x y : Bool) → (x ≡ true → y ≡ true) → (x && y) ≡ x
      absorb true y g = g refl
      absorb false y g = refl

  -- a part is not above the whole, as a number
  pub subset_le : a < 2 ^ 64 → Subset a b → a ≤ b
  subset_le f h = omega (arith, and_le_r a b, subset_and f h)

-- ---- sets below n

-- members below n make a number below 2 ^ n
pub below-lt : (n s : ℕ) → s < 2 ^ 64 → Below s n → s < 2 ^ n
below-lt n s f h =
    omega (arith, pow_pos n, subset_le s (2 ^ n - 1) f (λ j p. has_ones n j ∙ lt-ltb j n (h j p)))

-- the members of s are below n, or one is not
pub below_or_not : (s n : ℕ) → s < 2 ^ 64 → Below s n ⊎ ((b : ℕ) × (n ≤ b) × (has s b ≡ true))
below_or_not s n f = elim (find 64 (λ b. (n ≤ b) × (has s b ≡ true)) (λ b. both (dec_le n b) (is_true? (has s b)))) [
  | inl w ↦ inr (w.0, w.2.0, w.2.1)
  | inr h ↦ inl (λ j p. elim (lt-or-le j n) [ inl l ↦ l | inr l ↦ absurd (h j (lt-below 64 s f j p) (l, p)) ])
]

-- below n exactly if no member is n or more
pub below-exact : (s n : ℕ) → Below s n ↔ (((b : ℕ) × (n ≤ b) × (has s b ≡ true)) → ⊥)
below-exact s n = (
  λ h w. omega (arith, h w.0 w.2, w.1),
  λ f j p. elim (lt-or-le j n) [ inl l ↦ l | inr l ↦ absurd (f (j, l, p)) ],
)

-- ---- the lowest member

pub lowest-le : {s b : ℕ} → Lowest s b → (j : ℕ) → has s j ≡ true → b ≤ j
lowest-le {s} {b} low j p = elim (lt-or-le j b) [ inl l ↦ absurd (not-both p (low.least j l)) | inr l ↦ l ]

-- the highest or the lowest
pub end-member : {s b : ℕ} (high : Bool) → (high ≡ true → Highest s b) × (high ≡ false → Lowest s b) → (b < 64) × (has s b ≡ true)
end-member true h = ((h.0 refl).small, (h.0 refl).member)
end-member false h = ((h.1 refl).small, (h.1 refl).member)

-- ---- `s & !t`, the members of s that t lacks

pub has-minus : (s t j : ℕ) → s < 2 ^ 64 → t < 2 ^ 64 → has (bit_and s ((2 ^ 64 - 1) - t)) j ≡ (has s j && not (has t j))
has-minus s t j f h = has-and s ((2 ^ 64 - 1) - t) j ∙ elim (lt-or-le j 64) [
  | inl l ↦ ap (λ (x : Bool). has s j && x) (has-not 64 t j h l)
  | inr l ↦ rw (has_above 64 s j f l)
]

-- ---- `s & !one(b)`

pub minus_without : (s b : ℕ) → s < 2 ^ 64 → b < 64 → Without s b (bit_and s ((2 ^ 64 - 1) - 2 ^ b))
minus_without s b f h = record {
  less = and_le_l s _;
  each = λ j. has-minus s (2 ^ b) j f (pow-lt h) ∙ ap (λ (x : Bool). has s j && not x) (has-pow b j);
}

-- r is s without b
module _ {s b r : ℕ} (w : Without s b r) where
  pub gone : has r b ≡ false
  gone = w.each b ∙ ap (λ (x : Bool). has s b && not x) (eq-eqb b b refl) ∙ and-false (has s b)

  pub kept : (j : ℕ) → (b ≡ j → ⊥) → has r j ≡ has s j
  kept j n = w.each j ∙ ap (λ (x : Bool). has s j && not x) (ne_eqb b j n) ∙ and-true (has s j)

  pub was : (j : ℕ) → has r j ≡ true → has s j ≡ true
  was j p = ((both_true (has s j) (not (eqb b j))).0 (sym (w.each j) ∙ p)).0

  pub apart : (j : ℕ) → has r j ≡ true → b ≡ j → ⊥
  apart j p e = not-both p (ap (has r) (sym e) ∙ gone)

  -- a member of s is b or one of r
  pub or-gone : (j : ℕ) → has s j ≡ true → (b ≡ j) ⊎ (has r j ≡ true)
  or-gone j p = elim (eq-or_ne b j) [ inl e ↦ inl e | inr n ↦ inr (kept j n ∙ p) ]

  -- the number falls, as a loop over the members needs
  pub falls : has s b ≡ true → r < s
  falls p = lt_of_le_of_ne w.less (λ e. not-both p (ap (λ (n : ℕ). has n b) (sym e) ∙ gone))

  -- the others are above the lowest
  pub rest-above : Lowest s b → (j : ℕ) → has r j ≡ true → b < j
  rest-above low j p = lt_of_le_of_ne (lowest-le low j (was j p)) (apart j p)

-- ---- `s | one(b)`

pub plus_with : (s b : ℕ) → With s b (plus s b)
unfolding plus
plus_with s b = record { is = refl; each = λ j. has-or s (2 ^ b) j ∙ ap (λ (x : Bool). has s j || x) (has-pow b j) }

-- r is s with b
module _ {s b r : ℕ} (w : With s b r) where
  pub added : has r b ≡ true
  added = w.each b ∙ ap (λ (x : Bool). has s b || x) (eq-eqb b b refl) ∙ or-true (has s b)

  pub stays : (j : ℕ) → has s j ≡ true → has r j ≡ true
  stays j p = w.each j ∙ ap (λ (x : Bool). x || eqb b j) p

  pub others : (j : ℕ) → (b ≡ j → ⊥) → has r j ≡ has s j
  others j n = w.each j ∙ ap (λ (x : Bool). has s j || x) (ne_eqb b j n) ∙ or-false (has s j)

  -- a member of r is one of s or b
  pub either : (j : ℕ) → has r j ≡ true → (has s j ≡ true) ⊎ (b ≡ j)
  either j p = ⊎_map (λ e. e) (eqb-true b j) ((either_true (has s j) (eqb b j)).0 (sym (w.each j) ∙ p))
