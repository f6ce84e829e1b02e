-- Differences of whole numbers: their sign, and tests of order that are equal.
use mathlib.Core.Path.{◌≡◌, refl, ap, ◌∙◌, sym}
use mathlib.Core.Bool.{Bool, true, false, not, cond}
use Prim.Native.Nat.{ℕ, zero, suc, ◌+◌, ◌-◌, ◌≤◌, ◌<◌, zero-le}
use native.Mathlib.Omega.{arith}
use borrow.Author.Tests.{lt-ltb, le-ltb, lt-leb}
use lib.Dec.{T, leb, ltb, leb→le, le→leb, ltb→lt, nltb→le}
use lib.IntN.{ℤ, pos, negsuc, neg_ℤ, sub_ℕ, ◌+ℤ◌, ◌-ℤ◌, +ℤ_assoc, neg_ℤ-+ℤ}
use lib.Signed.{le_z}

-- a difference by its sign
pub difference : (a b : ℕ) → pos a -ℤ pos b ≡ sub_ℕ a b
difference a zero = rw (le-ltb a 0 zero-le) (ap pos (omega arith))
difference a (suc b) = refl

-- not below 0
pub not-below : (a b : ℕ) → b ≤ a → pos a -ℤ pos b ≡ pos (a - b)
not-below a b h = difference a b ∙ rw (le-ltb a b h)

-- below 0
pub below : (a b : ℕ) → a < b → pos a -ℤ pos b ≡ negsuc (b - suc a)
below a b h = difference a b ∙ rw (lt-ltb a b h)

-- to take away twice is to take away the sum
pub take-both : (a b c : ℕ) → pos a -ℤ pos b -ℤ pos c ≡ pos a -ℤ pos (b + c)
take-both a b c = +ℤ_assoc (pos a) (neg_ℤ (pos b)) (neg_ℤ (pos c)) ∙ ap (λ (z : ℤ). pos a +ℤ z) (sym (neg_ℤ-+ℤ (pos b) (pos c)))

-- what is not above a number is at most that number
pub not-above : {a b : ℕ} → (b < a → ⊥) → a ≤ b
not-above h = omega arith

-- two tests that imply one another are equal
pub same-leb : (a b c d : ℕ) → (a ≤ b → c ≤ d) → (c ≤ d → a ≤ b) → leb a b ≡ leb c d
same-leb a b c d p q = go (leb a b) (leb c d) (leb→le a b) (le→leb a b) (leb→le c d) (le→leb c d)
  where
    go : (x y : Bool) → (T x → a ≤ b) → (a ≤ b → T x) → (T y → c ≤ d) → (c ≤ d → T y) → x ≡ y
    go true true h i j k = refl
    go true false h i j k = absurd (k (p (h tt)))
    go false true h i j k = absurd (i (q (j tt)))
    go false false h i j k = refl

-- t is at most a signed difference exactly if t and what is taken away are together at most the rest
pub at-most_difference : (t a b : ℕ) → le_z (pos t) (pos a -ℤ pos b) ≡ leb (t + b) a
at-most_difference t a b = ap (λ (z : ℤ). le_z (pos t) z) (difference a b) ∙ go (ltb a b) (ltb→lt a b) (nltb→le a b)
  where
    go : (x : Bool) → (T x → a < b) → (T (not x) → b ≤ a) → le_z (pos t) (cond x (negsuc (b - suc a)) (pos (a - b))) ≡ leb (t + b) a
    go true h k = sym (lt-leb (t + b) a (omega (arith, h tt)))
    go false h k = same-leb t (a - b) (t + b) a (λ x. omega (arith, k tt)) (λ x. omega (arith, k tt))
