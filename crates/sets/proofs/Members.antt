-- The laws of counting the members of a set.
use mathlib.Core.Path.{◌≡◌, refl, sym, ap, ◌∙◌}
use mathlib.Core.Bool.{Bool, true, false}
use mathlib.Core.Logic.{◌⊎◌, inl, inr}
use Prim.Native.Nat.{ℕ, zero, suc, ◌+◌, ◌/◌, ◌%◌, ◌^◌, ◌≤◌, ◌<◌, min}
use native.Mathlib.Nat.{pow-suc}
use native.Mathlib.Omega.{arith}
use lib.Count.{ones, ones_step}
use borrow.Author.Tests.{lt-ltb, le-ltb}
use Rattle.rules.specs.Words.{sum, one_if}
use Rattle.rules.specs.Image.{has}
use Rattle.rules.proofs.Sums.{sum-none, sum_same}
use Rattle.sets.specs.Sets.{members, AllBelow, With, Without}
use Rattle.sets.proofs.Cases.{lt-or-le, eq-or_ne}
use Rattle.sets.proofs.Bits.{has-suc, has-empty, low_digit}
use Rattle.sets.proofs.Laws.{added, others, gone, kept}

-- ---- 1 for yes, 0 for no

one_if-le : (x : Bool) → one_if x ≤ 1
one_if-le true = omega arith
one_if-le false = omega arith

-- ---- one action more

pub members-zero : (s : ℕ) → members 0 s ≡ 0
unfolding members sum
members-zero s = refl

pub members-suc : (k s : ℕ) → members (suc k) s ≡ members k s + one_if (has s k)
unfolding members sum
members-suc k s = refl

pub members_in : (k s : ℕ) → has s k ≡ true → members (suc k) s ≡ suc (members k s)
members_in k s e = omega (arith, members-suc k s, ap one_if e)

pub members-out : (k s : ℕ) → has s k ≡ false → members (suc k) s ≡ members k s
members-out k s e = omega (arith, members-suc k s, ap one_if e)

-- ---- `u64::count_ones(s)`

members-low : (k s : ℕ) → members (suc k) s ≡ s % 2 + members k (s / 2)
members-low zero s = omega (arith, members-suc 0 s, members-zero s, members-zero (s / 2), low_digit s)
members-low (suc k) s =
    omega (arith, members-suc (suc k) s, members-suc k (s / 2), members-low k s, ap one_if (has-suc s k))

pub ones_members : (k s : ℕ) → s < 2 ^ k → ones s ≡ members k s
unfolding ones
ones_members zero s h = (let e : s ≡ 0 = omega arith in ap ones e) ∙ sym (members-zero s)
ones_members (suc k) s h =
    ones_step s ∙ ap (λ (x : ℕ). s % 2 + x) (ones_members k (s / 2) (omega (arith, pow-suc 2 k))) ∙ sym (members-low k s)

-- ---- bounds

pub members-none : (k : ℕ) → members k 0 ≡ 0
unfolding members
members-none k = sum-none k (λ j. one_if (has 0 j)) (λ j l. ap one_if (has-empty j))

pub members-le : (k s : ℕ) → members k s ≤ k
members-le zero s = omega (arith, members-zero s)
members-le (suc k) s = omega (arith, members-suc k s, members-le k s, one_if-le (has s k))

pub members_all : {n r : ℕ} → AllBelow n r → (k : ℕ) → members k r ≡ min k n
members_all {n} {r} all zero = omega (arith, members-zero r)
members_all {n} {r} all (suc k) = elim (lt-or-le k n) [
  | inl l ↦ omega (arith, members_all all k, members_in k r (all.each k ∙ lt-ltb k n l))
  | inr l ↦ omega (arith, members_all all k, members-out k r (all.each k ∙ le-ltb k n l))
]

-- ---- a member more counts for one

-- r has b and s does not, and all else is the same
module _ (s b r : ℕ) (new : has s b ≡ false) (here : has r b ≡ true) (same : (j : ℕ) → (b ≡ j → ⊥) → has r j ≡ has s j) where
  members-same : (k : ℕ) → k ≤ b → members k r ≡ members k s
  unfolding members
  members-same k h = sum_same k (λ j. one_if (has r j)) (λ j. one_if (has s j)) (λ j l. ap one_if (same j (omega arith)))

  members-more : (k : ℕ) → b < k → members k r ≡ suc (members k s)
  members-more zero h = absurd (omega arith)
  members-more (suc k) h = go (λ l. members-more k l) (eq-or_ne b k)
    where
      go : (b < k → members k r ≡ suc (members k s)) → (b ≡ k) ⊎ (b ≡ k → ⊥) → members (suc k) r ≡ suc (members (suc k) s)
      go ih (inl e) =
          omega (arith, members-same k (omega arith), members_in k r (ap (has r) (sym e) ∙ here), members-out k s (ap (has s) (sym e) ∙ new))
      go ih (inr n) = omega (arith, ih (omega arith), members-suc k r, members-suc k s, ap one_if (same k n))

pub members_with : {s b r : ℕ} → With s b r → (k : ℕ) → has s b ≡ false → b < k → members k r ≡ suc (members k s)
members_with w k new h = members-more _ _ _ new (added w) (others w) k h

pub members_without : {s b r : ℕ} → Without s b r → (k : ℕ) → has s b ≡ true → b < k → members k s ≡ suc (members k r)
members_without w k was h = members-more _ _ _ (gone w) was (λ j n. sym (kept w j n)) k h
