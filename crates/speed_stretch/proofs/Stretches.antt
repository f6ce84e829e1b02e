-- A stretch worked from its last position back: from none, one position more in front, how large it is, and what the reading makes of it. Assumes
-- nothing.
use Prim.Native.Nat.{ℕ, zero, suc, ◌+◌, ◌-◌, ◌*◌, ◌≤◌, ◌<◌, max}
use mathlib.Core.Path.{◌≡◌, ap, ap₂, sym, ◌∙◌}
use native.Mathlib.Nat.{le_refl, max-zero}
use native.Mathlib.Decide.{dec_le, le_ind}
use native.Mathlib.Omega.{arith}
use lib.IntN.{pos, ◌-ℤ◌}
use Rattle.rules.specs.Numbers.{longest_time}
use Rattle.rules.specs.Words.{sum, span, greatest_of}
use Rattle.rules.specs.Limits as Limits
use Rattle.rules.specs.Limits.{Tables, safe}
use Rattle.rules.specs.Speed.{room, reading_by, reading}
use Rattle.rules.proofs.Sums.{sum_longer}
use Rattle.speed_stretch.specs.Stretch.{StretchOf, NoStretch, SmallStretch}
use Rattle.speed_stretch.specs.declared.Stretch.{Stretch}

-- ---- no position, and one more in front

-- none, in front of whichever
pub from_nothing : {S : Tables} {j k q : ℕ} {s : Stretch} → NoStretch s → j ≡ suc k → StretchOf S j k q s
from_nothing none e = rw e (none _ _ _)

greatest-front : (f : ℕ → ℕ) (i m : ℕ) → greatest_of f i (suc m) ≡ max (f i) (greatest_of f (suc i) m)
unfolding greatest_of
greatest-front f i zero = ap (λ (p : ℕ). max (f i) (f p)) (omega arith)
greatest-front f i (suc m) =
    let last : i + suc (suc m) ≡ suc i + suc m = omega arith in
    omega (arith, greatest-front f i m, ap f last)

module _ (S : Tables) (j k q : ℕ) (within : j ≤ k) where
  average-front : Limits.average S j k q ≡ S.average j q + Limits.average S (suc j) k q
  unfolding sum
  average-front = omega (arith, sum_longer (λ p. S.average p q) (suc j) (suc k) (omega arith))

  worst0-front : span (λ p. S.worst p 0) j (suc k) ≡ S.worst j 0 + span (λ p. S.worst p 0) (suc j) (suc k)
  unfolding sum
  worst0-front = omega (arith, sum_longer (λ p. S.worst p 0) (suc j) (suc k) (omega arith))

  here : safe S j k q - Limits.average S j k q ≡ safe S j k q - (S.average j q + Limits.average S (suc j) k q)
  here = ap (λ (a : ℕ). safe S j k q - a) average-front

  margin-one : k < suc j → Limits.margin S j k q ≡ safe S j k q - (S.average j q + Limits.average S (suc j) k q)
  unfolding Limits.margin greatest_of
  margin-one l =
      let none : k - j ≡ 0 = omega arith in
      ap (greatest_of (λ p. safe S p k q - Limits.average S p k q) j) none ∙ here

  margin-front : suc j ≤ k
      → Limits.margin S j k q ≡ max (safe S j k q - (S.average j q + Limits.average S (suc j) k q)) (Limits.margin S (suc j) k q)
  unfolding Limits.margin
  margin-front l =
      let some : k - j ≡ suc (k - suc j) = omega arith in
      rw (some, greatest-front (λ p. safe S p k q - Limits.average S p k q) j (k - suc j), here)

  pub lengthened : (s r : Stretch) → StretchOf S (suc j) k q s → r.average ≡ S.average j q + s.average → r.worst0 ≡ S.worst j 0 + s.worst0
      → r.margin ≡ max (S.worst j q + s.worst0 - (S.average j q + s.average)) s.margin → StretchOf S j k q r
  lengthened s r of average worst0 margin = record {
    average = average ∙ rw of.average (sym average-front);
    worst0 = worst0 ∙ rw of.worst0 (sym worst0-front);
    margin = λ l. margin ∙ rw (of.average, of.worst0) (go (dec_le (suc j) k));
    no_margin = λ l. let no_such : ⊥ = omega arith in absurd no_such;
  }
    where
      first : ℕ
      first = safe S j k q - (S.average j q + Limits.average S (suc j) k q)

      go : Dec (suc j ≤ k) → max first s.margin ≡ Limits.margin S j k q
      go (yes l) = ap (max first) (of.margin l) ∙ sym (margin-front l)
      go (no l) = ap (max first) (of.no_margin (omega arith)) ∙ max-zero first ∙ sym (margin-one (omega arith))

-- ---- how large

greatest-within : (f : ℕ → ℕ) (i m x : ℕ) → ((p : ℕ) → p ≤ i + m → f p ≤ x) → greatest_of f i m ≤ x
unfolding greatest_of
greatest-within f i zero x h = h i (omega arith)
greatest-within f i (suc m) x h = omega (arith, greatest-within f i m x (λ p l. h p (omega arith)), h (i + suc m) (le_refl _))

-- the longest time, of 24 bits
abbrev longest : ℕ
longest = longest_time

span-within : (f : ℕ → ℕ) (i j : ℕ) → i ≤ j → ((p : ℕ) → p < j → f p ≤ longest) → span f i j ≤ (j - i) * longest
unfolding sum
span-within f i = le_ind (λ (j : ℕ). ((p : ℕ) → p < j → f p ≤ longest) → span f i j ≤ (j - i) * longest)
    (λ h. omega arith)
    (λ j l shorter h. omega (arith, shorter (λ p b. h p (omega arith)), h j (le_refl _)))

-- the times of the positions up to k
pub record Times (S : Tables) (k q : ℕ) : Type 0 where
  pub average : (p : ℕ) → p < suc k → S.average p q ≤ longest
  pub worst : (p : ℕ) → p < suc k → S.worst p q ≤ longest
  pub worst0 : (p : ℕ) → p < suc k → S.worst p 0 ≤ longest

module _ (S : Tables) (i k q : ℕ) (few : k < 64) (times : Times S k q) where
  margin-small : i ≤ k → Limits.margin S i k q ≤ 64 * longest
  unfolding Limits.margin
  margin-small l =
      greatest-within (λ p. safe S p k q - Limits.average S p k q) i (k - i) (64 * longest)
      (λ p h. omega (arith, times.worst p (omega arith), span-within (λ r. S.worst r 0) (suc p) (suc k) (omega arith) times.worst0))

  pub small : (s : Stretch) → i ≤ suc k → StretchOf S i k q s → SmallStretch s
  small s within of = record {
    average = omega (arith, span-within (λ p. S.average p q) i (suc k) within times.average);
    worst0 = omega (arith, span-within (λ p. S.worst p 0) i (suc k) within times.worst0);
    margin = go (dec_le i k);
  }
    where
      go : Dec (i ≤ k) → s.margin ≤ 64 * longest
      go (yes l) = omega (arith, of.margin l, margin-small l)
      go (no l) = omega (arith, of.no_margin (omega arith))

-- ---- the reading

module _ (S : Tables) (i k q : ℕ) (s : Stretch) (of : StretchOf S i k q s) (some : i ≤ k) where
  pub reading-is : (t : ℕ) → reading_by s.average (pos (S.deadline k) -ℤ pos s.margin -ℤ pos t) ≡ reading S i k q t
  unfolding reading room
  reading-is t = ap₂ (λ (a m : ℕ). reading_by a (pos (S.deadline k) -ℤ pos m -ℤ pos t)) of.average (of.margin some)
