-- The lesser of two numbers and a difference: how large they can be, and where the first is the lesser. Assumes nothing.
use Prim.Native.Nat.{ℕ, zero, suc, ◌+◌, ◌-◌, ◌≤◌, ◌<◌}
use mathlib.Core.Path.{◌≡◌, sym, ap, ◌∙◌}
use mathlib.Core.Bool.{Bool, true, false, cond, true≢false}
use native.Mathlib.Decide.{dec_lt}
use native.Mathlib.Omega.{arith}
use borrow.Author.Tests.{lt-ltb}
use lib.Dec.{ltb}
use lib.IntN.{ℤ, pos, negsuc, sub_ℕ, ◌-ℤ◌}
use lib.Signed.{lt_z, le_z, mag}
use mir.Syntax.{w32}
use mir.Val.{to_z, of_z}
use mir.Facts.{to_z-of_z}
use Rattle.std.specs.Int.{int_min}
use Rattle.rules.specs.Words.{minZ}
use Rattle.rules.specs.Limits.{absent}
use Rattle.rules.proofs.Limits.Signed.{AtMost, at-most-min, settled}

-- ---- how large

mag_cond : (t : Bool) (a b : ℤ) (m : ℕ) → mag a ≤ m → mag b ≤ m → mag (cond t a b) ≤ m
mag_cond true a b m h k = h
mag_cond false a b m h k = k

pub mag_lesser : (a b : ℤ) (m : ℕ) → mag a ≤ m → mag b ≤ m → mag (minZ a b) ≤ m
mag_lesser a b = mag_cond (le_z a b) a b

mag_sub : (a b : ℕ) → mag (sub_ℕ a b) ≤ a + (b - 1)
mag_sub a b = mag_cond (ltb a b) (negsuc (b - suc a)) (pos (a - b)) (a + (b - 1)) (omega arith) (omega arith)

pub mag_less : (z : ℤ) (c : ℕ) → mag (z -ℤ pos c) ≤ mag z + c
mag_less (pos n) zero = omega arith
mag_less (pos n) (suc c) = omega (arith, mag_sub n (suc c))
mag_less (negsuc n) zero = omega (arith, mag_sub 0 (suc n))
mag_less (negsuc n) (suc c) = omega arith

-- a number in range is what its 32 bits say
pub as_is : (z : ℤ) → mag z < 2147483648 → to_z w32 (of_z w32 z) ≡ z
as_is z h = to_z-of_z {w = w32} (record { sfits = h })

-- ---- which is the lesser

-- as `min` has it
pub min-is : (x y : ℤ) → int_min x y ≡ minZ x y
min-is x y = grind arith

pub lesser_left : (a b : ℤ) → ((t c : ℕ) → AtMost t c a → AtMost t c b) → minZ a b ≡ a
lesser_left a b h = settled (minZ a b) a (λ t c. ((λ m. ((at-most-min t c a b).0 m).0), (λ m. (at-most-min t c a b).1 (m, h t c m))))

pub lesser_either : (a b : ℤ) → minZ a b ≡ minZ b a
lesser_either a b = settled _ _ (λ t c. (
  (λ m. let p = (at-most-min t c a b).0 m in (at-most-min t c b a).1 (p.1, p.0)),
  (λ m. let p = (at-most-min t c b a).0 m in (at-most-min t c a b).1 (p.1, p.0)),
))

pub lesser_again : (a b : ℤ) → minZ a (minZ a b) ≡ minZ a b
lesser_again a b = lesser_either a (minZ a b) ∙ lesser_left (minZ a b) a (λ t c m. ((at-most-min t c a b).0 m).0)

-- ---- what is absent is the least

pub least-absent : (z : ℤ) → mag z < 2147483648 → lt_z absent z ≡ false → z ≡ absent
least-absent (pos n) h e = absurd (true≢false e)
least-absent (negsuc n) h e = by (dec_lt n 2147483647)
  where
    by : Dec (n < 2147483647) → negsuc n ≡ absent
    by (yes l) = absurd (true≢false (sym (lt-ltb n 2147483647 l) ∙ e))
    by (no l) = ap negsuc (omega arith)

absent-below : (z : ℤ) → mag z < 2147483648 → (t c : ℕ) → AtMost t c absent → AtMost t c z
absent-below (pos n) h t c m = omega arith
absent-below (negsuc n) h t c m = omega arith

pub lesser_absent : (z : ℤ) → mag z < 2147483648 → minZ z absent ≡ absent
lesser_absent z h = lesser_either z absent ∙ lesser_left absent z (absent-below z h)
