-- Whole numbers with a sign, read by ℕ alone: `AtMost t b z` says t - b ≤ z, and settles z. Assumes nothing.
use Prim.Native.Nat.{ℕ, zero, suc, ◌+◌, ◌-◌, ◌≤◌, ◌<◌}
use mathlib.Core.Path.{◌≡◌, ap, subst}
use mathlib.Core.Logic.{◌↔◌, ◌⊎◌, inl, inr, ⊎_elim}
use mathlib.Core.Bool.{Bool, true, false, not, cond}
use native.Mathlib.Nat.{le_refl, le_antisymm}
use native.Mathlib.Decide.{dec_le}
use native.Mathlib.Omega.{arith}
use lib.Dec.{T, leb, ltb, leb→le, le→leb, nleb→lt, ltb→lt, nltb→le}
use lib.IntN.{ℤ, pos, negsuc, sub_ℕ, ◌-ℤ◌}
use lib.Signed.{◌≤ℤ◌}
use Rattle.rules.specs.Words.{minZ, maxZ, least_of}

abbrev pub AtMost : ℕ → ℕ → ℤ → Type 0
AtMost t b (pos n) = t ≤ n + b
AtMost t b (negsuc n) = t + suc n ≤ b

by_test : (c : Bool) (x y : ℤ) (P : ℤ → Type 0) → (T c → P x) → (T (not c) → P y) → P (cond c x y)
by_test true x y P f g = f tt
by_test false x y P f g = g tt

at-most_diff : (t b a c : ℕ) → AtMost t b (sub_ℕ a c) ↔ (t + c ≤ a + b)
at-most_diff t b a c = by_test (ltb a c) (negsuc (c - suc a)) (pos (a - c)) (λ z. AtMost t b z ↔ (t + c ≤ a + b))
    (λ l. let k : a < c = ltb→lt a c l in ((λ h. omega arith), (λ h. omega arith)))
    (λ l. let k : c ≤ a = nltb→le a c l in ((λ h. omega arith), (λ h. omega arith)))

pub at-most-min : (t b : ℕ) (x y : ℤ) → AtMost t b (minZ x y) ↔ (AtMost t b x × AtMost t b y)
at-most-min t b (pos m) (pos n) = by_test (leb m n) (pos m) (pos n) (λ z. AtMost t b z ↔ ((t ≤ m + b) × (t ≤ n + b)))
    (λ l. let k : m ≤ n = leb→le m n l in ((λ h. omega arith), (λ h. h.0)))
    (λ l. let k : n < m = nleb→lt m n l in ((λ h. omega arith), (λ h. h.1)))
at-most-min t b (pos m) (negsuc n) = ((λ h. omega arith), (λ h. h.1))
at-most-min t b (negsuc m) (pos n) = ((λ h. omega arith), (λ h. h.0))
at-most-min t b (negsuc m) (negsuc n) = by_test (leb n m) (negsuc m) (negsuc n) (λ z. AtMost t b z ↔ ((t + suc m ≤ b) × (t + suc n ≤ b)))
    (λ l. let k : n ≤ m = leb→le n m l in ((λ h. omega arith), (λ h. h.0)))
    (λ l. let k : m < n = nleb→lt n m l in ((λ h. omega arith), (λ h. h.1)))

pub at-most-max : (t b : ℕ) (x y : ℤ) → AtMost t b (maxZ x y) ↔ (AtMost t b x ⊎ AtMost t b y)
at-most-max t b (pos m) (pos n) = by_test (leb m n) (pos n) (pos m) (λ z. AtMost t b z ↔ ((t ≤ m + b) ⊎ (t ≤ n + b)))
    (λ l. let k : m ≤ n = leb→le m n l in ((λ h. inr h), ⊎_elim (λ u. omega arith) (λ u. u)))
    (λ l. let k : n < m = nleb→lt m n l in ((λ h. inl h), ⊎_elim (λ u. u) (λ u. omega arith)))
at-most-max t b (pos m) (negsuc n) = ((λ h. inl h), ⊎_elim (λ u. u) (λ u. omega arith))
at-most-max t b (negsuc m) (pos n) = ((λ h. inr h), ⊎_elim (λ u. omega arith) (λ u. u))
at-most-max t b (negsuc m) (negsuc n) = by_test (leb n m) (negsuc n) (negsuc m) (λ z. AtMost t b z ↔ ((t + suc m ≤ b) ⊎ (t + suc n ≤ b)))
    (λ l. let k : n ≤ m = leb→le n m l in ((λ h. inr h), ⊎_elim (λ u. omega arith) (λ u. u)))
    (λ l. let k : m < n = nleb→lt n m l in ((λ h. inl h), ⊎_elim (λ u. u) (λ u. omega arith)))

pub at-most-less : (t b : ℕ) (z : ℤ) (c : ℕ) → AtMost t b (z -ℤ pos c) ↔ AtMost (t + c) b z
at-most-less t b (pos n) zero = ((λ h. omega arith), (λ h. omega arith))
at-most-less t b (pos n) (suc c) = let d = at-most_diff t b n (suc c) in ((λ h. d.0 h), (λ h. d.1 h))
at-most-less t b (negsuc n) zero = let d = at-most_diff t b 0 (suc n) in ((λ h. omega (arith, d.0 h)), (λ h. d.1 (omega arith)))
at-most-less t b (negsuc n) (suc c) = ((λ h. omega arith), (λ h. omega arith))

-- less is at most, and a later start of the count
pub at-most_sooner : (s t b : ℕ) (z : ℤ) → s ≤ t → AtMost t b z → AtMost s b z
at-most_sooner s t b (pos n) l h = omega arith
at-most_sooner s t b (negsuc n) l h = omega arith

-- the numbers below settle z
pub settled : (z w : ℤ) → ((t b : ℕ) → AtMost t b z ↔ AtMost t b w) → z ≡ w
settled (pos m) (pos n) e = ap pos (omega (arith, (e m 0).0 (omega arith), (e n 0).1 (omega arith)))
settled (pos m) (negsuc n) e = let no_such : ⊥ = omega (arith, (e m 0).0 (omega arith)) in absurd no_such
settled (negsuc m) (pos n) e = let no_such : ⊥ = omega (arith, (e n 0).1 (omega arith)) in absurd no_such
settled (negsuc m) (negsuc n) e = ap negsuc (omega (arith, (e 0 (suc m)).0 (omega arith), (e 0 (suc n)).1 (omega arith)))

-- what is below z is below w: z is at most w
pub at-most-order : (z w : ℤ) → ((t b : ℕ) → AtMost t b z → AtMost t b w) → z ≤ℤ w
at-most-order (pos m) (pos n) e = record { le = le→leb m n (omega (arith, e m 0 (omega arith))) }
at-most-order (pos m) (negsuc n) e = let no_such : ⊥ = omega (arith, e m 0 (omega arith)) in absurd no_such
at-most-order (negsuc m) (pos n) e = record { le = tt }
at-most-order (negsuc m) (negsuc n) e = record { le = le→leb n m (omega (arith, e 0 (suc m) (omega arith))) }

-- ---- a time against a limit

pub time_at-most : (t : ℕ) (z : ℤ) → (pos t ≤ℤ z) ↔ AtMost t 0 z
time_at-most t (pos n) = ((λ h. omega (arith, leb→le t n h.le)), (λ h. record { le = le→leb t n (omega arith) }))
time_at-most t (negsuc n) = ((λ h. absurd h.le), (λ h. let no_such : ⊥ = omega arith in absurd no_such))

pub sooner : (s t : ℕ) (z : ℤ) → s ≤ t → pos t ≤ℤ z → pos s ≤ℤ z
sooner s t z l h = (time_at-most s z).1 (at-most_sooner s t 0 z l ((time_at-most t z).0 h))

pub time-less : (t : ℕ) (z : ℤ) (c : ℕ) → (pos t ≤ℤ (z -ℤ pos c)) ↔ (pos (t + c) ≤ℤ z)
time-less t z c = (
  (λ h. (time_at-most (t + c) z).1 ((at-most-less t 0 z c).0 ((time_at-most t (z -ℤ pos c)).0 h))),
  (λ h. (time_at-most t (z -ℤ pos c)).1 ((at-most-less t 0 z c).1 ((time_at-most (t + c) z).0 h))),
)

-- ---- the least of some

pub least_all : (f : ℕ → ℤ) (t b i m : ℕ) → AtMost t b (least_of f i m) → (k : ℕ) → i ≤ k → k ≤ i + m → AtMost t b (f k)
unfolding least_of
least_all f t b i zero h k a c = subst (λ (y : ℕ). AtMost t b (f y)) (le_antisymm a (omega arith)) h
least_all f t b i (suc m) h k a c =
    go ((at-most-min t b (least_of f i m) (f (i + suc m))).0 h) (dec_le k (i + m)) (λ l g. least_all f t b i m g k a l)
  where
    go : (AtMost t b (least_of f i m) × AtMost t b (f (i + suc m))) → Dec (k ≤ i + m) → (k ≤ i + m → AtMost t b (least_of f i m) → AtMost t b (f k)) → AtMost t b (f k)
    go p (yes l) ih = ih l p.0
    go p (no l) ih = subst (λ (y : ℕ). AtMost t b (f y)) (le_antisymm (omega arith) c) p.1

pub all_least : (f : ℕ → ℤ) (t b i m : ℕ) → ((k : ℕ) → i ≤ k → k ≤ i + m → AtMost t b (f k)) → AtMost t b (least_of f i m)
unfolding least_of
all_least f t b i zero h = h i (le_refl i) (omega arith)
all_least f t b i (suc m) h =
    (at-most-min t b (least_of f i m) (f (i + suc m))).1
    (all_least f t b i m (λ k a c. h k a (omega arith)), h (i + suc m) (omega arith) (le_refl _))
