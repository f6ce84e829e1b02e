-- Laws of sums, and the searches and deciders that computed definitions use.
use Prim.Native.Nat.{ℕ, zero, suc, ◌+◌, ◌-◌, ◌≤◌, ◌<◌, zero-le}
use mathlib.Core.Path.{◌≡◌, refl, ap, ap₂, subst}
use mathlib.Core.Logic.{◌≢◌, ◌⊎◌, inl, inr}
use native.Mathlib.Nat.{le_refl, le_trans, le_of_eq, le_antisymm}
use native.Mathlib.Decide.{dec_le, dec_lt, ℕ_discrete, le_ind}
use native.Mathlib.Omega.{arith}
use Rattle.rules.specs.Words.{sum, span}

-- ---- one number more

-- what holds below n and at n holds below n + 1
pub below_suc : (n : ℕ) (P : ℕ → Type 0) → ((b : ℕ) → b < n → P b) → P n → (b : ℕ) → b < suc n → P b
below_suc n P under last b l = go (dec_lt b n)
  where
    go : Dec (b < n) → P b
    go (yes h) = under b h
    go (no h) = subst P (le_antisymm (omega arith) (omega arith)) last

-- ---- sums term by term

pub sum_mono : (n : ℕ) (f g : ℕ → ℕ) → ((a : ℕ) → a < n → f a ≤ g a) → sum n f ≤ sum n g
unfolding sum
sum_mono zero f g h = le_refl 0
sum_mono (suc n) f g h = omega (arith, sum_mono n f g (λ a l. h a (omega arith)), h n (omega arith))

pub sum_same : (n : ℕ) (f g : ℕ → ℕ) → ((a : ℕ) → a < n → f a ≡ g a) → sum n f ≡ sum n g
sum_same n f g h = le_antisymm (sum_mono n f g (λ a l. le_of_eq (h a l))) (sum_mono n g f (λ a l. omega (arith, h a l)))

pub sum-add : (n : ℕ) (f g : ℕ → ℕ) → sum n (λ a. f a + g a) ≡ sum n f + sum n g
unfolding sum
sum-add zero f g = refl
sum-add (suc n) f g = omega (arith, sum-add n f g)

pub sum-none : (n : ℕ) (f : ℕ → ℕ) → ((a : ℕ) → a < n → f a ≡ 0) → sum n f ≡ 0
unfolding sum
sum-none zero f h = refl
sum-none (suc n) f h = omega (arith, sum-none n f (λ a l. h a (omega arith)), h n (omega arith))

-- a sum with one term that counts
pub sum_one : (n b : ℕ) (f : ℕ → ℕ) → b < n → ((a : ℕ) → a < n → a ≢ b → f a ≡ 0) → sum n f ≡ f b
unfolding sum
sum_one zero b f l h = omega arith
sum_one (suc n) b f l h = go (ℕ_discrete b n) (λ m. sum_one n b f m (λ a k. h a (omega arith)))
  where
    go : Dec (b ≡ n) → (b < n → sum n f ≡ f b) → sum n f + f n ≡ f b
    go (yes e) before = omega (arith, sum-none n f (λ a m. h a (omega arith) (omega arith)), ap f e)
    go (no e) before = omega (arith, before (omega arith), h n (omega arith) (omega arith))

-- ---- longer sums

pub sum_longer : (f : ℕ → ℕ) (k m : ℕ) → k ≤ m → sum k f ≤ sum m f
unfolding sum
sum_longer f k = le_ind (λ (m : ℕ). sum k f ≤ sum m f) (le_refl _) (λ m l shorter. omega arith)

pub span_same : (f g : ℕ → ℕ) (i j : ℕ) → i ≤ j → ((p : ℕ) → p < j → f p ≡ g p) → span f i j ≡ span g i j
span_same f g i j l h = ap₂ (λ (x y : ℕ). x - y) (sum_same j f g h) (sum_same i f g (λ p b. h p (omega arith)))

pub span_less : (f g : ℕ → ℕ) (i j : ℕ) → i ≤ j → ((p : ℕ) → i ≤ p → p < j → f p ≤ g p) → span f i j ≤ span g i j
unfolding sum
span_less f g i = le_ind (λ (m : ℕ). ((p : ℕ) → i ≤ p → p < m → f p ≤ g p) → span f i m ≤ span g i m)
    (λ h. omega arith)
    (λ m l shorter h. omega (arith, shorter (λ p a b. h p a (omega arith)), h m l (omega arith), sum_longer f i m l, sum_longer g i m l))

-- ---- terms that a test keeps

-- x where the test passes, else 0
unfoldable pub keep : {P : Type 0} → Dec P → ℕ → ℕ
keep (yes p) x = x
keep (no p) x = 0

pub keep_yes : {P : Type 0} (d : Dec P) (x : ℕ) → P → keep d x ≡ x
unfolding keep
keep_yes (yes p) x h = refl
keep_yes (no p) x h = absurd (p h)

pub keep_no : {P : Type 0} (d : Dec P) (x : ℕ) → (P → ⊥) → keep d x ≡ 0
unfolding keep
keep_no (yes p) x h = absurd (h p)
keep_no (no p) x h = refl

pub keep_mono : {P Q : Type 0} (d : Dec P) (e : Dec Q) (x : ℕ) → (P → Q) → keep d x ≤ keep e x
unfolding keep
keep_mono (yes p) (yes q) x h = le_refl x
keep_mono (yes p) (no q) x h = absurd (q (h p))
keep_mono (no p) (yes q) x h = zero-le
keep_mono (no p) (no q) x h = zero-le

-- ---- searches

-- a greatest value among f 0 .. f k
pub greatest : (f : ℕ → ℕ) (k : ℕ) → (j : ℕ) × (j ≤ k) × ((i : ℕ) → i ≤ k → f i ≤ f j)
greatest f zero = (0, le_refl 0, λ i l. le_of_eq (ap f (le_antisymm l zero-le)))
greatest f (suc k) = go (greatest f k)
  where
    go : (j : ℕ) × (j ≤ k) × ((i : ℕ) → i ≤ k → f i ≤ f j) → (j : ℕ) × (j ≤ suc k) × ((i : ℕ) → i ≤ suc k → f i ≤ f j)
    go g = or (dec_le (f (suc k)) (f g.0))
      where
        up_to : (j : ℕ) → f g.0 ≤ f j → f (suc k) ≤ f j → (i : ℕ) → i ≤ suc k → f i ≤ f j
        up_to j h last i l = below_suc (suc k) (λ x. f x ≤ f j) (λ x m. le_trans (g.2 x (omega arith)) h) last i (omega arith)

        or : Dec (f (suc k) ≤ f g.0) → (j : ℕ) × (j ≤ suc k) × ((i : ℕ) → i ≤ suc k → f i ≤ f j)
        or (yes h) = (g.0, omega (arith, g.1), up_to g.0 (le_refl _) h)
        or (no h) = (suc k, le_refl _, up_to (suc k) (omega arith) (le_refl _))

-- a number below n that passes the test, or that none does
abbrev pub Found : ℕ → (ℕ → Type 0) → Type 0
Found n P = ((b : ℕ) × (b < n) × P b) ⊎ ((b : ℕ) → b < n → P b → ⊥)

unfoldable pub find : (n : ℕ) (P : ℕ → Type 0) → ((b : ℕ) → Dec (P b)) → Found n P
find zero P d = inr (λ b l p. omega arith)
find (suc n) P d = go (find n P d) (d n)
  where
    go : Found n P → Dec (P n) → Found (suc n) P
    go (inl f) e = inl (f.0, omega (arith, f.1), f.2)
    go (inr f) (yes p) = inl (n, le_refl _, p)
    go (inr f) (no q) = inr (below_suc n (λ b. P b → ⊥) f q)

-- ---- deciders

unfoldable pub choose : {P A : Type 0} → Dec P → A → A → A
choose (yes p) a b = a
choose (no p) a b = b

unfoldable pub both : {P Q : Type 0} → Dec P → Dec Q → Dec (P × Q)
both (yes p) (yes q) = yes (p, q)
both (yes p) (no q) = no (λ h. q h.1)
both (no p) e = no (λ h. p h.0)

unfoldable pub not? : {P : Type 0} → Dec P → Dec (P → ⊥)
not? (yes p) = no (λ h. h p)
not? (no p) = yes p

unfoldable pub if? : {P Q : Type 0} → Dec P → Dec Q → Dec (P → Q)
if? (yes p) (yes q) = yes (λ h. q)
if? (yes p) (no q) = no (λ h. q (h p))
if? (no p) d = yes (λ h. absurd (p h))

-- every number below n passes a test
unfoldable pub each? : (n : ℕ) (P : ℕ → Type 0) → ((b : ℕ) → Dec (P b)) → Dec ((b : ℕ) → b < n → P b)
each? zero P d = yes (λ b l. let no_such : ⊥ = omega arith in absurd no_such)
each? (suc n) P d = go (d n) (each? n P d)
  where
    go : Dec (P n) → Dec ((b : ℕ) → b < n → P b) → Dec ((b : ℕ) → b < suc n → P b)
    go (yes p) (yes f) = yes (below_suc n P f p)
    go (yes p) (no f) = no (λ h. f (λ b l. h b (omega arith)))
    go (no p) e = no (λ h. p (h n (omega arith)))
