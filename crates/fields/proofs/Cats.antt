-- Lists one after another: how a loop writes them, and the k-th of them read back. Assumes nothing.
use mathlib.Core.Path.{◌≡◌, refl, sym, ap, ◌∙◌}
use mathlib.Core.List.{List, ◌++◌, append_assoc, append-nil}
use mathlib.Core.Logic.{⊎_elim}
use Prim.Native.Nat.{ℕ, zero, suc, ◌+◌, ◌-◌, ◌*◌, ◌≤◌, ◌<◌}
use native.Mathlib.Nat.{add-zero, zero-add, suc-mul, zero-mul, not-suc-le-zero, eq-or-lt_of_le, le_of_suc-le-suc}
use native.Mathlib.Numerals.{add-one}
use native.Mathlib.Omega.{arith}
use lib.ListN.{length, get_or, length-append}
use Rattle.rules.specs.Words.{cat}
use Rattle.fields.specs.Fields.{splice}
use Rattle.fields.proofs.Holds.{Holds, whole, left, right, getD-holds}
use Rattle.fields.proofs.Splice.{splice-nil, splice-splice, splice_front}

-- each of the lists has m elements
abbrev pub Each : {A : Type 0} → (ℕ → List A) → ℕ → Type 0
Each f m = (k : ℕ) → length (f k) ≡ m

-- f i, then f (i + 1), .. then f (n - 1)
unfoldable pub cat_from : {A : Type 0} → (ℕ → List A) → ℕ → ℕ → List A
cat_from f i n = cat (λ k. f (i + k)) (n - i)

module _ {A : Type 0} where
  -- ---- equal lists

  pub cat_ext : (f g : ℕ → List A) (n : ℕ) → ((k : ℕ) → k < n → f k ≡ g k) → cat f n ≡ cat g n
  unfolding cat
  cat_ext f g zero h = refl
  cat_ext f g (suc n) h = rw (cat_ext f g n (λ k l. h k (omega arith)), h n (omega arith))

  -- the first list split off
  pub cat-front : (f : ℕ → List A) (n : ℕ) → cat f (suc n) ≡ f 0 ++ cat (λ k. f (suc k)) n
  unfolding cat
  cat-front f zero = sym (append-nil (f 0))
  cat-front f (suc n) = ap (λ (x : List A). x ++ f (suc n)) (cat-front f n) ∙ append_assoc (f 0) (cat (λ k. f (suc k)) n) (f (suc n))

  -- ---- a loop that goes up, writing f 0, f 1, ..: before it and after it

  pub cat-none : (f : ℕ → List A) (out : List A) (at : ℕ) → out ≡ splice out at (cat f 0)
  unfolding cat
  cat-none f out at = sym (splice-nil out at)

  pub cat_done : (f : ℕ → List A) (out₀ : List A) {out : List A} (at k n : ℕ) → k ≡ n
      → out ≡ splice out₀ at (cat f k) → out ≡ splice out₀ at (cat f n)
  cat_done f out₀ at k n e was = was ∙ ap (λ (j : ℕ). splice out₀ at (cat f j)) e

  -- ---- a loop that goes down, writing f (n - 1), f (n - 2), ..: before it and after it

  pub from-none : (f : ℕ → List A) (out : List A) (at n : ℕ) → out ≡ splice out at (cat_from f n n)
  unfolding cat cat_from
  from-none f out at n =
      let e : n - n ≡ 0 = omega arith in
      rw e (sym (splice-nil out at))

  pub from_done : (f : ℕ → List A) (out₀ : List A) {out : List A} (at i n p : ℕ) → i ≡ 0 → p ≡ at
      → out ≡ splice out₀ p (cat_from f i n) → out ≡ splice out₀ at (cat f n)
  unfolding cat_from
  from_done f out₀ at i n p e s was =
      let r : n - i ≡ n = omega arith in
      let first : (k : ℕ) → i + k ≡ k = λ k. omega arith in
      was ∙ rw (s, r, cat_ext (λ k. f (i + k)) f n (λ k l. ap f (first k)))

  from_front : (f : ℕ → List A) (i j n : ℕ) → j ≡ i + 1 → j ≤ n → f i ++ cat_from f j n ≡ cat_from f i n
  unfolding cat_from
  from_front f i j n e h =
      let s : n - i ≡ suc (n - j) = omega arith in
      let next : (k : ℕ) → i + suc k ≡ j + k = λ k. omega arith in
      sym
      (ap (cat (λ k. f (i + k))) s
      ∙ cat-front (λ k. f (i + k)) (n - j)
      ∙ ap (λ (k : ℕ). f k ++ cat (λ k. f (i + suc k)) (n - j)) (add-zero i)
      ∙ ap (λ (x : List A). f i ++ x) (cat_ext (λ k. f (i + suc k)) (λ k. f (j + k)) (n - j) (λ k l. ap f (next k))))

module _ {A : Type 0} (f : ℕ → List A) (m : ℕ) (each : Each f m) where
  pub length-cat : (n : ℕ) → length (cat f n) ≡ n * m
  unfolding cat
  length-cat zero = sym (zero-mul m)
  length-cat (suc n) = length-append (cat f n) (f n) ∙ omega (arith, length-cat n, each n, suc-mul n m)

  -- a turn of the loop that goes up, writing from index i
  pub cat-more : (out₀ : List A) {out out' : List A} (at i k : ℕ) → at + k * m ≤ length out₀ → i ≡ at + k * m
      → out ≡ splice out₀ at (cat f k) → out' ≡ splice out i (f k) → out' ≡ splice out₀ at (cat f (k + 1))
  unfolding cat
  cat-more out₀ at i k h e was is =
      let s : i ≡ at + length (cat f k) = omega (arith, length-cat k) in
      is ∙ rw (was, s, add-one) (splice-splice out₀ at (cat f k) (omega arith) (f k))

  -- a turn of the loop that goes down, from j to i, writing from index p'
  pub from_more : (out₀ : List A) {out out' : List A} (i j n p p' : ℕ) → j ≡ i + 1 → j ≤ n → p ≡ p' + m → p ≤ length out₀
      → out ≡ splice out₀ p (cat_from f j n) → out' ≡ splice out p' (f i) → out' ≡ splice out₀ p' (cat_from f i n)
  from_more out₀ i j n p p' e h s room was is =
      let s' : p ≡ p' + length (f i) = omega (arith, each i) in
      is ∙ rw (was, s', ← from_front f i j n e h) (splice_front out₀ p' (f i) (omega arith) (cat_from f j n))

  -- ---- the k-th of them

  pub nth : {l : List A} {at : ℕ} (n : ℕ) → Holds l at (cat f n) → (k i : ℕ) → k < n → i ≡ at + k * m → Holds l i (f k)
  unfolding cat
  nth zero h k i b e = absurd (not-suc-le-zero b)
  nth {l} {at} (suc n) h k i b e =
      ⊎_elim
      (λ (s : k ≡ n). rw s (right (cat f n) (f n) i (e ∙ rw (s, length-cat n)) h))
      (λ s. nth n (left (cat f n) (f n) h) k i s e)
      (eq-or-lt_of_le (le_of_suc-le-suc b))

  piece : (n k : ℕ) → k < n → Holds (cat f n) (k * m) (f k)
  piece n k b = nth n (whole (cat f n)) k (k * m) b (sym (zero-add (k * m)))

  pub getD-cat : (n k j : ℕ) (d : A) → k < n → j < m → get_or (cat f n) (k * m + j) d ≡ get_or (f k) j d
  getD-cat n k j d b l = getD-holds (piece n k b) (k * m + j) j d refl (omega (arith, each k))
