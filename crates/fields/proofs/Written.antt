-- What was written to the front of a table is read there. Assumes nothing.
use Prim.Native.Nat.{ℕ, ◌+◌, ◌*◌, ◌<◌, zero-le}
use mathlib.Core.Path.{◌≡◌, ap, ◌∙◌}
use mathlib.Core.List.{List}
use native.Mathlib.Omega.{arith}
use lib.ListN.{length, get_or, take, drop}
use lib.Seq.{take_at}
use Rattle.rules.specs.Words.{cat, tab, rows}
use Rattle.fields.specs.Fields.{splice}
use Rattle.fields.proofs.Strides.{cell-fits}
use Rattle.fields.proofs.Splice.{getD-splice}
use Rattle.fields.proofs.Tabs.{length-tab, getD-tab}
use Rattle.fields.proofs.Rows.{length-rows, get_d_rows, length_blocks, getD_blocks}

module _ {A : Type 0} where
  front : (xs l₀ : List A) {l : List A} (k : ℕ) (d : A) → l ≡ splice l₀ 0 xs → k < length xs → get_or l k d ≡ get_or xs k d
  front xs l₀ k d e h = rw e (getD-splice l₀ 0 xs zero-le k k d (omega arith) h)

  pub tab-written : (f : ℕ → A) (l₀ : List A) {l : List A} (n : ℕ) (d : A) → l ≡ splice l₀ 0 (tab f n) → (k : ℕ) → k < n → get_or l k d ≡ f k
  tab-written f l₀ n d e k b = front (tab f n) l₀ k d e (omega (arith, length-tab f n)) ∙ getD-tab f n k d b

  pub rows_written : (f : ℕ → ℕ → A) (l₀ : List A) {l : List A} (n m : ℕ) (d : A) → l ≡ splice l₀ 0 (rows f n m)
      → (i q : ℕ) → i < n → q < m → get_or l (i * m + q) d ≡ f i q
  rows_written f l₀ n m d e i q b c =
      front (rows f n m) l₀ (i * m + q) d e (omega (arith, length-rows f m n, cell-fits i n q m b c)) ∙ get_d_rows f m n i q d b c

  pub blocks_written : (f : ℕ → ℕ → ℕ → A) (l₀ : List A) {l : List A} (n m size : ℕ) (d : A)
      → l ≡ splice l₀ 0 (cat (λ i. rows (f i) m size) n)
      → (i q r : ℕ) → i < n → q < m → r < size → get_or l ((i * m + q) * size + r) d ≡ f i q r
  blocks_written f l₀ n m size d e i q r b c h =
      front (cat (λ i. rows (f i) m size) n) l₀ ((i * m + q) * size + r) d e
      (omega (arith, length_blocks f m size n, cell-fits (i * m + q) (n * m) r size (cell-fits i n q m b c) h))
      ∙ getD_blocks f m size n i q r d b c h

-- the table at the front of a list, where it was written
pub tab-taken : {A : Type 0} (f : ℕ → A) (l₀ : List A) {l : List A} (k : ℕ) {n : ℕ} → l ≡ splice l₀ 0 (tab f k) → k ≡ n → take k l ≡ tab f n
unfolding splice
tab-taken f l₀ k is e = ap (take k) is ∙ take_at (tab f k) (drop (0 + length (tab f k)) l₀) k (length-tab f k) ∙ ap (tab f) e
