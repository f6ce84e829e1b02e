-- Tables row by row, and blocks of rows: how long they are, and what they hold. Assumes nothing.
use mathlib.Core.Path.{◌≡◌, sym, ap, ◌∙◌}
use mathlib.Core.List.{List}
use Prim.Native.Nat.{ℕ, ◌+◌, ◌*◌, ◌≤◌, ◌<◌}
use native.Mathlib.Nat.{mul_assoc}
use native.Mathlib.Omega.{arith}
use lib.ListN.{length, get_or}
use Rattle.rules.specs.Words.{cat, tab, rows}
use Rattle.fields.specs.Fields.{part}
use Rattle.fields.proofs.Strides.{stride_fits, cell-fits, block_start}
use Rattle.fields.proofs.Parts.{cat-part}
use Rattle.fields.proofs.Cats.{cat_ext, length-cat, getD-cat}
use Rattle.fields.proofs.Tabs.{tab_ext, length-tab, getD-tab, tab-part}

pub rows_ext : {A : Type 0} (f g : ℕ → ℕ → A) (n m : ℕ) → ((i q : ℕ) → i < n → q < m → f i q ≡ g i q) → rows f n m ≡ rows g n m
rows_ext f g n m h = cat_ext (λ i. tab (f i) m) (λ i. tab (g i) m) n (λ i b. tab_ext (f i) (g i) m (λ q c. h i q b c))

module _ {A : Type 0} (f : ℕ → ℕ → A) (m : ℕ) where
  pub length-rows : (n : ℕ) → length (rows f n m) ≡ n * m
  length-rows n = length-cat (λ i. tab (f i) m) m (λ i. length-tab (f i) m) n

  pub get_d_rows : (n i q : ℕ) (d : A) → i < n → q < m → get_or (rows f n m) (i * m + q) d ≡ f i q
  get_d_rows n i q d b c = getD-cat (λ i. tab (f i) m) m (λ i. length-tab (f i) m) n i q d b c ∙ getD-tab (f i) m q d c

-- the entries of a list row by row, row i of them from `start i`, are its part
pub rows-part : {A : Type 0} (l : List A) (at n m : ℕ) (d : A) (start : ℕ → ℕ) → ((i : ℕ) → start i ≡ at + i * m) → at + n * m ≤ length l
    → rows (λ i q. get_or l (start i + q) d) n m ≡ part l at (n * m)
rows-part l at n m d start starts h =
    cat-part l at m start starts (λ i. tab (λ q. get_or l (start i + q) d) m) n
    (λ i b. tab-part l (start i) m d (omega (arith, starts i, stride_fits i n m b)))

-- n blocks of m rows
module _ {A : Type 0} (f : ℕ → ℕ → ℕ → A) (m size : ℕ) where
  pub length_blocks : (n : ℕ) → length (cat (λ i. rows (f i) m size) n) ≡ n * m * size
  length_blocks n = length-cat (λ i. rows (f i) m size) (m * size) (λ i. length-rows (f i) size m) n ∙ sym (mul_assoc n m size)

  pub getD_blocks : (n i q r : ℕ) (d : A) → i < n → q < m → r < size → get_or (cat (λ i. rows (f i) m size) n) ((i * m + q) * size + r) d ≡ f i q r
  getD_blocks n i q r d b c e =
      let s : (i * m + q) * size + r ≡ i * (m * size) + (q * size + r) = omega (arith, block_start i m q size) in
      ap (λ (k : ℕ). get_or (cat (λ i. rows (f i) m size) n) k d) s
      ∙ getD-cat (λ i. rows (f i) m size) (m * size) (λ i. length-rows (f i) size m) n i (q * size + r) d b (cell-fits q m r size c e)
      ∙ get_d_rows (f i) size m q r d c e
