-- The table f 0, f 1, .. f (n - 1): how a loop writes it, and what it holds. Assumes nothing.
use mathlib.Core.Path.{◌≡◌, refl, sym, ap, ◌∙◌}
use mathlib.Core.List.{List, [], ◌∷◌}
use Prim.Native.Nat.{ℕ, ◌+◌, ◌*◌, ◌≤◌, ◌<◌}
use native.Mathlib.Nat.{mul-one}
use native.Mathlib.Omega.{arith}
use lib.ListN.{length, get_or, set}
use lib.Seq.{ext_get_or}
use Rattle.rules.specs.Words.{tab}
use Rattle.fields.specs.Fields.{splice, part}
use Rattle.fields.proofs.Parts.{length_part, get_d_part}
use Rattle.fields.proofs.Splice.{set-splice}
use Rattle.fields.proofs.Cats.{cat_ext, length-cat, cat-more, getD-cat}

module _ {A : Type 0} where
  pub tab_ext : (f g : ℕ → A) (n : ℕ) → ((k : ℕ) → k < n → f k ≡ g k) → tab f n ≡ tab g n
  tab_ext f g n h = cat_ext (λ i. f i ∷ []) (λ i. g i ∷ []) n (λ k l. ap (λ (x : A). x ∷ []) (h k l))

module _ {A : Type 0} (f : ℕ → A) where
  pub length-tab : (n : ℕ) → length (tab f n) ≡ n
  length-tab n = length-cat (λ i. f i ∷ []) 1 (λ k. refl) n ∙ mul-one n

  pub getD-tab : (n k : ℕ) (d : A) → k < n → get_or (tab f n) k d ≡ f k
  getD-tab n k d h =
      let e : k ≡ k * 1 + 0 = omega arith in
      ap (λ (i : ℕ). get_or (tab f n) i d) e ∙ getD-cat (λ i. f i ∷ []) 1 (λ k. refl) n k 0 d h (omega arith)

  -- a list with these entries is the table
  pub tab-is : (l : List A) (d : A) (n : ℕ) → length l ≡ n → ((k : ℕ) → k < n → get_or l k d ≡ f k) → l ≡ tab f n
  tab-is l d n s h = ext_get_or d l (tab f n) (s ∙ sym (length-tab n)) (λ k b. h k (omega arith) ∙ sym (getD-tab n k d (omega arith)))

  -- a turn of a loop that stores one entry
  pub tab-more : (out₀ : List A) {out : List A} {v : A} (at i k : ℕ) → i < length out₀ → i ≡ at + k → length out ≡ length out₀ → v ≡ f k
      → out ≡ splice out₀ at (tab f k) → set out i v ≡ splice out₀ at (tab f (k + 1))
  tab-more out₀ {out} {v} at i k h e s q was =
      cat-more (λ i. f i ∷ []) 1 (λ k. refl) out₀ at i k (omega arith) (omega arith) was
      (set-splice out i v (omega arith) ∙ ap (λ (x : A). splice out i (x ∷ [])) q)

-- the entries of a list from index at are its part
pub tab-part : {A : Type 0} (l : List A) (at n : ℕ) (d : A) → at + n ≤ length l → tab (λ k. get_or l (at + k) d) n ≡ part l at n
tab-part l at n d h = sym (tab-is (λ k. get_or l (at + k) d) (part l at n) d n (length_part l at n h) (λ k b. get_d_part l at n k d b))
