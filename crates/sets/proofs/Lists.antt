-- Lists of zeros, and those filled from the front, as a loop over the actions fills them.
use mathlib.Core.Path.{◌≡◌, refl, ◌∙◌}
use mathlib.Core.List.{List}
use Prim.Native.Nat.{ℕ, zero, suc, ◌+◌, ◌<◌}
use native.Mathlib.Omega.{arith}
use borrow.Author.Count.{below_more}
use lib.ListN.{length, get_or, set, replicate}
use lib.Seq.{get_or-set_same, get_or-set_other}

pub none_yet : (k b : ℕ) → get_or {A = ℕ} (replicate k 0) b 0 ≡ 0
none_yet zero b = refl
none_yet (suc k) zero = refl
none_yet (suc k) (suc b) = none_yet k b

-- the first k entries are those of f
abbrev pub Filled : (ℕ → ℕ) → ℕ → List ℕ → Type 0
Filled f k l = (j : ℕ) → j < k → get_or l j 0 ≡ f j

pub filled_more : (f : ℕ → ℕ) (k v : ℕ) (l : List ℕ) → k < length l → Filled f k l → v ≡ f k → Filled f (k + 1) (set l k v)
filled_more f k v l long h e =
    below_more (λ (j : ℕ). get_or (set l k v) j 0 ≡ f j) k (λ j m. get_or-set_other l k j v 0 (omega arith) ∙ h j m) (get_or-set_same l k v 0 long ∙ e)
