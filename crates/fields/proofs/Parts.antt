-- Parts of a list: what is read in one, and parts side by side. Assumes nothing.
use mathlib.Core.Path.{◌≡◌, sym, ap, ◌∙◌}
use mathlib.Core.List.{List, ◌++◌}
use Prim.Native.Nat.{ℕ, zero, suc, ◌+◌, ◌*◌, ◌≤◌, ◌<◌}
use native.Mathlib.Nat.{add_assoc, suc-mul, zero-mul}
use native.Mathlib.Omega.{arith}
use lib.ListN.{length, get_or, drop, length-drop}
use lib.Seq.{length-take-le, get_or-take, get_or-drop, take-add, drop-drop}
use Rattle.rules.specs.Words.{cat}
use Rattle.rules.specs.Image.{be}
use Rattle.fields.specs.Fields.{part}
use Rattle.fields.proofs.Bytes.{be_ext}

module _ {A : Type 0} (l : List A) (at : ℕ) where
  pub length_part : (size : ℕ) → at + size ≤ length l → length (part l at size) ≡ size
  length_part size h = length-take-le size (drop at l) (omega (arith, length-drop at l))

  pub get_d_part : (size i : ℕ) (d : A) → i < size → get_or (part l at size) i d ≡ get_or l (at + i) d
  get_d_part size i d h = get_or-take size (drop at l) i d h ∙ get_or-drop at l i d

  -- two parts side by side are one
  pub part-add : (m n : ℕ) → part l at (m + n) ≡ part l at m ++ part l (at + m) n
  part-add m n = take-add m n (drop at l) ∙ rw drop-drop

  pub part_join : {x y : List A} (i m n size : ℕ) → i ≡ at + m → size ≡ m + n → x ≡ part l at m → y ≡ part l i n → x ++ y ≡ part l at size
  part_join i m n size e s p q = rw (p, q, e, s) (sym (part-add m n))

  -- and so are n of one size, the k-th of them at `start k`
  module _ (size : ℕ) (start : ℕ → ℕ) (starts : (k : ℕ) → start k ≡ at + k * size) where
    pub cat-part : (f : ℕ → List A) (n : ℕ) → ((k : ℕ) → k < n → f k ≡ part l (start k) size) → cat f n ≡ part l at (n * size)
    unfolding cat
    cat-part f zero h = sym (ap (part l at) (zero-mul size))
    cat-part f (suc n) h =
        part_join (start n) (n * size) size (suc n * size) (starts n) (suc-mul n size) (cat-part f n (λ k b. h k (omega arith))) (h n (omega arith))

-- a number read in a part is the number of the whole list
pub be-part : (l : List ℕ) (at size i w : ℕ) → i + w ≤ size → be (part l at size) i w ≡ be l (at + i) w
be-part l at size i w h =
    be_ext (part l at size) l i (at + i) w (λ k b. get_d_part l at size (i + k) 0 (omega arith) ∙ ap (λ (n : ℕ). get_or l n 0) (sym (add_assoc at i k)))
